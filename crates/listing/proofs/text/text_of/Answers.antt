-- `text::text_of` meets its contract: the rows and the totals, or the refusal.
use Rattle.listing.specs.Listing.{text_of}
use Rattle.listing.proofs.Texts.{refused_lem}
use Rattle.listing.proofs.text.text_of.Goals as goal

pub returns-in-Ok : goal.returns-in-Ok
unfolding text_of
returns-in-Ok c = let p = c.listed_record.ensures in (p.0, rw c.in-Ok.is p.1)

pub returns-in-Err : goal.returns-in-Err
unfolding text_of
returns-in-Err c = let p = c.refusal.ensures in (p.0, rw (c.in-Err.is, refused_lem c.in-Err.error) p.1)
