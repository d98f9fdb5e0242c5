-- `text::refusal` writes the number and the end of the line.
use native.Mathlib.Omega.{arith}
use Rattle.listing.specs.Listing.{refusal}
use Rattle.listing.proofs.text.refusal.Goals as goal

pub returns : goal.returns
unfolding refusal
returns c = (omega arith, rw (c.put_line_end.ensures.1, c.put_number.ensures.1, c.number.ensures, c.empty-text.ensures))
