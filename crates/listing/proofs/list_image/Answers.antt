-- `listing::list_image` meets its contract: the text of what the mount leaves in a record of zeros.
use mathlib.Core.Path.{ap, ◌∙◌}
use Rattle.store.specs.Reply.{number_of}
use Rattle.store.specs.Outcome.{Left}
use Rattle.listing.specs.Listing.{text_of, mounted_copy, listing_of}
use Rattle.listing.proofs.list_image.Goals as goal

pub returns : goal.returns
unfolding mounted_copy listing_of
returns c =
    let p = c.text_of.ensures in
    let e = ap (λ (m : Left). text_of (number_of m.reply) m.after.map m.after.letters) c.mount-answer.ensures in
    (p.0, p.1 ∙ e)
