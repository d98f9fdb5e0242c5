-- `listing::list` meets its contract: longer input is refused, and an image listed.
use borrow.Author.Tests.{lt-ltb, le-ltb}
use native.Mathlib.Omega.{arith}
use lib.ListN.{length}
use Rattle.listing.specs.Listing.{longest, listed}
use Rattle.listing.proofs.list.Goals as goal

pub returns-then-input-gt-LONGEST : goal.returns-then-input-gt-LONGEST
unfolding listed
returns-then-input-gt-LONGEST c =
    let p = c.refusal.ensures in
    (p.0, rw (lt-ltb longest (length c.args.input.now) c.if-input-gt-LONGEST.true) p.1)

pub returns : goal.returns
unfolding listed
returns c =
    let p = c.list_image.ensures in
    (p.0, rw (le-ltb longest (length c.args.input.now) (omega (arith, c.if-input-gt-LONGEST.false))) p.1)
