-- The next page of the block, or a search from the next block on.
use native.Mathlib.Omega.{arith}
use Rattle.image.proofs.Looks.{sized}
use borrow.Author.Tests.{lt-ltb, le-ltb}
use Rattle.store.proofs.find.page_after.Goals as goal

pub returns-then-g : goal.returns-then-g
returns-then-g c = rw (lt-ltb _ _ c.if-g.true)

pub new_page_from-requires : goal.new_page_from-requires
new_page_from-requires c =
    let w = sized c.args.image.now c.requires.0 in
    (c.requires.0, omega arith)

pub returns : goal.returns
returns c = rw (le-ltb _ _ c.if-g.false) c.new_page_from.ensures
