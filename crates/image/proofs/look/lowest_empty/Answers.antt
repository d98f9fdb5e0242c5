-- `look::lowest_empty` goes up to the first empty block.
use native.Mathlib.Omega.{arith}
use native.Mathlib.Nat.{sub-zero}
use borrow.Author.Tests.{lt-ltb, le-ltb}
use mathlib.Core.Path.{sym, ◌∙◌}
use Rattle.base.proofs.Searches.{first_here, first_next, first_none}
use Rattle.image.specs.Size.{blocks}
use Rattle.image.specs.Look.{lowest_empty}
use Rattle.image.proofs.look.lowest_empty.Goals as goal

pub loop-b-init : goal.loop-b-init
unfolding lowest_empty
loop-b-init c = rw sub-zero

pub returns-then-block_empty : goal.returns-then-block_empty
returns-then-block_empty c =
    let l = c.loop-b in
    let n = c.blocks-b-end.ensures in
    rw (l.invariant ∙ first_here _ _ l.b (omega (arith, n)) (sym c.block_empty.ensures ∙ c.if-block_empty.true), lt-ltb l.b (blocks c.args.image.now) (omega (arith, n)))

pub loop-b-preserved : goal.loop-b-preserved
loop-b-preserved c =
    let l = c.loop-b in
    l.invariant ∙ first_next _ _ l.b (omega (arith, c.blocks-b-end.ensures)) (sym c.block_empty.ensures ∙ c.if-block_empty.false)

pub returns : goal.returns
returns c =
    let l = c.loop-b in
    let n = c.blocks-b-end.ensures in
    rw (l.invariant ∙ first_none _ _ l.b (omega (arith, n)), le-ltb l.b (blocks c.args.image.now) (omega (arith, n)))
