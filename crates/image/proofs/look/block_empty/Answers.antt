-- `look::block_empty`: a block is empty where its pages are, and all are where those left are.
use Prim.Native.Nat.{◌+◌, ◌-◌, ◌*◌}
use native.Mathlib.Omega.{arith}
use mathlib.Core.Path.{◌≡◌, sym, ◌∙◌}
use Rattle.base.proofs.Searches.{all_next, all_fails, all_none}
use Rattle.image.proofs.Empties.{block_empty_lem}
use Rattle.image.proofs.look.block_empty.Goals as goal

pub loop-g-init : goal.loop-g-init
loop-g-init c =
    let b = c.args.b in
    let n : (b * 16 + 16) - b * 16 ≡ 16 = omega arith in
    rw n (block_empty_lem c.args.image.now b)

pub returns-then-not-page_empty : goal.returns-then-not-page_empty
returns-then-not-page_empty c =
    let l = c.loop-g in
    sym (l.invariant ∙ all_fails _ _ l.g (omega arith) (sym c.page_empty.ensures ∙ c.if-not-page_empty.true))

pub loop-g-preserved : goal.loop-g-preserved
loop-g-preserved c =
    let l = c.loop-g in
    l.invariant ∙ all_next _ _ l.g (omega arith) (sym c.page_empty.ensures ∙ c.if-not-page_empty.false)

pub returns : goal.returns
returns c = sym (c.loop-g.invariant ∙ all_none _ _ c.loop-g.g c.loop-g-test.false)
