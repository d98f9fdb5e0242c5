-- The loop's invariant: the pages of the block from i on are empty.
use Prim.Native.Nat.{◌+◌, ◌-◌}
use native.Mathlib.Omega.{arith}
use mathlib.Core.Path.{◌≡◌, sym, ◌∙◌}
use Rattle.store.proofs.OpenPages.{empty_back, empty_none, empty_start}
use Rattle.store.proofs.find.empty_from.Goals as goal

pub loop-i-init : goal.loop-i-init
loop-i-init c = empty_none _ _

pub returns-then-not-page_empty : goal.returns-then-not-page_empty
returns-then-not-page_empty c =
    let l = c.loop-i in
    let e : l.i - 1 + 1 ≡ l.i = omega arith in
    (e ∙ sym (empty_start _ _ l.i (omega arith) l.invariant (λ h. sym c.page_empty.ensures ∙ c.if-not-page_empty.true)), omega arith)

pub loop-i-preserved : goal.loop-i-preserved
loop-i-preserved c =
    let l = c.loop-i in
    empty_back _ _ l.i (omega arith) (omega arith) (sym c.page_empty.ensures ∙ c.if-not-page_empty.false) l.invariant

pub returns : goal.returns
returns c =
    let l = c.loop-i in
    let e : l.i ≡ 0 = omega arith in
    (sym (empty_start _ _ 0 (omega arith) (rw e at l.invariant) (λ h. absurd (omega arith))), omega arith)
