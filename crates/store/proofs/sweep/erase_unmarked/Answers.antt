-- Those before b are erased.
use Prim.Native.Nat.{ℕ, ◌<◌}
use native.Mathlib.Omega.{arith}
use mathlib.Core.Path.{ap}
use mathlib.Core.Bool.{false, not}
use lib.ListN.{get_or}
use Rattle.image.specs.Size.{blocks}
use Rattle.store.proofs.Erasures.{erasing_past, erasing_next, erasing_last}
use Rattle.store.proofs.sweep.erase_unmarked.Goals as goal
use Rattle.store.proofs.sweep.erase_unmarked.Goals.{then-not-kept-b, else-not-kept-b}

pub loop-b-preserved : goal.loop-b-preserved
loop-b-preserved c =
    let a = c.args in
    let l = c.loop-b in
    let n = blocks a.image.now in
    let unmarked = λ (b : ℕ). not (get_or a.kept.now b false) in
    let h : l.b < n = omega (arith, c.blocks-b-end.ensures) in
    elim c.if-not-kept-b.branch [
      | then-not-kept-b w ↦ rw (w.image-is, w.q-is) (erasing_next unmarked n a.image.now a.p l.image _ l.q _ l.b l.invariant h (omega arith) (ap not w.if-not-kept-b.true) w.erase_block-q.ensures)
      | else-not-kept-b w ↦ rw (w.image-is, w.q-is) (erasing_past unmarked n a.image.now a.p l.image l.q l.b l.invariant h (ap not w.if-not-kept-b.false))
    ]

pub returns : goal.returns
returns c = let l = c.loop-b in erasing_last _ _ _ _ l.image l.q l.b l.invariant (omega (arith, c.blocks-b-end.ensures))
