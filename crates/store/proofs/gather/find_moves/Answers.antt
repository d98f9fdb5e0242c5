-- The loop's invariant: the places before place i have their pages, and the others follow the last of these.
use native.Mathlib.Omega.{arith}
use mathlib.Core.Path.{sym}
use Rattle.image.proofs.Looks.{sized}
use Rattle.store.proofs.GatherLoops.{finding_first, finding_past, finding_next, finding_none, finding_last, target_inside}
use Rattle.store.proofs.gather.find_moves.Goals as goal
use Rattle.store.proofs.gather.find_moves.Goals.{in-Some+in_ok-to, in_default}

pub loop-i-init : goal.loop-i-init
loop-i-init c = let a = c.args in rw c.told-at at (finding_first a.block a.image.now a.numbers a.at.now)

pub returns-in_err-to : goal.returns-in_err-to
returns-in_err-to c =
    let a = c.args in
    let l = c.loop-i in
    rw c.from_residual.ensures
    (finding_none a.block a.image.now a.numbers a.at.now l.moves l.last l.i l.invariant (omega (arith, c.told-at)) _ c.in-Some.is (sym c.in_err-to.ensures))

pub overflow_cast-moves : goal.overflow_cast-moves
overflow_cast-moves c =
    let a = c.args in
    let z = sized a.image.now c.requires in
    omega (arith, target_inside a.block a.image.now a.numbers c.loop-i.last _ c.requires c.loop-i.invariant.inside (sym c.in_ok-to.ensures), z.paged, z.most)

pub loop-i-preserved : goal.loop-i-preserved
loop-i-preserved c =
    let a = c.args in
    let l = c.loop-i in
    elim c.match-place.branch [
      | in-Some+in_ok-to w ↦
          let e = sym w.in_ok-to.ensures in
          rw (w.moves-is, w.last-is) (finding_next a.block a.image.now a.numbers a.at.now l.moves l.last l.i l.invariant (omega (arith, c.told-at)) _ _
          (target_inside a.block a.image.now a.numbers l.last _ c.requires l.invariant.inside e) w.in-Some.is e)
      | in_default w ↦
          rw (w.moves-is, w.last-is) (finding_past a.block a.image.now a.numbers a.at.now l.moves l.last l.i l.invariant (omega (arith, c.told-at)) w.in_default.is)
    ]

pub returns : goal.returns
returns c =
    let a = c.args in
    let l = c.loop-i in
    finding_last a.block a.image.now a.numbers a.at.now l.moves l.last l.i l.invariant (omega (arith, c.told-at))
