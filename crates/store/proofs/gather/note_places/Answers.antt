-- The loop's invariant: the places from x on are noted.
use Prim.Native.Nat.{◌-◌}
use native.Mathlib.Omega.{arith}
use mathlib.Core.Path.{◌≡◌}
use Rattle.store.proofs.Records.{page-read}
use Rattle.store.proofs.GatherPlaces.{noted-none, noted_next, noted_all}
use Rattle.store.proofs.gather.note_places.Goals as goal

pub loop-x-init : goal.loop-x-init
loop-x-init c = noted-none c.args.map.now c.args.block

pub loop-x-preserved : goal.loop-x-preserved
loop-x-preserved c =
    let l = c.loop-x in
    let a = c.args in
    let w = c.note_place.ensures in
    let e = page-read a.map.now (l.x - 1) (omega arith) in
    noted_next a.map.now a.block (l.x - 1) l.x l.at _ (omega arith) (omega arith) l.invariant (rw (← e) w)

pub returns : goal.returns
returns c =
    let l = c.loop-x in
    let a = c.args in
    let e : l.x ≡ 0 = omega arith in
    noted_all a.map.now a.block l.at (rw e at l.invariant)
