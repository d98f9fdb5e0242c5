-- u stands at the positions that the places so far have named, run by run.
use native.Mathlib.Omega.{arith}
use mathlib.Core.Path.{refl, sym}
use Rattle.store.proofs.Markings.{marked_none, marked_apart, marked_letters}
use Rattle.store.proofs.rebuild.use_keys.Goals as goal

pub loop-x-init : goal.loop-x-init
loop-x-init c = (omega arith, refl, marked_none c.args.map.now c.args.letters.now (omega arith) c.requires)

pub returns : goal.returns
returns c =
    let l = c.loop-x in
    let a = c.args in
    (sym (marked_apart a.map.now a.letters.now l.letters l.x (omega arith) l.invariant.2), λ _. marked_letters a.map.now a.letters.now l.letters l.x (omega arith) l.invariant.2)
