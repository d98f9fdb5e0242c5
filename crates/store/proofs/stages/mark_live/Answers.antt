-- Run by run.
use native.Mathlib.Omega.{arith}
use mathlib.Core.Path.{refl}
use Rattle.store.proofs.Unused.{marked_none, marked_all}
use Rattle.store.proofs.stages.mark_live.Goals as goal

pub loop-x-init : goal.loop-x-init
loop-x-init c = (omega arith, refl, marked_none c.args.map.now c.args.marked.now c.requires)

pub returns : goal.returns
returns c = let l = c.loop-x in marked_all _ l.marked l.x l.invariant.2 (omega arith)
