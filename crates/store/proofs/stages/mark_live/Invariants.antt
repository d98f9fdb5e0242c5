-- Run by run: x is a multiple of a run's length.
use Prim.Native.Nat.{◌-◌, ◌≤◌, ◌%◌}
use mathlib.Core.Path.{◌≡◌}
use Rattle.page.specs.Plan.{places}
use Rattle.store.specs.Stages.{LiveMarked}
use Rattle.store.specs.Testing.{run_length}
use Rattle.store.proofs.stages.mark_live.Given as goal

abbrev pub invariant-loop-x : goal.invariant-loop-x
invariant-loop-x l = (l.x ≤ places) × (l.x % run_length ≡ 0) × LiveMarked l.map l.marked l.x

abbrev pub decreases-loop-x : goal.decreases-loop-x
decreases-loop-x l = places - l.x
