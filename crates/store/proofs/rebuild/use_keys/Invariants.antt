-- u stands at the positions that the places so far have named, run by run.
use Prim.Native.Nat.{◌≤◌, ◌-◌, ◌%◌}
use mathlib.Core.Path.{◌≡◌}
use Rattle.page.specs.Plan.{places}
use Rattle.store.specs.Rebuild.{Marked}
use Rattle.store.specs.Testing.{run_length}
use Rattle.store.proofs.rebuild.use_keys.Given as goal

abbrev pub invariant-loop-x : goal.invariant-loop-x
invariant-loop-x l = (l.x ≤ places) × (l.x % run_length ≡ 0) × Marked l.map l.initial.letters l.letters l.x

abbrev pub decreases-loop-x : goal.decreases-loop-x
decreases-loop-x l = places - l.x
