-- `store::fit::file_fits` meets its contract, run by run.
use Prim.Native.Nat.{◌≤◌, ◌-◌, ◌%◌}
use mathlib.Core.Path.{◌≡◌}
use Rattle.store.specs.Testing.{run_length, Tested}
use Rattle.store.proofs.fit.file_fits.Given as goal

abbrev pub invariant-loop-x : goal.invariant-loop-x
invariant-loop-x l =
    (l.first ≤ l.x) × (l.x ≤ l.end) × ((l.x - l.first) % run_length ≡ 0) × Tested l.image l.map l.named l.x

abbrev pub decreases-loop-x : goal.decreases-loop-x
decreases-loop-x l = l.end - l.x
