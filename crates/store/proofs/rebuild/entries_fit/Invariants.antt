-- All fit where those left do, run by run.
use Prim.Native.Nat.{◌≤◌, ◌-◌, ◌%◌}
use mathlib.Core.Path.{◌≡◌}
use mathlib.Core.Bool.{not, ◌||◌}
use lib.Dec.{eqb}
use lib.ListN.{get_or}
use Rattle.base.specs.Search.{all_from}
use Rattle.page.specs.Plan.{places}
use Rattle.store.specs.Record.{place_fits}
use Rattle.store.specs.Testing.{run_length}
use Rattle.store.proofs.rebuild.entries_fit.Given as goal

abbrev pub invariant-loop-x : goal.invariant-loop-x
invariant-loop-x l =
    (l.x ≤ places) × (l.x % run_length ≡ 0)
    × (all_from (λ y. not (eqb (get_or l.scratch y 0) 0) || place_fits l.image l.map y) places 0 ≡ all_from (λ y. not (eqb (get_or l.scratch y 0) 0) || place_fits l.image l.map y) (places - l.x) l.x)

abbrev pub decreases-loop-x : goal.decreases-loop-x
decreases-loop-x l = places - l.x
