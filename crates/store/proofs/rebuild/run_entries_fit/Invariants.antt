-- Vacant places fit; else all fit where those left do.
use Prim.Native.Nat.{ℕ, ◌+◌, ◌-◌}
use mathlib.Core.Path.{◌≡◌}
use mathlib.Core.Bool.{Bool, not, ◌||◌}
use mathlib.Core.List.{List}
use lib.Dec.{eqb}
use lib.ListN.{get_or}
use Rattle.base.specs.Search.{all_from}
use Rattle.store.specs.Record.{place_fits}
use Rattle.store.specs.Testing.{run_length}
use Rattle.store.proofs.rebuild.run_entries_fit.Given as goal

abbrev pub entry_fits : List ℕ → List ℕ → List ℕ → ℕ → Bool
entry_fits image map scratch x = not (eqb (get_or scratch x 0) 0) || place_fits image map x

abbrev pub invariant-loop-x : goal.invariant-loop-x
invariant-loop-x l =
    all_from (entry_fits l.image l.map l.scratch) run_length l.from ≡ all_from (entry_fits l.image l.map l.scratch) (l.from + run_length - l.x) l.x
