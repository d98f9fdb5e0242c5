-- The blocks before b are marked where they are to be, and the others as they were.
use Prim.Native.Nat.{ℕ, ◌<◌, ◌≤◌}
use mathlib.Core.Path.{◌≡◌}
use mathlib.Core.Bool.{false, not, ◌||◌}
use lib.ListN.{get_or}
use Rattle.store.specs.Kind.{is_data}
use Rattle.store.proofs.stages.mark_others.Given as goal

abbrev pub invariant-loop-b : goal.invariant-loop-b
invariant-loop-b l =
    ((a : ℕ) → a < l.b → get_or l.marked a false ≡ get_or l.initial.marked a false || not (is_data l.image l.numbers a))
    × ((a : ℕ) → l.b ≤ a → get_or l.marked a false ≡ get_or l.initial.marked a false)
