-- The blocks before b are marked where they are to be, and the others as they were.
use Prim.Native.Nat.{ℕ, ◌<◌, ◌≤◌}
use mathlib.Core.Path.{◌≡◌}
use mathlib.Core.Bool.{false, ◌||◌}
use lib.ListN.{get_or}
use Rattle.store.specs.Kind.{is_chosen}
use Rattle.store.proofs.sweep.keep.Given as goal

abbrev pub invariant-loop-b : goal.invariant-loop-b
invariant-loop-b l =
    ((a : ℕ) → a < l.b → get_or l.kept a false ≡ is_chosen l.numbers a || get_or l.events a false || get_or l.initial.kept a false)
    × ((a : ℕ) → l.b ≤ a → get_or l.kept a false ≡ get_or l.initial.kept a false)
