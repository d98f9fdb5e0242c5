-- The loop's invariant: the pages of the block from i on are empty.
use mathlib.Core.Path.{◌≡◌}
use mathlib.Core.Bool.{true}
use Rattle.store.proofs.OpenPages.{empty_from}
use Rattle.store.proofs.find.empty_from.Given as goal

abbrev pub invariant-loop-i : goal.invariant-loop-i
invariant-loop-i l = empty_from l.image l.b l.i ≡ true
