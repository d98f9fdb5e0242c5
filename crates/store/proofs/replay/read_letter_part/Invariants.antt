-- `store::replay::read_letter_part` meets its contract: the positions passed have their letters.
use Prim.Native.Nat.{ℕ, ◌<◌}
use mathlib.Core.Path.{◌≡◌}
use mathlib.Core.Bool.{cond}
use lib.ListN.{get_or}
use lib.Dec.{eqb}
use Rattle.page.specs.Entry.{free_letter, deleted_letter}
use Rattle.store.proofs.replay.read_letter_part.Given as goal

abbrev pub invariant-loop-p : goal.invariant-loop-p
invariant-loop-p l = (q : ℕ) → q < l.p → get_or l.letters q 0 ≡ cond (eqb (get_or l.payload q 0) free_letter) free_letter deleted_letter
