-- `page::entries::all_letters` meets its contract: all are letters where those passed are and those from there on.
use Prim.Native.Nat.{ℕ, ◌-◌}
use mathlib.Core.Path.{◌≡◌}
use mathlib.Core.Bool.{Bool, ◌&&◌}
use mathlib.Core.List.{List}
use lib.ListN.{get_or}
use Rattle.base.specs.Search.{all_from}
use Rattle.page.specs.Frame.{payload_size}
use Rattle.page.specs.Entry.{is_letter}
use Rattle.page.proofs.entries.all_letters.Given as goal

-- whether the byte at j is a letter
abbrev pub letter_at : List ℕ → ℕ → Bool
letter_at payload j = is_letter (get_or payload j 0)

abbrev pub invariant-loop-b : goal.invariant-loop-b
invariant-loop-b l =
    all_from (letter_at l.payload) payload_size 0 ≡ l.all && all_from (letter_at l.payload) (payload_size - l.b-index) l.b-index
