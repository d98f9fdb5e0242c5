-- `page::entries::all_entries` meets its contract: all are entries where what is left are.
use Prim.Native.Nat.{ℕ, ◌-◌, ◌*◌}
use mathlib.Core.Path.{◌≡◌}
use mathlib.Core.Bool.{Bool}
use mathlib.Core.List.{List}
use Rattle.base.specs.Part.{part}
use Rattle.base.specs.Search.{all_from}
use Rattle.page.specs.Entry.{entry_size, entries_in_part, entry_of, is_entry}
use Rattle.page.proofs.entries.all_entries.Given as goal

-- whether the 8 bytes of entry j are an entry
abbrev pub entry_at_place : List ℕ → ℕ → Bool
entry_at_place payload j = is_entry (entry_of (part payload (entry_size * j) entry_size))

abbrev pub invariant-loop-j : goal.invariant-loop-j
invariant-loop-j l = all_from (entry_at_place l.payload) entries_in_part 0 ≡ all_from (entry_at_place l.payload) (entries_in_part - l.j) l.j
