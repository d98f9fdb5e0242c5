-- Document 01's case of the listing, by computation: the text for the record that its three writes leave.
use mathlib.Core.Path.{◌≡◌, refl}
use mathlib.Core.List.{List, [], ◌∷◌}
use Prim.Native.Nat.{ℕ, ◌+◌}
use lib.ListN.{replicate, set}
use Rattle.base.specs.Search.{first_from, count_from}
use Rattle.page.specs.Column.{spell, columns}
use Rattle.page.specs.Plan.{places, count_of, start_of}
use Rattle.page.specs.Entry.{none, free_letter, used_letter, deleted_letter}
use Rattle.store.specs.Record.{map_size}
use Rattle.listing.specs.Listing.{file_of, offset_of, row, row_of, rows_from, total, totals, text_of}

-- places 0 and 69 with pages 50 and 49, keys 2 and 1; key 0 deleted, 1 and 2 used
abbrev pub case_map : List ℕ
case_map = set (set (set (set (replicate map_size none) 0 50) places 2) 69 49) (places + 69) 1

abbrev pub case_letters : List ℕ
case_letters = deleted_letter ∷ used_letter ∷ used_letter ∷ replicate 445 free_letter

abbrev pub case_text : List ℕ
case_text =
    0x20 ∷ 0x20 ∷ 0x20 ∷ 0x30 ∷ 0x20 ∷ 0x20 ∷ 0x20 ∷ 0x30 ∷ 0x20 ∷ 0x20 ∷ 0x20 ∷ 0x20 ∷ 0x35 ∷ 0x30 ∷ 0x20 ∷ 0x20 ∷ 0x20 ∷ 0x20 ∷ 0x20 ∷ 0x32 ∷ 0x0a ∷
    0x20 ∷ 0x20 ∷ 0x20 ∷ 0x32 ∷ 0x20 ∷ 0x20 ∷ 0x20 ∷ 0x35 ∷ 0x20 ∷ 0x20 ∷ 0x20 ∷ 0x20 ∷ 0x34 ∷ 0x39 ∷ 0x20 ∷ 0x20 ∷ 0x20 ∷ 0x20 ∷ 0x20 ∷ 0x31 ∷ 0x0a ∷
    0x20 ∷ 0x20 ∷ 0x20 ∷ 0x20 ∷ 0x20 ∷ 0x32 ∷ 0x20 ∷ 0x20 ∷ 0x20 ∷ 0x34 ∷ 0x34 ∷ 0x35 ∷ 0x20 ∷ 0x20 ∷ 0x20 ∷ 0x20 ∷ 0x20 ∷ 0x31 ∷ 0x0a ∷ []

pub case_text_lem : text_of 0 case_map case_letters ≡ case_text
unfolding text_of rows_from row_of row total totals file_of offset_of spell columns first_from count_from count_of start_of
case_text_lem = refl
