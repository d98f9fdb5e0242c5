-- Document 01, "Page forms": the payloads of a commit's parts. Parts 0 and 1 hold one letter per key position, parts 2 to 9 one entry per place.
use Rattle.std.specs.Prelude.{ℕ, zero, suc, ◌+◌, ◌*◌, ◌-◌, ◌/◌, ◌%◌, Bool, true, false, cond, ◌&&◌, ◌||◌, List, [], ◌∷◌, ◌++◌, get_or, eqb, leb, ltb}
use Rattle.base.specs.Part.{part}
use Rattle.base.specs.Each.{same}
use Rattle.base.specs.Search.{all_from}
use Rattle.page.specs.Frame.{payload_size}
use Rattle.page.specs.Column.{spell, number_in, number_then}
use Rattle.page.specs.Plan.{places}
use Rattle.page.specs.Header.{last_position}
use Rattle.page.specs.declared.Entry.{Entry}
use Rattle.page.specs.declared.Entry.TheVariants.{At, Vacant, Misspelt}

-- ---- letters: f free, u used, d deleted
abbrev pub free_letter : ℕ
free_letter = 0x66

abbrev pub used_letter : ℕ
used_letter = 0x75

abbrev pub deleted_letter : ℕ
deleted_letter = 0x64

abbrev pub is_letter : ℕ → Bool
is_letter b = eqb b free_letter || eqb b used_letter || eqb b deleted_letter

-- ---- entries: a page and a key position in 4 columns each, or none
abbrev pub entry_width : ℕ
entry_width = 4

abbrev pub entry_size : ℕ
entry_size = 8

abbrev pub entries_in_part : ℕ
entries_in_part = 28

abbrev pub last_page : ℕ
last_page = 4095

-- the first part that holds entries, and the number of parts of a commit
abbrev pub first_entry_part : ℕ
first_entry_part = 2

abbrev pub parts : ℕ
parts = 10

-- 65,535 stands for none in a map
abbrev pub none : ℕ
none = 65535

-- none is `   -   -`
abbrev pub vacant_entry : List ℕ
vacant_entry = 0x20 ∷ 0x20 ∷ 0x20 ∷ 0x2d ∷ 0x20 ∷ 0x20 ∷ 0x20 ∷ 0x2d ∷ []

-- the entry of a page and a key, as a map has them
unfoldable pub entry_bytes : ℕ → ℕ → List ℕ
entry_bytes page key = cond (eqb page none) vacant_entry (spell entry_width page ++ spell entry_width key)

-- the entry that 8 bytes are
unfoldable pub entry_of : List ℕ → Entry
entry_of xs =
    cond (same xs vacant_entry) Vacant
    (number_then (number_in (part xs 0 entry_width)) Misspelt λ page.
    number_then (number_in (part xs entry_width entry_width)) Misspelt λ key.
    cond (leb page last_page && leb key last_position) (At page key) Misspelt)

abbrev pub is_entry : Entry → Bool
is_entry (At page key) = true
is_entry Vacant = true
is_entry Misspelt = false

-- ---- places: the part and the bytes of that part's payload where a place's entry stands
abbrev pub entry_part : ℕ → ℕ
entry_part x = first_entry_part + x / entries_in_part

abbrev pub entry_at : ℕ → ℕ
entry_at x = entry_size * (x % entries_in_part)

-- ---- payloads
-- a map has a page for each place, then a key for each
abbrev pub map_size : ℕ
map_size = places + places

-- the entries of n places from x on
unfoldable pub entries_from : List ℕ → ℕ → ℕ → List ℕ
entries_from map zero x = []
entries_from map (suc n) x = entry_bytes (get_or map x none) (get_or map (places + x) none) ++ entries_from map n (suc x)

-- the payload of a commit's part i
unfoldable pub commit_payload : List ℕ → List ℕ → ℕ → List ℕ
commit_payload map letters i =
    cond (ltb i first_entry_part) (part letters (payload_size * i) payload_size) (entries_from map entries_in_part (entries_in_part * (i - first_entry_part)))

-- whether a payload is valid as that of part i: letters, or entries
unfoldable pub valid_payload : ℕ → List ℕ → Bool
valid_payload i payload =
    cond (ltb i first_entry_part)
    (all_from (λ j. is_letter (get_or payload j 0)) payload_size 0)
    (all_from (λ j. is_entry (entry_of (part payload (entry_size * j) entry_size))) entries_in_part 0)
