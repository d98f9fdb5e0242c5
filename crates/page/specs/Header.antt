-- Document 01, "Page forms": the fields of a header, their ranges for each kind, and its 30 bytes.
use Rattle.std.specs.Prelude.{ℕ, Bool, false, cond, ◌&&◌, ◌||◌, List, ◌∷◌, ◌++◌, length, get_or, eqb, leb, ltb, Option, Some, None}
use Rattle.base.specs.Part.{part}
use Rattle.base.specs.Each.{same}
use Rattle.page.specs.Frame.{payload_size, colon_space}
use Rattle.page.specs.Column.{spell, number_in, number_then}
use Rattle.page.specs.Plan.{file_plan, last_file, count_of}
use Rattle.page.specs.declared.Frame.{Frame}

-- the kind letters N, D, K, C
abbrev pub node_letter : ℕ
node_letter = 0x4e

abbrev pub cut_off_letter : ℕ
cut_off_letter = 0x44

abbrev pub keys_letter : ℕ
keys_letter = 0x4b

abbrev pub commit_letter : ℕ
commit_letter = 0x43

-- sequences and epochs end at 99,999,999
abbrev pub last_number : ℕ
last_number = 99_999_999

-- key positions are 0 to 447, key blocks 0 and 1, their pages 0 to 15, a commit's parts 0 to 9
abbrev pub last_position : ℕ
last_position = 447

abbrev pub last_key_block : ℕ
last_key_block = 1

abbrev pub last_key_page : ℕ
last_key_page = 15

abbrev pub last_part : ℕ
last_part = 9

-- a node's second number is the length of its payload, at most 224; an older recorder's is 0 and means 224
abbrev pub length_of : ℕ → ℕ
length_of second = cond (eqb second 0) payload_size second

-- n is from low to high
abbrev pub within : ℕ → ℕ → ℕ → Bool
within low high n = leb low n && leb n high

-- ---- the headers of each kind, from their fields; an unused field is 0
abbrev pub node_frame : ℕ → ℕ → ℕ → ℕ → ℕ → Frame
node_frame sequence file offset key second =
    record { kind = node_letter; number = sequence; unit = file; part = offset; key = key; second = second }

abbrev pub cut_off_frame : ℕ → ℕ → ℕ → Frame
cut_off_frame sequence file offset =
    record { kind = cut_off_letter; number = sequence; unit = file; part = offset; key = 0; second = 0 }

abbrev pub keys_frame : ℕ → ℕ → ℕ → Frame
keys_frame epoch block page =
    record { kind = keys_letter; number = epoch; unit = block; part = page; key = 0; second = 0 }

abbrev pub commit_frame : ℕ → ℕ → ℕ → Frame
commit_frame epoch i covered =
    record { kind = commit_letter; number = epoch; unit = 0; part = i; key = 0; second = covered }

-- ---- the ranges of each kind's fields
-- the file is 0 to 13, the offset below the file's count
abbrev pub in_plan : Frame → Bool
in_plan f = leb f.unit last_file && ltb f.part (count_of file_plan f.unit)

abbrev pub node_ranges : Frame → Bool
node_ranges f = within 1 last_number f.number && in_plan f && leb f.key last_position && leb f.second payload_size

abbrev pub cut_off_ranges : Frame → Bool
cut_off_ranges f = within 1 last_number f.number && in_plan f && eqb f.key 0 && eqb f.second 0

abbrev pub keys_ranges : Frame → Bool
keys_ranges f =
    within 1 last_number f.number && leb f.unit last_key_block && leb f.part last_key_page && eqb f.key 0 && eqb f.second 0

abbrev pub commit_ranges : Frame → Bool
commit_ranges f =
    within 1 last_number f.number && eqb f.unit 0 && leb f.part last_part && eqb f.key 0 && leb f.second last_number

-- the kind is one of the four letters, and each field in that kind's range
unfoldable pub in_range : Frame → Bool
in_range f =
    cond (eqb f.kind node_letter) (node_ranges f)
    (cond (eqb f.kind cut_off_letter) (cut_off_ranges f)
    (cond (eqb f.kind keys_letter) (keys_ranges f)
    (cond (eqb f.kind commit_letter) (commit_ranges f) false)))

-- ---- where the kind letter, each number and the end of a header stand, and how wide they are
abbrev pub number_width : ℕ
number_width = 8

abbrev pub unit_width : ℕ
unit_width = 3

abbrev pub part_width : ℕ
part_width = 4

abbrev pub key_width : ℕ
key_width = 4

abbrev pub second_width : ℕ
second_width = 8

-- where each starts
abbrev pub kind_at : ℕ
kind_at = 0

abbrev pub number_at : ℕ
number_at = 1

abbrev pub unit_at : ℕ
unit_at = 9

abbrev pub part_at : ℕ
part_at = 12

abbrev pub key_at : ℕ
key_at = 16

abbrev pub second_at : ℕ
second_at = 20

abbrev pub colon_at : ℕ
colon_at = 28

-- the 30 bytes of a header
unfoldable pub header_bytes : Frame → List ℕ
header_bytes f =
    f.kind
    ∷ (spell number_width f.number
    ++ (spell unit_width f.unit
    ++ (spell part_width f.part
    ++ (spell key_width f.key ++ (spell second_width f.second ++ colon_space)))))

-- whether a byte is one of the four kind letters
abbrev pub is_kind : ℕ → Bool
is_kind b = eqb b node_letter || eqb b cut_off_letter || eqb b keys_letter || eqb b commit_letter

-- whether it is the letter of a node or a cut-off
abbrev pub is_event_letter : ℕ → Bool
is_event_letter kind = eqb kind node_letter || eqb kind cut_off_letter

-- the header that 30 bytes are: every field spelt right and in its range
unfoldable pub header_of : List ℕ → Option Frame
header_of xs =
    number_then (number_in (part xs number_at number_width)) None λ number.
    number_then (number_in (part xs unit_at unit_width)) None λ unit.
    number_then (number_in (part xs part_at part_width)) None λ part'.
    number_then (number_in (part xs key_at key_width)) None λ key.
    number_then (number_in (part xs second_at second_width)) None λ second.
    let f : Frame = record { kind = get_or xs kind_at 0; number = number; unit = unit; part = part'; key = key; second = second } in
    cond (same (part xs colon_at (length colon_space)) colon_space && in_range f) (Some f) None

-- ---- tests of a header
-- the same header, field by field
abbrev pub same_frame : Frame → Frame → Bool
same_frame f h =
    eqb f.kind h.kind && eqb f.number h.number && eqb f.unit h.unit && eqb f.part h.part && eqb f.key h.key && eqb f.second h.second

-- a given header
abbrev pub header_with : Frame → Option Frame → Bool
header_with h (Some f) = same_frame f h
header_with h None = false

-- the header of a node of a file, an offset and a key position, of any sequence
abbrev pub node_with : ℕ → ℕ → ℕ → Option Frame → Bool
node_with file offset p (Some f) = eqb f.kind node_letter && eqb f.unit file && eqb f.part offset && eqb f.key p
node_with file offset p None = false

-- 30 bytes as a node with these fields has them, whatever its sequence and its second number
abbrev pub node_spelt : ℕ → ℕ → ℕ → List ℕ → Bool
node_spelt file offset p xs =
    eqb (get_or xs kind_at 0) node_letter
    && same (part xs unit_at 7) (spell unit_width file ++ spell part_width offset)
    && same (part xs key_at key_width) (spell key_width p)
    && same (part xs colon_at (length colon_space)) colon_space
    && number_then (number_in (part xs number_at number_width)) false (leb 1)

-- columns that hold a second number that a node may have
abbrev pub second_right : List ℕ → Bool
second_right columns = number_then (number_in columns) false (λ n. leb n payload_size)

-- where the last four columns of the second number start: those before them are spaces in a node and a cut-off
abbrev pub second_last_at : ℕ
second_last_at = 24

-- a header with another part
abbrev pub with_part : ℕ → Frame → Frame
with_part n f = record { kind = f.kind; number = f.number; unit = f.unit; part = n; key = f.key; second = f.second }

-- a header with another number
abbrev pub with_number : ℕ → Frame → Frame
with_number n f = record { kind = f.kind; number = n; unit = f.unit; part = f.part; key = f.key; second = f.second }

-- the header that another is, but for the part
abbrev pub header_like : Option Frame → ℕ → Option Frame → Bool
header_like (Some f) n h = header_with (with_part n f) h
header_like None n h = false
