-- Document 01, "Calls and their refusals": Write.
use Rattle.std.specs.Prelude.{ℕ, ◌+◌, Bool, cond, List, [], ◌∷◌, ◌++◌, length, set, eqb, leb, ltb, Result}
use Rattle.page.specs.Frame.{payload_size}
use Rattle.page.specs.Plan.{file_plan, last_file, places, count_of, start_of}
use Rattle.page.specs.Header.{within, last_number}
use Rattle.page.specs.Key.{key_block}
use Rattle.page.specs.Entry.{used_letter, deleted_letter}
use Rattle.page.specs.Page.{padded, node_page}
use Rattle.image.specs.Look.{block_at}
use Rattle.image.specs.Step.{Step, program}
use Rattle.image.specs.Block.{key_in_block}
use Rattle.store.specs.Reply.{Reply, handed, Test, ◌else◌, verdict}
use Rattle.store.specs.Record.{Record, record_of, key_of, live, fits}
use Rattle.store.specs.Outcome.{Outcome, Left, decided}
use Rattle.store.specs.Find.{lowest_free, new_page, is_found, found_at}
use Rattle.store.specs.Format.{lent_tests}
use Rattle.store.specs.declared.Numbers.{Numbers}
use Rattle.store.specs.declared.Error.{Error}
use Rattle.store.specs.declared.Error.TheVariants.{NoSuchFile, OffsetOutside, PayloadLength, RecordUnfit, NoFreeKey, NoRoom, NumbersSpent}

-- refusals 4 and 5: file above 13; offset not below the count
abbrev pub file_right : ℕ → Bool
file_right file = leb file last_file

abbrev pub offset_right : ℕ → ℕ → Bool
offset_right file offset = ltb offset (count_of file_plan file)

-- the tests of a file and an offset
abbrev pub plan_tests : ℕ → ℕ → List Test
plan_tests file offset = (file_right file else NoSuchFile) ∷ (offset_right file offset else OffsetOutside) ∷ []

-- the tests that write, read and cut-off begin with
abbrev pub place_tests : List ℕ → List ℕ → List ℕ → ℕ → ℕ → List Test
place_tests img map letters file offset = lent_tests img map letters ++ plan_tests file offset

-- refusal 7
abbrev pub fit_tests : List ℕ → Record → List Test
fit_tests img r = (fits img r else RecordUnfit) ∷ []

-- the tests that write and read begin with; right says whether payload or output has a right length, refusal 6
abbrev pub node_tests : List ℕ → Record → ℕ → ℕ → Bool → List Test
node_tests img r file offset right =
    place_tests img r.map r.letters file offset ++ (((right else PayloadLength) ∷ []) ++ fit_tests img r)

-- the tests of what appends a node
abbrev pub append_tests : List ℕ → Record → ℕ → ℕ → Bool → List Test
append_tests img r file offset right =
    node_tests img r file offset right
    ++ ((leb r.numbers.sequence last_number else NumbersSpent)
    ∷ (is_found (lowest_free r.letters) else NoFreeKey)
    ∷ (is_found (new_page img r.numbers) else NoRoom)
    ∷ [])

-- a payload is of 1 to 224 bytes
abbrev pub payload_right : List ℕ → Bool
payload_right payload = within 1 payload_size (length payload)

abbrev pub write_tests : List ℕ → Record → ℕ → ℕ → List ℕ → List Test
write_tests img r file offset payload = append_tests img r file offset (payload_right payload)

-- what the tests of a write hand on: the key position and the page that it takes, or the refusal
abbrev pub taking_of : Reply → ℕ → ℕ → Result (ℕ × ℕ) Error
taking_of v p g = handed v (p, g)

-- the place of a file and an offset below its count
abbrev pub place_at : ℕ → ℕ → ℕ
place_at file offset = start_of file_plan file + offset

-- the key of position p, from its slot of the chosen key block
abbrev pub keys_block : Numbers → ℕ → ℕ
keys_block r q = cond (eqb q 0) r.keys0 r.keys1

unfoldable pub key_held : List ℕ → Numbers → ℕ → List ℕ
key_held img r p = key_in_block (block_at img (keys_block r (key_block p))) p

-- the numbers after a sequence was used
abbrev pub next_sequence : Numbers → Numbers
next_sequence r =
    record { sequence = r.sequence + 1; epoch = r.epoch; keys0 = r.keys0; keys1 = r.keys1; commit = r.commit }

-- a key replaced or removed becomes d
abbrev pub released : List ℕ → List ℕ → ℕ → List ℕ
released map letters x = cond (live map x) (set letters (key_of map x) deleted_letter) letters

-- the record with place x at page g and key position p
abbrev pub placed : Record → ℕ → ℕ → ℕ → Record
placed r x g p =
    record {
      map = set (set r.map x g) (places + x) p;
      letters = set (released r.map r.letters x) p used_letter;
      numbers = next_sequence r.numbers;
    }

-- ---- one motion appends a node: a second number and all 224 bytes, under the lowest free key, on the page that is found
unfoldable pub append_steps : List ℕ → Record → ℕ → ℕ → ℕ → List ℕ → List Step
append_steps img r file offset second bytes =
    let p = found_at (lowest_free r.letters) in
    program (found_at (new_page img r.numbers)) (node_page r.numbers.sequence file offset p second (key_held img r.numbers p) bytes) ∷ []

unfoldable pub append_of : List ℕ → Record → ℕ → ℕ → Bool → ℕ → List ℕ → Outcome
append_of img r file offset right second bytes =
    decided (verdict (append_tests img r file offset right)) (append_steps img r file offset second bytes)
    (placed r (place_at file offset) (found_at (new_page img r.numbers)) (found_at (lowest_free r.letters))) []
    r []

-- a write appends its payload and spaces after it; the second number is the payload's length
abbrev pub write_of : List ℕ → Record → ℕ → ℕ → List ℕ → Outcome
write_of img r file offset payload = append_of img r file offset (payload_right payload) (length payload) (padded payload)

-- what a write leaves, whole or cut: the equation of its contracts
abbrev pub write_leaves : (Outcome → List ℕ → Left) → List ℕ → List ℕ → List ℕ → Numbers → ℕ → ℕ → List ℕ → Left
write_leaves form img map letters numbers file offset payload = form (write_of img (record_of map letters numbers) file offset payload) img
