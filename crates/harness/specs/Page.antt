-- What the entry points into the crate `page` answer. A header goes over as six numbers: kind, number, unit, part, key,
-- second; an entry as two: page and key.
use Rattle.std.specs.Prelude.{cond, ◌&&◌, List, [], ◌∷◌, ℕ, ◌+◌, eqb, ltb, length, get_or}
use Rattle.page.specs.Frame.{header_size, payload_size, page_size}
use Rattle.page.specs.Header.{in_range, header_bytes}
use Rattle.page.specs.Plan.{places}
use Rattle.page.specs.Form.{form_of}
use Rattle.page.specs.Key.{positions}
use Rattle.page.specs.Entry.{entry_size, parts, entry_bytes, entry_of, commit_payload, valid_payload}
use Rattle.page.specs.Page.{cut_off_page, commit_page, cut_page}
use Rattle.page.specs.declared.Frame.{Frame}
use Rattle.page.specs.declared.Form.{Form}
use Rattle.page.specs.declared.Form.TheVariants.{Empty, Whole, Torn, Spoilt}
use Rattle.page.specs.declared.Entry.{Entry}
use Rattle.page.specs.declared.Entry.TheVariants.{At, Vacant, Misspelt}
use Rattle.harness.specs.Answer.{Answer, answer, done, refused, answer_if}

-- ---- headers and forms
abbrev pub fields_in_frame : ℕ
fields_in_frame = 6

-- bytes are below 256
abbrev pub byte_range : ℕ
byte_range = 256

abbrev pub fields_of : Frame → List ℕ
fields_of f = f.kind ∷ f.number ∷ f.unit ∷ f.part ∷ f.key ∷ f.second ∷ []

abbrev pub frame_of : List ℕ → Frame
frame_of xs =
    record { kind = get_or xs 0 0; number = get_or xs 1 0; unit = get_or xs 2 0; part = get_or xs 3 0; key = get_or xs 4 0; second = get_or xs 5 0 }

-- a form as a number, with the fields of a whole or torn page's header
abbrev pub form_reply : Form → List ℕ → Answer
form_reply Empty fields = answer 0 fields
form_reply (Whole f) fields = answer 1 (fields_of f)
form_reply (Torn f) fields = answer 2 (fields_of f)
form_reply Spoilt fields = answer 3 fields

-- the form of a page
unfoldable pub form_answer : List ℕ → List ℕ → Answer
form_answer page fields =
    answer_if (eqb (length page) page_size && eqb (length fields) fields_in_frame) fields (form_reply (form_of page) fields)

-- the bytes of a header, or 1 where its fields are out of range
unfoldable pub header_answer : List ℕ → List ℕ → Answer
header_answer fields header =
    answer_if (eqb (length fields) fields_in_frame && eqb (length header) header_size) header
    (cond (in_range (frame_of fields)) (answer done (header_bytes (frame_of fields))) (answer 1 header))

-- ---- entries
abbrev pub fields_in_entry : ℕ
fields_in_entry = 2

-- the numbers of a map are below 65,536
abbrev pub map_range : ℕ
map_range = 65536

abbrev pub entry_reply : Entry → List ℕ → Answer
entry_reply (At page key) fields = answer done (page ∷ key ∷ [])
entry_reply Vacant fields = answer 1 fields
entry_reply Misspelt fields = answer 2 fields

-- the entry that 8 bytes are
unfoldable pub entry_answer : List ℕ → List ℕ → Answer
entry_answer entry fields =
    answer_if (eqb (length entry) entry_size && eqb (length fields) fields_in_entry) fields (entry_reply (entry_of entry) fields)

-- the bytes of an entry
unfoldable pub write_entry_answer : ℕ → ℕ → List ℕ → Answer
write_entry_answer page key entry =
    answer_if (ltb page map_range && ltb key map_range && eqb (length entry) entry_size) entry (answer done (entry_bytes page key))

-- ---- cut-offs and commits
-- the page of a cut-off, up to byte k
unfoldable pub cut_off_answer : List ℕ → ℕ → ℕ → ℕ → ℕ → Answer
cut_off_answer page sequence file offset k =
    answer_if (eqb (length page) page_size) page (answer done (cut_page k (cut_off_page sequence file offset)))

-- a part of a commit, up to byte k, from a map and letters
unfoldable pub commit_page_answer : List ℕ → ℕ → ℕ → ℕ → List ℕ → List ℕ → ℕ → Answer
commit_page_answer page epoch i covered map letters k =
    answer_if (eqb (length page) page_size && ltb i parts && eqb (length map) (places + places) && eqb (length letters) positions) page
    (answer done (cut_page k (commit_page epoch i covered (commit_payload map letters i))))

-- 1 where a payload is valid as that of part i, else 0
unfoldable pub commit_valid_reply : List ℕ → ℕ → ℕ
commit_valid_reply payload i =
    cond (eqb (length payload) payload_size && ltb i parts) (cond (valid_payload i payload) 1 0) refused
