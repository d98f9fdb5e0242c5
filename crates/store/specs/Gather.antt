-- Document 02, #102: Gather. The live pages of one data block are copied out of it, each to the page that a write's search finds on the image as it then is.
use Rattle.std.specs.Prelude.{ℕ, ◌+◌, ◌*◌, Bool, true, ◌&&◌, List, [], ◌∷◌, ◌++◌, eqb, leb, length, set, Option, Some}
use Rattle.base.specs.Search.{first_from, any_from, which_from}
use Rattle.page.specs.Plan.{places}
use Rattle.page.specs.Header.{node_frame, last_number, with_number}
use Rattle.page.specs.Page.{page_bytes, payload_of}
use Rattle.page.specs.declared.Frame.{Frame}
use Rattle.page.specs.declared.Form.{Form}
use Rattle.page.specs.declared.Form.TheVariants.{Empty, Whole, Torn, Spoilt}
use Rattle.image.specs.Size.{pages_in_block}
use Rattle.image.specs.Look.{page_at, form_at}
use Rattle.image.specs.Step.{Step, program, whole}
use Rattle.store.specs.Reply.{Test, ◌else◌, verdict}
use Rattle.store.specs.Kind.{is_data}
use Rattle.store.specs.Record.{Record, record_of, page_of, live}
use Rattle.store.specs.Outcome.{Outcome, Left, decided}
use Rattle.store.specs.Find.{new_page_but, is_found, found_at}
use Rattle.store.specs.Format.{lent_tests}
use Rattle.store.specs.Write.{fit_tests, next_sequence}
use Rattle.store.specs.declared.Numbers.{Numbers}
use Rattle.store.specs.declared.Error.TheVariants.{NoRoom, NumbersSpent, NothingToGather}

-- ---- the live pages of a block
-- place x has page g
abbrev pub is_on : List ℕ → ℕ → ℕ → Bool
is_on map g x = live map x && eqb (page_of map x) g

-- some place has it; and which
unfoldable pub is_live_page : List ℕ → ℕ → Bool
is_live_page map g = any_from (is_on map g) places 0

unfoldable pub place_on : List ℕ → ℕ → ℕ
place_on map g = first_from (is_on map g) places 0

-- lowest first
unfoldable pub live_pages : List ℕ → ℕ → List ℕ
live_pages map block = which_from (is_live_page map) pages_in_block (block * pages_in_block)

-- ---- one copy
-- the header of a page. A live page is whole; of one without a header nothing is copied
abbrev pub header_in : Form → Frame
header_in Empty = node_frame 0 0 0 0 0
header_in (Whole f) = f
header_in (Torn f) = f
header_in Spoilt = node_frame 0 0 0 0 0

-- the page with another sequence: payload bytes, second number and key stay
unfoldable pub copy_of : List ℕ → ℕ → ℕ → List ℕ
copy_of img g s = page_bytes (with_number s (header_in (form_at img g))) (payload_of (page_at img g))

-- where it goes: the page that a write finds outside the block
abbrev pub copy_to : ℕ → List ℕ → Numbers → Option ℕ
copy_to block img r = new_page_but (Some block) img r

unfoldable pub copy_step : ℕ → List ℕ → Record → ℕ → Step
copy_step block img r g = program (found_at (copy_to block img r.numbers)) (copy_of img g r.numbers.sequence)

-- the record then: its place has the new page. The letters stay
abbrev pub moved : Record → ℕ → ℕ → Record
moved r x g = record { map = set r.map x g; letters = r.letters; numbers = next_sequence r.numbers }

unfoldable pub copied : ℕ → List ℕ → Record → ℕ → Record
copied block img r g = moved r (place_on r.map g) (found_at (copy_to block img r.numbers))

-- ---- the copies of some pages in turn, and the record after them
unfoldable pub copy_steps : ℕ → List ℕ → List ℕ → Record → List Step
copy_steps block [] img r = []
copy_steps block (g ∷ gs) img r = copy_step block img r g ∷ copy_steps block gs (whole (copy_step block img r g) img) (copied block img r g)

unfoldable pub copied_all : ℕ → List ℕ → List ℕ → Record → Record
copied_all block [] img r = r
copied_all block (g ∷ gs) img r = copied_all block gs (whole (copy_step block img r g) img) (copied block img r g)

-- a page is found for each of them
unfoldable pub room_for_all : ℕ → List ℕ → List ℕ → Record → Bool
room_for_all block [] img r = true
room_for_all block (g ∷ gs) img r =
    is_found (copy_to block img r.numbers) && room_for_all block gs (whole (copy_step block img r g) img) (copied block img r g)

-- ---- the call
-- refusal 15: a data block, and a live page in it. A number outside the image is no data block
abbrev pub is_gathered : List ℕ → Record → ℕ → Bool
is_gathered img r block = is_data img r.numbers block && leb 1 (length (live_pages r.map block))

abbrev pub gather_tests : List ℕ → Record → ℕ → List Test
gather_tests img r block =
    lent_tests img r.map r.letters
    ++ (fit_tests img r
    ++ ((is_gathered img r block else NothingToGather)
    ∷ (leb (r.numbers.sequence + length (live_pages r.map block)) (last_number + 1) else NumbersSpent)
    ∷ (room_for_all block (live_pages r.map block) img r else NoRoom)
    ∷ []))

-- the block is not erased: the next commit does that
unfoldable pub gather_of : List ℕ → Record → ℕ → Outcome
gather_of img r block =
    decided (verdict (gather_tests img r block)) (copy_steps block (live_pages r.map block) img r)
    (copied_all block (live_pages r.map block) img r) []
    r []

-- what a gather leaves, whole or cut: the equation of its contracts
abbrev pub gather_leaves : (Outcome → List ℕ → Left) → List ℕ → List ℕ → List ℕ → Numbers → ℕ → Left
gather_leaves form img map letters numbers block = form (gather_of img (record_of map letters numbers) block) img
