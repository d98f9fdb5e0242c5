-- Document 02, #102: where the copies of a gather go, as code finds it. All are found on the image before the first copy, each from the one before it.
use Rattle.std.specs.Prelude.{ℕ, zero, suc, ◌+◌, ◌*◌, ◌-◌, ◌/◌, ◌%◌, ◌<◌, ◌≡◌, Bool, false, cond, List, [], ◌∷◌, map as each, eqb, ltb, length, get_or, set, Option, Some, None, Result, Ok, Err}
use Rattle.base.specs.Search.{first_from, all_from, found}
use Rattle.page.specs.Plan.{places}
use Rattle.image.specs.Size.{pages_in_block, blocks, pages}
use Rattle.image.specs.Look.{page_empty}
use Rattle.image.specs.Step.{Step, program}
use Rattle.store.specs.Kind.{page_in}
use Rattle.store.specs.Find.{is_open, fresh_page, or_else, is_open_but, new_page_but}
use Rattle.store.specs.Write.{next_sequence}
use Rattle.store.specs.Reply.{Done, verdict}
use Rattle.store.specs.Record.{Record}
use Rattle.store.specs.Gather.{place_on, copy_of, live_pages, gather_tests}
use Rattle.store.specs.declared.Error.{Error}
use Rattle.store.specs.declared.Numbers.{Numbers}

-- ---- pages
-- block b is the one to leave out
abbrev pub is_left_out : Option ℕ → ℕ → Bool
is_left_out (Some a) b = eqb a b
is_left_out None b = false

-- block b has an open page
unfoldable pub has_open : List ℕ → Numbers → ℕ → Bool
has_open img r b = ltb (first_from (λ i. is_open img r (page_in b i)) pages_in_block 0) pages_in_block

-- the lowest open page from block b on
unfoldable pub open_page_from : Option ℕ → List ℕ → Numbers → ℕ → Option ℕ
open_page_from but img r b = found (pages img) (first_from (is_open_but but img r) (pages img - b * pages_in_block) (b * pages_in_block))

-- it is one of block b: the first of the empty pages at the end of the block
pub record OpenIn (but : Option ℕ) (img : List ℕ) (r : Numbers) (from b : ℕ) : Type 0 where
  pub inside : b < blocks img
  pub lowest : open_page_from but img r from ≡ Some (page_in b (first_from (λ i. all_from (page_empty img) (pages_in_block - i) (page_in b i)) pages_in_block 0))

-- else the first page of an empty block
unfoldable pub new_page_from : Option ℕ → List ℕ → Numbers → ℕ → Option ℕ
new_page_from but img r b = or_else (open_page_from but img r b) (fresh_page img)

-- the page after g: the next of its block, else one of a later block
abbrev pub page_after : Option ℕ → List ℕ → Numbers → ℕ → Option ℕ
page_after but img r g = cond (ltb (g % pages_in_block) (pages_in_block - 1)) (Some (g + 1)) (new_page_from but img r (g / pages_in_block + 1))

-- n pages in turn, the first of which is given; fewer where one is not found
unfoldable pub pages_from : Option ℕ → List ℕ → Numbers → ℕ → Option ℕ → List ℕ
pages_from but img r zero x = []
pages_from but img r (suc n) (Some g) = g ∷ pages_from but img r n (page_after but img r g)
pages_from but img r (suc n) None = []

-- those of n copies out of a block
abbrev pub targets : ℕ → List ℕ → Numbers → ℕ → List ℕ
targets block img r n = pages_from (Some block) img r n (new_page_but (Some block) img r)

-- the page of one of them: of the first, or of that after the one that took a page
abbrev pub next_target : ℕ → List ℕ → Numbers → Option ℕ → Option ℕ
next_target block img r None = new_page_but (Some block) img r
next_target block img r (Some g) = page_after (Some block) img r g

-- ---- copies of some pages to as many others
abbrev pub copies_to : List ℕ → List ℕ → List ℕ → ℕ → List Step
copies_to img [] ts s = []
copies_to img (g ∷ gs) [] s = []
copies_to img (g ∷ gs) (t ∷ ts) s = program t (copy_of img g s) ∷ copies_to img gs ts (s + 1)

-- a map whose places have these pages in place of those
abbrev pub moved_to : List ℕ → List ℕ → List ℕ → List ℕ → List ℕ
moved_to map [] ts m = m
moved_to map (g ∷ gs) [] m = m
moved_to map (g ∷ gs) (t ∷ ts) m = moved_to map gs ts (set m (place_on map g) t)

-- n sequences used
abbrev pub sequences_used : ℕ → Numbers → Numbers
sequences_used zero r = r
sequences_used (suc n) r = sequences_used n (next_sequence r)

-- ---- tables
-- for each page of a block its place, if it is live
pub record PlacesIn (map : List ℕ) (block : ℕ) (at : List (Option ℕ)) : Type 0 where
  pub full : length at ≡ pages_in_block
  pub each : (i : ℕ) → i < pages_in_block → get_or at i None ≡ found places (place_on map (page_in block i))

-- the place of a page, and the pages of the copies in a table of both
abbrev pub place_in : Option (ℕ × ℕ) → Option ℕ
place_in (Some m) = Some m.0
place_in None = None

abbrev pub pages_to : List (Option (ℕ × ℕ)) → List ℕ
pages_to [] = []
pages_to (Some m ∷ ms) = m.1 ∷ pages_to ms
pages_to (None ∷ ms) = pages_to ms

-- a table of both, with the places that another has, and these pages in order
pub record Moved (at : List (Option ℕ)) (ts : List ℕ) (moves : List (Option (ℕ × ℕ))) : Type 0 where
  pub placed : each place_in moves ≡ at
  pub in_order : pages_to moves ≡ ts

-- for each page of a block its place and the page of its copy, if it is live; the pages are these in order
pub record MovesIn (map : List ℕ) (block : ℕ) (ts : List ℕ) (moves : List (Option (ℕ × ℕ))) : Type 0 where
  pub placed : PlacesIn map block (each place_in moves)
  pub in_order : pages_to moves ≡ ts

-- ---- what the tests of a gather hand on: where all are passed, for each live page of the block its place and the page of its copy
abbrev pub Tried : List ℕ → Record → ℕ → Result (List (Option (ℕ × ℕ))) Error → Type 0
Tried img r block (Ok moves) =
    (verdict (gather_tests img r block) ≡ Done)
    × MovesIn r.map block (targets block img r.numbers (length (live_pages r.map block))) moves
Tried img r block (Err error) = verdict (gather_tests img r block) ≡ Err error
