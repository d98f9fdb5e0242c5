-- Document 01, "Calls and their refusals", Write: the key position and the page that a write takes.
use Rattle.std.specs.Prelude.{ℕ, ◌*◌, ◌-◌, ◌/◌, ◌%◌, Bool, true, false, cond, not, ◌&&◌, List, get_or, eqb, leb, ltb, Option, Some, None, is_some}
use Rattle.std.specs.Option.{option_or, unwrap_or}
use Rattle.base.specs.Search.{first_from, all_from, found}
use Rattle.page.specs.Key.{positions}
use Rattle.page.specs.Entry.{free_letter}
use Rattle.image.specs.Size.{pages_in_block, pages}
use Rattle.image.specs.Look.{page_empty, lowest_empty, empty_blocks}
use Rattle.store.specs.Kind.{is_data}
use Rattle.store.specs.declared.Numbers.{Numbers}

-- the lowest f
unfoldable pub lowest_free : List ℕ → Option ℕ
lowest_free letters = found positions (first_from (λ p. eqb (get_or letters p 0) free_letter) positions 0)

-- an open page: it stands in a data block, and from it on the block is empty
unfoldable pub is_open : List ℕ → Numbers → ℕ → Bool
is_open img r g = is_data img r (g / pages_in_block) && all_from (page_empty img) (pages_in_block - g % pages_in_block) g

-- a fresh block's first page, where another block stays empty
unfoldable pub fresh_page : List ℕ → Option ℕ
fresh_page img = cond (leb 2 (empty_blocks img)) (Some (lowest_empty img * pages_in_block)) None

abbrev pub or_else : Option ℕ → Option ℕ → Option ℕ
or_else = option_or

-- a page outside the block that is left out, if one is
abbrev pub is_outside : Option ℕ → ℕ → Bool
is_outside (Some b) g = not (eqb (g / pages_in_block) b)
is_outside None g = true

abbrev pub is_open_but : Option ℕ → List ℕ → Numbers → ℕ → Bool
is_open_but but img r g = is_outside but g && is_open img r g

-- the lowest such page of a data block, else the first page of an empty block
unfoldable pub new_page_but : Option ℕ → List ℕ → Numbers → Option ℕ
new_page_but but img r = or_else (found (pages img) (first_from (is_open_but but img r) (pages img) 0)) (fresh_page img)

-- a write and a cut-off leave no block out
abbrev pub new_page : List ℕ → Numbers → Option ℕ
new_page img r = new_page_but None img r

abbrev pub is_found : Option ℕ → Bool
is_found = is_some

abbrev pub found_at : Option ℕ → ℕ
found_at o = unwrap_or o 0
