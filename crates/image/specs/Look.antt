-- Document 01, "The flash image" and "Page forms": what stands at a page and at a block of an image.
use Rattle.std.specs.Prelude.{ℕ, ◌*◌, Bool, List, get_or}
use Rattle.base.specs.Part.{part}
use Rattle.base.specs.Search.{first_from, count_from}
use Rattle.page.specs.Frame.{page_size}
use Rattle.page.specs.Form.{is_empty, form_of}
use Rattle.page.specs.declared.Form.{Form}
use Rattle.image.specs.Size.{block_size, blocks}

-- the 256 bytes of page g, the 4,096 bytes of block b
unfoldable pub page_at : List ℕ → ℕ → List ℕ
page_at img g = part img (g * page_size) page_size

unfoldable pub block_at : List ℕ → ℕ → List ℕ
block_at img b = part img (b * block_size) block_size

-- the byte of page g where its kind letter stands
abbrev pub letter_at : List ℕ → ℕ → ℕ
letter_at img g = get_or img (g * page_size) 0

unfoldable pub form_at : List ℕ → ℕ → Form
form_at img g = form_of (page_at img g)

-- empty: nothing but FFh
unfoldable pub page_empty : List ℕ → ℕ → Bool
page_empty img g = is_empty (page_at img g)

unfoldable pub block_empty : List ℕ → ℕ → Bool
block_empty img b = is_empty (block_at img b)

-- the lowest empty block, or the number of blocks where there is none; and how many are empty
unfoldable pub lowest_empty : List ℕ → ℕ
lowest_empty img = first_from (block_empty img) (blocks img) 0

unfoldable pub empty_blocks : List ℕ → ℕ
empty_blocks img = count_from (block_empty img) (blocks img) 0
