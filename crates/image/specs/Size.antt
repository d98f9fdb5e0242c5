-- Document 01, "The flash image": how large an image is, in blocks and pages.
use Rattle.std.specs.Prelude.{ℕ, ◌/◌, ◌%◌, Bool, ◌&&◌, List, length, eqb, leb}
use Rattle.page.specs.Frame.{page_size}

abbrev pub block_size : ℕ
block_size = 4096

abbrev pub pages_in_block : ℕ
pages_in_block = 16

abbrev pub fewest_blocks : ℕ
fewest_blocks = 8

abbrev pub most_blocks : ℕ
most_blocks = 256

-- how many blocks and pages an image has
abbrev pub blocks : List ℕ → ℕ
blocks img = length img / block_size

abbrev pub pages : List ℕ → ℕ
pages img = length img / page_size

-- a length of 8 to 256 full blocks
abbrev pub right_length : ℕ → Bool
right_length n = eqb (n % block_size) 0 && leb fewest_blocks (n / block_size) && leb (n / block_size) most_blocks

unfoldable pub size_right : List ℕ → Bool
size_right img = right_length (length img)
