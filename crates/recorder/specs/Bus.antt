-- Document 02, #109, as a C caller sees it: the bytes of a step one by one, and the chip's model with its registers in arrays.
use Rattle.std.specs.Prelude.{ℕ, cond, List, [], ◌∷◌, length, set, eqb, leb}
use Rattle.page.specs.Frame.{page_size}
use Rattle.image.specs.Size.{size_right}
use Rattle.chip.specs.declared.Cycle.{Cycle}
use Rattle.chip.specs.Reply.{number_of}
use Rattle.chip.specs.Bus.{Chip, chip, sent, received}
use Rattle.chip.specs.Driver.{program_cycles, erase_cycles, cycle_at, last_page, last_block}
use Rattle.chip.specs.Numbers.{set_of, five_of, pair_of}

-- ---- the driver: a reply, and mark and byte of a cycle, as they were where nothing is to be sent
pub record Given : Type 0 where
  pub reply : ℕ
  pub pair : List ℕ

abbrev pub given : ℕ → List ℕ → Given
given reply pair = record { reply = reply; pair = pair }

-- byte i of the program of page g with these bytes
unfoldable pub program_byte : ℕ → List ℕ → ℕ → List ℕ → Given
program_byte g page i before =
    cond (eqb (length page) page_size)
    (cond (leb g last_page) (given 0 (pair_of (cycle_at (program_cycles g page) i))) (given 10 before))
    (given 6 before)

-- byte i of the erase of block b
unfoldable pub erase_byte : ℕ → ℕ → List ℕ → Given
erase_byte b i before = cond (leb b last_block) (given 0 (pair_of (cycle_at (erase_cycles b) i))) (given 10 before)

-- ---- the model: a reply, the image, the registers and the page register
pub record Modelled : Type 0 where
  pub reply : ℕ
  pub image : List ℕ
  pub five : List ℕ
  pub page : List ℕ

abbrev pub modelled : ℕ → List ℕ → List ℕ → List ℕ → Modelled
modelled reply img five page = record { reply = reply; image = img; five = five; page = page }

abbrev pub model_of : Chip → Modelled
model_of d = modelled 0 d.image (five_of d.registers) d.registers.page

-- a byte sent; a wrong image changes nothing
unfoldable pub model_sent : Cycle → List ℕ → List ℕ → List ℕ → Modelled
model_sent c img five page = cond (size_right img) (model_of (sent c (chip (set_of five page) img))) (modelled 1 img five page)

-- a byte received: it moves the column at most, the third of the five
pub record Fetched : Type 0 where
  pub reply : ℕ
  pub five : List ℕ
  pub byte : List ℕ

abbrev pub fetched : ℕ → List ℕ → List ℕ → Fetched
fetched reply five byte = record { reply = reply; five = five; byte = byte }

unfoldable pub model_received : List ℕ → List ℕ → List ℕ → Fetched
model_received img five page =
    let g = received (set_of five page) img in
    fetched (number_of g.reply) (set five 2 g.registers.column) (g.byte ∷ [])
