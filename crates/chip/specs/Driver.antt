-- Document 02, #109: the cycles that the driver sends for a step of the flash, and its replies.
use Rattle.std.specs.Prelude.{ℕ, ◌*◌, ◌/◌, ◌%◌, true, false, cond, List, [], ◌∷◌, ◌++◌, map, length, get_or, eqb, leb, ltb}
use Rattle.page.specs.Frame.{page_size}
use Rattle.image.specs.Size.{pages_in_block, blocks, pages, size_right}
use Rattle.image.specs.Look.{page_empty}
use Rattle.image.specs.Step.{Step, program, erase, whole}
use Rattle.chip.specs.declared.Cycle.{Cycle}
use Rattle.chip.specs.declared.State.TheVariants.{Status}
use Rattle.chip.specs.declared.Registers.{Registers}
use Rattle.chip.specs.Cycle.{command, address, data_byte, program_first, program_second, erase_first, erase_second, read_status, reset}
use Rattle.chip.specs.Registers.{resting}
use Rattle.chip.specs.Bus.{Chip, chip, run, received}

-- ---- the cycles of a step
-- three row cycles, low byte first, and the cycles after them
abbrev pub row_then : ℕ → List Cycle → List Cycle
row_then row cs = address (row % 256) ∷ address (row / 256 % 256) ∷ address (row / 65536 % 256) ∷ cs

-- the same one by one
abbrev pub row_cycle : ℕ → ℕ → Cycle
row_cycle row i =
    cond (eqb i 0) (address (row % 256)) (cond (eqb i 1) (address (row / 256 % 256)) (address (row / 65536 % 256)))

-- program page g, column 0, with a page's bytes
unfoldable pub program_cycles : ℕ → List ℕ → List Cycle
program_cycles g page =
    command reset ∷ command program_first ∷ address 0 ∷ address 0
    ∷ row_then g (map data_byte page ++ (command program_second ∷ command read_status ∷ []))

-- erase block b, by its first page
unfoldable pub erase_cycles : ℕ → List Cycle
erase_cycles b = command reset ∷ command erase_first ∷ row_then (b * pages_in_block) (command erase_second ∷ command read_status ∷ [])

-- cycle i of them; behind the last, the status again
abbrev pub cycle_at : List Cycle → ℕ → Cycle
cycle_at cs i = get_or cs i (command read_status)

-- ---- the driver's replies
-- what the chip and the driver came to
pub record Driven : Type 0 where
  pub reply : ℕ
  pub end : Chip

abbrev pub driven : ℕ → Registers → List ℕ → Driven
driven reply r img = record { reply = reply; end = chip r img }

-- the reply by the status byte, whose bit 0 is failed
abbrev pub reply_of : ℕ → ℕ
reply_of status = cond (eqb (status % 2) 1) 10 0

-- the status byte is read
abbrev pub ended : Chip → Driven
ended d =
    let g = received d.registers d.image in
    driven (reply_of g.byte) g.registers d.image

-- cycles sent until the chip replies 1, then the status
unfoldable pub drove : List Cycle → Registers → List ℕ → Driven
drove cs r img = cond (size_right img) (ended (run cs (chip r img))) (driven 1 r img)

abbrev pub last_page : ℕ
last_page = 4095

abbrev pub last_block : ℕ
last_block = 255

unfoldable pub drove_program : ℕ → List ℕ → Registers → List ℕ → Driven
drove_program g page r img =
    cond (eqb (length page) page_size) (cond (leb g last_page) (drove (program_cycles g page) r img) (driven 10 r img)) (driven 6 r img)

unfoldable pub drove_erase : ℕ → Registers → List ℕ → Driven
drove_erase b r img = cond (leb b last_block) (drove (erase_cycles b) r img) (driven 10 r img)

-- ---- what becomes of a step: it is done where the chip has the page, empty, or the block; else the chip fails and nothing changes
abbrev pub done : Step → List ℕ → Driven
done s img = driven 0 (resting Status false) (whole s img)

abbrev pub failed : List ℕ → Driven
failed img = driven 10 (resting Status true) img

unfoldable pub program_outcome : ℕ → List ℕ → Registers → List ℕ → Driven
program_outcome g page r img =
    cond (eqb (length page) page_size)
    (cond (leb g last_page)
    (cond (size_right img)
    (cond (ltb g (pages img)) (cond (page_empty img g) (done (program g page) img) (failed img)) (failed img))
    (driven 1 r img))
    (driven 10 r img))
    (driven 6 r img)

unfoldable pub erase_outcome : ℕ → Registers → List ℕ → Driven
erase_outcome b r img =
    cond (leb b last_block)
    (cond (size_right img)
    (cond (ltb b (blocks img)) (done (erase b) img) (failed img))
    (driven 1 r img))
    (driven 10 r img)
