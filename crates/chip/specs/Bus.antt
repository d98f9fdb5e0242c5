-- Document 02, #109: what one byte of the bus does to the chip, and what is read from it.
use Rattle.std.specs.Prelude.{ℕ, ◌+◌, ◌*◌, ◌/◌, Bool, true, false, cond, ◌&&◌, ◌||◌, List, [], ◌∷◌, get_or, set, eqb, ltb, Err}
use Rattle.page.specs.Frame.{page_size, erased}
use Rattle.image.specs.Size.{pages_in_block, pages, size_right}
use Rattle.image.specs.Look.{page_empty}
use Rattle.image.specs.Step.{program, erase, whole}
use Rattle.chip.specs.declared.Mark.{Mark}
use Rattle.chip.specs.declared.Mark.TheVariants.{Command, Address, Data}
use Rattle.chip.specs.declared.Cycle.{Cycle}
use Rattle.chip.specs.declared.State.{State}
use Rattle.chip.specs.declared.State.TheVariants.{Idle, Status, Output, Read, Program, Erase}
use Rattle.chip.specs.declared.Registers.{Registers}
use Rattle.chip.specs.declared.Got.{Got}
use Rattle.chip.specs.declared.Error.TheVariants.{ImageSize}
use Rattle.chip.specs.Reply.{Reply, Done}
use Rattle.chip.specs.Cycle.{read_first, read_second, program_first, program_second, erase_first, erase_second, read_status, reset}
use Rattle.chip.specs.Registers.{resting, begun, dropped, in_command, column_weight, row_weight, all_cycles, column_cycles, valid, counts_as}

-- a chip: its registers and its flash
pub record Chip : Type 0 where
  pub registers : Registers
  pub image : List ℕ

abbrev pub chip : Registers → List ℕ → Chip
chip r img = record { registers = r; image = img }

-- ---- a command byte
-- the byte that ends a command
abbrev pub second_of : State → ℕ
second_of Idle = read_second
second_of Status = read_second
second_of Output = read_second
second_of Read = read_second
second_of Program = program_second
second_of Erase = erase_second

-- a byte with no command before it: a first byte begins one
unfoldable pub started : ℕ → Registers
started x =
    cond (eqb x read_first) (begun Read 0)
    (cond (eqb x program_first) (begun Program 0)
    (cond (eqb x erase_first) (begun Erase column_cycles)
    dropped))

-- the page is open for reading from the column on
abbrev pub opened : Registers → Registers
opened r = record { state = Output; cycles = r.cycles; column = r.column; row = r.row; page = r.page; failed = r.failed }

-- the whole command is done: a page that is not empty is not programmed, erase takes the block that the row lies in
abbrev pub performed : State → Registers → List ℕ → Chip
performed Idle r img = chip dropped img
performed Status r img = chip dropped img
performed Output r img = chip dropped img
performed Read r img = chip (opened r) img
performed Program r img =
    cond (page_empty img r.row) (chip (resting Idle false) (whole (program r.row r.page) img)) (chip dropped img)
performed Erase r img = chip (resting Idle false) (whole (erase (r.row / pages_in_block)) img)

-- reset and status are taken anywhere, but status does not continue a command
unfoldable pub commanded : ℕ → Registers → List ℕ → Chip
commanded x r img =
    cond (eqb x reset) (chip (resting Idle false) img)
    (cond (eqb x read_status) (chip (resting Status (r.failed || in_command r.state)) img)
    (cond (in_command r.state)
    (cond (eqb r.cycles all_cycles && eqb x (second_of r.state)) (performed r.state r img) (chip dropped img))
    (chip (started x) img)))

-- ---- an address byte, judged once the address is whole
abbrev pub addressed : ℕ → Registers → Registers
addressed x r =
    record {
      state = r.state;
      cycles = r.cycles + 1;
      column = r.column + x * column_weight r.cycles;
      row = r.row + x * row_weight r.cycles;
      page = r.page;
      failed = r.failed;
    }

abbrev pub judged : ℕ → Registers → Registers
judged n r = cond (ltb r.cycles all_cycles) r (cond (ltb r.column page_size && ltb r.row n) r dropped)

unfoldable pub located : ℕ → ℕ → Registers → Registers
located n x r = cond (in_command r.state && ltb r.cycles all_cycles) (judged n (addressed x r)) dropped

-- ---- a data byte: at the column of the page register, which moves on
abbrev pub takes_data : State → Bool
takes_data Idle = false
takes_data Status = false
takes_data Output = false
takes_data Read = false
takes_data Program = true
takes_data Erase = false

abbrev pub filled : ℕ → Registers → Registers
filled x r =
    record { state = r.state; cycles = r.cycles; column = r.column + 1; row = r.row; page = set r.page r.column x; failed = r.failed }

unfoldable pub loaded : ℕ → Registers → Registers
loaded x r = cond (takes_data r.state && eqb r.cycles all_cycles && ltb r.column page_size) (filled x r) dropped

-- ---- a byte by its mark, over a set that cycles leave
abbrev pub moved : Mark → ℕ → Registers → List ℕ → Chip
moved Command x r img = commanded x r img
moved Address x r img = chip (located (pages img) x r) img
moved Data x r img = chip (loaded x r) img

-- one cycle sent to the chip; a wrong image changes nothing
unfoldable pub sent : Cycle → Chip → Chip
sent c d =
    cond (size_right d.image) (moved c.mark c.byte (counts_as (pages d.image) d.registers) d.image) d

-- the reply to it: 1 for a wrong image
unfoldable pub replied : List ℕ → ℕ
replied img = cond (size_right img) 0 1

-- cycles in a row
unfoldable pub run : List Cycle → Chip → Chip
run [] d = d
run (c ∷ cs) d = run cs (sent c d)

-- ---- a byte received from the chip
-- bit 6 ready, always 1; bit 0 failed; all others 0
abbrev pub status_of : Bool → ℕ
status_of failed = cond failed 0x41 0x40

abbrev pub got : Registers → ℕ → Reply → Got
got r x reply = record { registers = r; byte = x; reply = reply }

abbrev pub passed : Registers → Registers
passed r = record { state = r.state; cycles = r.cycles; column = r.column + 1; row = r.row; page = r.page; failed = r.failed }

abbrev pub shown : State → Registers → List ℕ → Got
shown Idle r img = got r erased Done
shown Status r img = got r (status_of r.failed) Done
shown Output r img =
    cond (ltb r.column page_size) (got (passed r) (get_or img (r.row * page_size + r.column) 0) Done) (got r erased Done)
shown Read r img = got r erased Done
shown Program r img = got r erased Done
shown Erase r img = got r erased Done

-- after the second byte of read the page's bytes from the column on, then FFh; after status the status; FFh at any other time, changing nothing
unfoldable pub received : Registers → List ℕ → Got
received r img =
    cond (size_right img) (cond (valid (pages img) r) (shown r.state r img) (got r erased Done)) (got r erased (Err ImageSize))
