-- Document 02, #109: a byte of the bus comes marked command, address or data.
use Rattle.std.specs.Prelude.{ℕ}
use Rattle.chip.specs.declared.Mark.TheVariants.{Command, Address, Data}
use Rattle.chip.specs.declared.Cycle.{Cycle}

abbrev pub command : ℕ → Cycle
command x = record { mark = Command; byte = x }

abbrev pub address : ℕ → Cycle
address x = record { mark = Address; byte = x }

abbrev pub data_byte : ℕ → Cycle
data_byte x = record { mark = Data; byte = x }

-- ONFI's command bytes: the first and the second of read, program and erase, then status and reset
abbrev pub read_first : ℕ
read_first = 0x00

abbrev pub read_second : ℕ
read_second = 0x30

abbrev pub program_first : ℕ
program_first = 0x80

abbrev pub program_second : ℕ
program_second = 0x10

abbrev pub erase_first : ℕ
erase_first = 0x60

abbrev pub erase_second : ℕ
erase_second = 0xd0

abbrev pub read_status : ℕ
read_status = 0x70

abbrev pub reset : ℕ
reset = 0xff
