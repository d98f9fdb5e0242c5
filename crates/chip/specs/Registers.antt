-- Document 02, #109: the register set. The column and the row are filled by address cycles, low byte first, and the column moves on with each data byte; the page
-- register holds the bytes of a program, FFh where none was sent.
use Rattle.std.specs.Prelude.{ℕ, ◌+◌, Bool, true, false, cond, not, ◌&&◌, List, length, drop, replicate, eqb, leb, ltb}
use Rattle.page.specs.Frame.{page_size, erased}
use Rattle.page.specs.Form.{is_empty}
use Rattle.chip.specs.declared.State.{State}
use Rattle.chip.specs.declared.State.TheVariants.{Idle, Status, Output, Read, Program, Erase}
use Rattle.chip.specs.declared.Registers.{Registers}

-- an address is two column cycles, then three row cycles; erase has the row alone, so its count begins at 2
abbrev pub all_cycles : ℕ
all_cycles = 5

abbrev pub column_cycles : ℕ
column_cycles = 2

-- a page register with nothing sent
unfoldable pub blank_page : List ℕ
blank_page = replicate page_size erased

-- a set without a command
unfoldable pub resting : State → Bool → Registers
resting s failed = record { state = s; cycles = 0; column = 0; row = 0; page = blank_page; failed = failed }

-- a set at the start of a command
unfoldable pub begun : State → ℕ → Registers
begun s cycles = record { state = s; cycles = cycles; column = 0; row = 0; page = blank_page; failed = false }

-- the byte set failed and dropped the command
abbrev pub dropped : Registers
dropped = resting Idle true

-- a command was begun and its last byte is still to come
abbrev pub in_command : State → Bool
in_command Idle = false
in_command Status = false
in_command Output = false
in_command Read = true
in_command Program = true
in_command Erase = true

-- ---- what an address cycle adds, by how many came before it, and what column and row stay below so far
abbrev pub column_weight : ℕ → ℕ
column_weight k = cond (eqb k 0) 1 (cond (eqb k 1) 256 0)

abbrev pub row_weight : ℕ → ℕ
row_weight k = cond (eqb k 2) 1 (cond (eqb k 3) 256 (cond (eqb k 4) 65536 0))

abbrev pub column_limit : ℕ → ℕ
column_limit k = cond (eqb k 0) 1 (cond (eqb k 1) 256 65536)

abbrev pub row_limit : ℕ → ℕ
row_limit k = cond (leb k 2) 1 (cond (eqb k 3) 256 65536)

-- ---- the sets that cycles over an image of n pages leave
-- what the state says of the other registers
abbrev pub state_fits : State → ℕ → ℕ → Bool → Bool
state_fits Idle cycles column failed = eqb cycles 0
state_fits Status cycles column failed = eqb cycles 0
state_fits Output cycles column failed = not failed && eqb cycles all_cycles
state_fits Read cycles column failed = not failed
state_fits Program cycles column failed = not failed
state_fits Erase cycles column failed = not failed && leb column_cycles cycles && eqb column 0

-- the column may stand behind the page's last byte once bytes were sent or read
abbrev pub columns_of : State → ℕ
columns_of Idle = page_size
columns_of Status = page_size
columns_of Output = page_size + 1
columns_of Read = page_size
columns_of Program = page_size + 1
columns_of Erase = page_size

-- column and row: what fewer cycles can hold, and inside page and image once the address is whole
unfoldable pub address_fits : ℕ → ℕ → ℕ → ℕ → ℕ → Bool
address_fits columns n cycles column row =
    cond (ltb cycles all_cycles)
    (ltb column (column_limit cycles) && ltb row (row_limit cycles))
    (eqb cycles all_cycles && ltb column columns && ltb row n)

-- where the bytes of the page register end that may have been sent
abbrev pub sent_to : State → ℕ → ℕ → ℕ
sent_to Idle cycles column = 0
sent_to Status cycles column = 0
sent_to Output cycles column = 0
sent_to Read cycles column = 0
sent_to Program cycles column = cond (eqb cycles all_cycles) column 0
sent_to Erase cycles column = 0

unfoldable pub valid : ℕ → Registers → Bool
valid n r =
    eqb (length r.page) page_size
    && state_fits r.state r.cycles r.column r.failed
    && address_fits (columns_of r.state) n r.cycles r.column r.row
    && is_empty (drop (sent_to r.state r.cycles r.column) r.page)

-- any other set counts as failed, with no command
unfoldable pub counts_as : ℕ → Registers → Registers
counts_as n r = cond (valid n r) r dropped
