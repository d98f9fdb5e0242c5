-- Registers and cycles as numbers, for callers in C. A set is five numbers, its state, address cycles, column, row and whether it failed, with the page
-- register beside them; a cycle is its mark's number and its byte.
use Rattle.std.specs.Prelude.{ℕ, cond, ◌&&◌, List, [], ◌∷◌, get_or, eqb, ltb}
use Rattle.chip.specs.declared.Mark.{Mark}
use Rattle.chip.specs.declared.Mark.TheVariants.{Command, Address, Data}
use Rattle.chip.specs.declared.Cycle.{Cycle}
use Rattle.chip.specs.declared.State.{State}
use Rattle.chip.specs.declared.State.TheVariants.{Idle, Status, Output, Read, Program, Erase}
use Rattle.chip.specs.declared.Registers.{Registers}
use Rattle.chip.specs.Cycle.{command, address, data_byte}

-- ---- states
abbrev pub states : ℕ
states = 6

abbrev pub state_number : State → ℕ
state_number Idle = 0
state_number Status = 1
state_number Output = 2
state_number Read = 3
state_number Program = 4
state_number Erase = 5

unfoldable pub state_of : ℕ → State
state_of s =
    cond (eqb s 1) Status (cond (eqb s 2) Output (cond (eqb s 3) Read (cond (eqb s 4) Program (cond (eqb s 5) Erase Idle))))

-- ---- sets: numbers that stand for none, by state or failed, have more address cycles than any command, so that they count as failed with no command
abbrev pub too_many_cycles : ℕ
too_many_cycles = 6

unfoldable pub cycles_in : ℕ → ℕ → ℕ → ℕ
cycles_in state cycles failed = cond (ltb state states && ltb failed 2) cycles too_many_cycles

unfoldable pub set_of : List ℕ → List ℕ → Registers
set_of five page =
    record {
      state = state_of (get_or five 0 0);
      cycles = cycles_in (get_or five 0 0) (get_or five 1 0) (get_or five 4 0);
      column = get_or five 2 0;
      row = get_or five 3 0;
      page = page;
      failed = eqb (get_or five 4 0) 1;
    }

unfoldable pub five_of : Registers → List ℕ
five_of r = state_number r.state ∷ r.cycles ∷ r.column ∷ r.row ∷ cond r.failed 1 0 ∷ []

-- ---- cycles: a mark that is none gives a command byte that is none
abbrev pub mark_number : Mark → ℕ
mark_number Command = 0
mark_number Address = 1
mark_number Data = 2

abbrev pub no_command : ℕ
no_command = 0x01

unfoldable pub cycle_of : ℕ → ℕ → Cycle
cycle_of mark x =
    cond (eqb mark 0) (command x) (cond (eqb mark 1) (address x) (cond (eqb mark 2) (data_byte x) (command no_command)))

unfoldable pub pair_of : Cycle → List ℕ
pair_of c = mark_number c.mark ∷ c.byte ∷ []
