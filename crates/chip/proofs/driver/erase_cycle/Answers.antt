use mathlib.Core.Path.{◌∙◌}
use native.Mathlib.Omega.{arith}
use Rattle.chip.proofs.Cycles.{erase-row, erase_status}
use Rattle.chip.specs.Driver.{erase_cycles}
use Rattle.chip.proofs.driver.erase_cycle.Goals as goal

pub returns-in-0 : goal.returns-in-0
unfolding erase_cycles
returns-in-0 c = rw c.in-0.is c.command.ensures

pub returns-in-1 : goal.returns-in-1
unfolding erase_cycles
returns-in-1 c = rw c.in-1.is c.command-in-1.ensures

pub returns-in-5 : goal.returns-in-5
unfolding erase_cycles
returns-in-5 c = rw c.in-5.is c.command-in-5.ensures

pub returns-in-2-to-4 : goal.returns-in-2-to-4
returns-in-2-to-4 c = c.row_cycle.ensures ∙ erase-row c.args.b c.args.i (omega arith) (omega arith)

pub returns-in_default : goal.returns-in_default
returns-in_default c = c.command-in_default.ensures ∙ erase_status c.args.b c.args.i (omega arith)
