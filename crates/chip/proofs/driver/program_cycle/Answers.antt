use mathlib.Core.Path.{◌∙◌}
use native.Mathlib.Omega.{arith}
use Rattle.chip.proofs.Cycles.{program-column, program-row, program_data, program_second_lem, program_status}
use Rattle.chip.specs.Driver.{program_cycles}
use Rattle.chip.proofs.driver.program_cycle.Goals as goal

pub returns-in-0 : goal.returns-in-0
unfolding program_cycles
returns-in-0 c = rw c.in-0.is c.command.ensures

pub returns-in-1 : goal.returns-in-1
unfolding program_cycles
returns-in-1 c = rw c.in-1.is c.command-in-1.ensures

pub returns-in-2 : goal.returns-in-2
returns-in-2 c = c.address.ensures ∙ program-column c.args.g c.args.page.now c.args.i (omega arith) (omega arith)

pub returns-in-4-to-6 : goal.returns-in-4-to-6
returns-in-4-to-6 c = c.row_cycle.ensures ∙ program-row c.args.g c.args.page.now c.args.i (omega arith) (omega arith)

pub returns-then-at-page : goal.returns-then-at-page
returns-then-at-page c = c.data.ensures ∙ program_data c.args.g c.args.page.now c.args.i (omega arith) c.if-at-page.true

pub returns-then-at-page-2 : goal.returns-then-at-page-2
returns-then-at-page-2 c = c.command-then-at-page-2.ensures ∙ program_second_lem c.args.g c.args.page.now c.args.i (omega arith) c.if-at-page-2.true

pub returns : goal.returns
returns c = c.command-2.ensures ∙ program_status c.args.g c.args.page.now c.args.i (omega arith) (omega arith)
