use borrow.Author.Tests.{ne_eqb}
use Rattle.chip.specs.Numbers.{cycle_of}
use Rattle.chip.proofs.numbers.cycle_of.Goals as goal

pub returns-in-0 : goal.returns-in-0
unfolding cycle_of
returns-in-0 c = rw c.in-0.is c.command.ensures

pub returns-in-1 : goal.returns-in-1
unfolding cycle_of
returns-in-1 c = rw c.in-1.is c.address.ensures

pub returns-in-2 : goal.returns-in-2
unfolding cycle_of
returns-in-2 c = rw c.in-2.is c.data.ensures

pub returns-in_default : goal.returns-in_default
unfolding cycle_of
returns-in_default c = search (ne_eqb)
