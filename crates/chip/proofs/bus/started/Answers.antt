use Rattle.chip.specs.Bus.{started}
use borrow.Author.Tests.{eq-eqb, ne_eqb, lt-ltb, le-ltb, le-leb, lt-leb}
use Rattle.chip.proofs.bus.started.Goals as goal

pub returns-then-x-eq-READ_FIRST : goal.returns-then-x-eq-READ_FIRST
unfolding started
returns-then-x-eq-READ_FIRST c = search (eq-eqb, ne_eqb, lt-ltb, le-ltb, le-leb, lt-leb)

pub returns-then-x-eq-PROGRAM_FIRST : goal.returns-then-x-eq-PROGRAM_FIRST
unfolding started
returns-then-x-eq-PROGRAM_FIRST c = search (eq-eqb, ne_eqb, lt-ltb, le-ltb, le-leb, lt-leb)

pub returns-then-x-eq-ERASE_FIRST : goal.returns-then-x-eq-ERASE_FIRST
unfolding started
returns-then-x-eq-ERASE_FIRST c = search (eq-eqb, ne_eqb, lt-ltb, le-ltb, le-leb, lt-leb)

pub returns : goal.returns
unfolding started
returns c = search (eq-eqb, ne_eqb, lt-ltb, le-ltb, le-leb, lt-leb)
