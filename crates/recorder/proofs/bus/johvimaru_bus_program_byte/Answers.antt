use borrow.Author.Tests.{eq-eqb, ne_eqb, le-leb, lt-leb}
use Rattle.recorder.specs.Bus.{program_byte}
use Rattle.recorder.proofs.bus.johvimaru_bus_program_byte.Goals as goal

pub returns-then-bytes-ne-PAGE : goal.returns-then-bytes-ne-PAGE
unfolding program_byte
returns-then-bytes-ne-PAGE c = rw (ne_eqb _ _ c.if-bytes-ne-PAGE.true, c.number.ensures)

pub returns-then-g-gt-LAST_PAGE : goal.returns-then-g-gt-LAST_PAGE
unfolding program_byte
returns-then-g-gt-LAST_PAGE c = rw (eq-eqb _ _ c.if-bytes-ne-PAGE.false, lt-leb _ _ c.if-g-gt-LAST_PAGE.true, c.number-then-g-gt-LAST_PAGE.ensures)

pub returns : goal.returns
unfolding program_byte
returns c =
    rw (eq-eqb _ _ c.if-bytes-ne-PAGE.false, le-leb _ _ c.if-g-gt-LAST_PAGE.false, ← c.program_cycle.ensures, c.pair_of.ensures)
