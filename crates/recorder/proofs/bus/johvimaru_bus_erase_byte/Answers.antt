use borrow.Author.Tests.{le-leb, lt-leb}
use Rattle.recorder.specs.Bus.{erase_byte}
use Rattle.recorder.proofs.bus.johvimaru_bus_erase_byte.Goals as goal

pub returns-then-block-gt-LAST_BLOCK : goal.returns-then-block-gt-LAST_BLOCK
unfolding erase_byte
returns-then-block-gt-LAST_BLOCK c = rw (lt-leb _ _ c.if-block-gt-LAST_BLOCK.true, c.number.ensures)

pub returns : goal.returns
unfolding erase_byte
returns c =
    rw (le-leb _ _ c.if-block-gt-LAST_BLOCK.false, ← c.erase_cycle.ensures, c.pair_of.ensures)
