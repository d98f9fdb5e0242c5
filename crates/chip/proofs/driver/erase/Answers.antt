use native.Mathlib.Omega.{arith}
use borrow.Author.Tests.{le-leb, lt-leb}
use borrow.Author.Rules.{rules}
use Rattle.chip.specs.Driver.{erase_cycles, drove_erase}
use Rattle.chip.proofs.Cycles.{erase-length}
use Rattle.chip.proofs.driver.erase.Goals as goal

pub returns-then-b-gt-LAST_BLOCK : goal.returns-then-b-gt-LAST_BLOCK
unfolding drove_erase
returns-then-b-gt-LAST_BLOCK c = rw (lt-leb _ _ c.if-b-gt-LAST_BLOCK.true)

pub returns : goal.returns
unfolding drove_erase
returns c =
    let b = c.args.b in
    rw (le-leb _ _ c.if-b-gt-LAST_BLOCK.false)
    (c.send.ensures (erase_cycles b) (omega arith) (erase-length b) (λ i sent h p. search rules))
