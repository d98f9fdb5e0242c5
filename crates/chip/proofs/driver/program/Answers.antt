use native.Mathlib.Omega.{arith}
use borrow.Author.Tests.{eq-eqb, ne_eqb, le-leb, lt-leb}
use borrow.Author.Rules.{rules}
use Rattle.chip.specs.Driver.{program_cycles, drove_program}
use Rattle.chip.proofs.Cycles.{program-length}
use Rattle.chip.proofs.driver.program.Goals as goal

pub returns-then-page-ne-PAGE : goal.returns-then-page-ne-PAGE
unfolding drove_program
returns-then-page-ne-PAGE c = rw (ne_eqb _ _ c.if-page-ne-PAGE.true)

pub returns-then-g-gt-LAST_PAGE : goal.returns-then-g-gt-LAST_PAGE
unfolding drove_program
returns-then-g-gt-LAST_PAGE c = rw (eq-eqb _ _ c.if-page-ne-PAGE.false, lt-leb _ _ c.if-g-gt-LAST_PAGE.true)

pub returns : goal.returns
unfolding drove_program
returns c =
    let a = c.args in
    rw (eq-eqb _ _ c.if-page-ne-PAGE.false, le-leb _ _ c.if-g-gt-LAST_PAGE.false)
    (c.send.ensures (program_cycles a.g a.page.now) (omega arith) (omega (arith, program-length a.g a.page.now)) (λ i sent h p. search rules))
