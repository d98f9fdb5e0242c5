use Rattle.chip.specs.Registers.{counts_as}
use Rattle.chip.proofs.register_set.counts_as.Goals as goal

pub returns-then-valid : goal.returns-then-valid
unfolding counts_as
returns-then-valid c = rw (← c.valid.ensures, c.if-valid.true)

pub returns : goal.returns
unfolding counts_as
returns c = rw (← c.valid.ensures, c.if-valid.false) c.resting.ensures
