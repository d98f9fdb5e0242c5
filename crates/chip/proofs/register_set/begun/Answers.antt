use borrow.Author.Rules.{rules}
use Rattle.chip.specs.Registers.{resting, begun, blank_page}
use Rattle.chip.proofs.register_set.begun.Goals as goal

pub returns : goal.returns
unfolding resting begun blank_page
returns c = rw c.resting.ensures
