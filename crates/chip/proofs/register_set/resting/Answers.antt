use borrow.Author.Rules.{rules}
use Rattle.chip.specs.Registers.{resting, blank_page}
use Rattle.chip.proofs.register_set.resting.Goals as goal

pub returns : goal.returns
unfolding resting blank_page
returns c = search rules
