use borrow.Author.Rules.{rules}
use Rattle.chip.specs.Numbers.{five_of}
use Rattle.chip.proofs.numbers.five_of.Goals as goal

pub returns : goal.returns
unfolding five_of
returns c = search rules
