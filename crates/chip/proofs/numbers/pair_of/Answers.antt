use Rattle.chip.specs.Numbers.{pair_of}
use borrow.Author.Rules.{rules}
use Rattle.chip.proofs.numbers.pair_of.Goals as goal

pub returns : goal.returns
unfolding pair_of
returns c = search rules
