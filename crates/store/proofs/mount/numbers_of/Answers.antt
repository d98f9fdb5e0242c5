-- All are in range.
use Rattle.store.specs.Survey.{survey_numbers}
use Rattle.store.proofs.mount.numbers_of.Goals as goal

pub returns : goal.returns
unfolding survey_numbers
returns c = rw (c.max.ensures, c.requires.1)
