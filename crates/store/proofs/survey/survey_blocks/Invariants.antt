-- The survey is that of the blocks below b.
use mathlib.Core.Path.{◌≡◌}
use Rattle.store.specs.Survey.{survey_of}
use Rattle.store.proofs.survey.survey_blocks.Given as goal

abbrev pub invariant-loop-b : goal.invariant-loop-b
invariant-loop-b l = l.s ≡ survey_of l.image l.b
