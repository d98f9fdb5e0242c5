-- The survey is that of the blocks below b; a block that begins with neither K nor C leaves it as it is.
use mathlib.Core.Path.{sym, ap, ◌∙◌}
use Rattle.store.specs.Kind.{is_block_letter}
use Rattle.store.proofs.Surveys.{survey_first, survey_next_lem, survey_idle}
use Rattle.store.proofs.survey.survey_blocks.Goals as goal
use Rattle.store.proofs.survey.survey_blocks.Goals.{then-is_block_letter, else-is_block_letter}

pub loop-b-init : goal.loop-b-init
loop-b-init c = survey_first c.args.image.now c.default-s.result c.default-s.ensures

pub loop-b-preserved : goal.loop-b-preserved
loop-b-preserved c =
    let l = c.loop-b in
    let i = c.args.image.now in
    let letter = c.is_block_letter.ensures ∙ ap is_block_letter c.letter_at.ensures in
    elim c.if-is_block_letter.branch [
      | then-is_block_letter w ↦ w.s-is ∙ w.survey_next-s.ensures ∙ rw (w.kind_of.ensures, l.invariant) (survey_next_lem i l.b)
      | else-is_block_letter w ↦ w.s-is ∙ l.invariant ∙ sym (survey_idle i l.b (sym letter ∙ w.if-is_block_letter.false))
    ]
