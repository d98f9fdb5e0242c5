use Rattle.harness.specs.Chip.{answer_of, erase_answer}
use Rattle.harness.proofs.chips.harness_chip_erase.Goals as goal

pub returns : goal.returns
unfolding erase_answer answer_of
returns c =
    rw (← c.set_of-before.ensures, ← c.erase-sent.ensures, c.five_of.ensures, c.reply_number.ensures)
