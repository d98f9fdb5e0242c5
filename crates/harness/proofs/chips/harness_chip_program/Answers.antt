use Rattle.harness.specs.Chip.{answer_of, program_answer}
use Rattle.harness.proofs.chips.harness_chip_program.Goals as goal

pub returns : goal.returns
unfolding program_answer answer_of
returns c =
    rw (← c.set_of-before.ensures, ← c.program-sent.ensures, c.five_of.ensures, c.reply_number.ensures)
