-- `johvimaru_write_cut` leaves what the store's call leaves, its reply as a number.
use Rattle.recorder.proofs.Faces.{faced-answer}
use Rattle.recorder.proofs.johvimaru_write_cut.Goals as goal

pub returns : goal.returns
returns c =
    rw (← c.numbers_of-before.ensures)
    (faced-answer _ _ _ _ _ _ _ _ c.hand_over.ensures.0 c.hand_over.ensures.1 c.write_cut-answer.ensures)
