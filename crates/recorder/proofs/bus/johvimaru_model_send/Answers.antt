-- `johvimaru_model_send` leaves what the model leaves, its registers in the lent arrays.
use mathlib.Core.Path.{sym, ap, ◌∙◌}
use Rattle.chip.specs.Reply.{number_of}
use Rattle.chip.proofs.Replies.{error_is_not_0}
use Rattle.recorder.proofs.Models.{model_refused, model_done}
use Rattle.recorder.proofs.bus.johvimaru_model_send.Goals as goal

pub returns-in-Err : goal.returns-in-Err
returns-in-Err c =
    rw (← c.cycle_of-cycle.ensures, c.number.ensures)
    (model_refused _ _ _ _ _ _ _ c.set_of-before.ensures c.step-sent.ensures.0 _ (ap number_of (sym c.in-Err.is) ∙ c.step-sent.ensures.1) (error_is_not_0 c.in-Err.error))

pub returns : goal.returns
returns c =
    rw (← c.cycle_of-cycle.ensures)
    (model_done _ _ _ _ _ _ _ c.set_of-before.ensures c.step-sent.ensures.0 _ _ c.step-sent.ensures.1 (ap number_of c.in_default.is) c.five_of.ensures)
