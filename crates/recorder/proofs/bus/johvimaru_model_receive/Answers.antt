use Rattle.recorder.specs.Bus.{model_received}
use Rattle.recorder.proofs.bus.johvimaru_model_receive.Goals as goal

pub returns : goal.returns
unfolding model_received
returns c =
    rw (← c.set_of-before.ensures, ← c.fetch-got.ensures, c.reply_number.ensures)
