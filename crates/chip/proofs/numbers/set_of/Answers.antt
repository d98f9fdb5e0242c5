use Rattle.chip.specs.Numbers.{set_of}
use Rattle.chip.proofs.numbers.set_of.Goals as goal

pub returns : goal.returns
unfolding set_of
returns c =
    rw (c.state_of.ensures, c.cycles_in.ensures)
