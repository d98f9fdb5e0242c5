-- Chosen now, it is not spare; chosen before, it is; else by its bytes.
use mathlib.Core.Path.{sym, ◌∙◌}
use Rattle.store.specs.Stages.{is_spare}
use Rattle.store.proofs.stages.is_spare.Goals as goal

pub returns-then-is_chosen : goal.returns-then-is_chosen
unfolding is_spare
returns-then-is_chosen c = rw (sym c.is_chosen.ensures ∙ c.if-is_chosen.true)

pub returns-then-is_chosen-2 : goal.returns-then-is_chosen-2
unfolding is_spare
returns-then-is_chosen-2 c = rw (sym c.is_chosen.ensures ∙ c.if-is_chosen.false, sym c.is_chosen-2.ensures ∙ c.if-is_chosen-2.true)

pub returns : goal.returns
unfolding is_spare
returns c =
    rw (sym c.is_chosen.ensures ∙ c.if-is_chosen.false, sym c.is_chosen-2.ensures ∙ c.if-is_chosen-2.false) c.block_empty.ensures
