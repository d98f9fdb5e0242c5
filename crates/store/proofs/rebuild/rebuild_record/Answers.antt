-- What does not fit is cleared.
use Rattle.store.proofs.Rebuilds.{none-more, some_same}
use Rattle.store.proofs.rebuild.rebuild_record.Goals as goal

pub returns-then-is_none : goal.returns-then-is_none
returns-then-is_none c =
    none-more _ _ _ _ c.replay_fit-rebuilt.result c.if-is_none.ensures c.replay_fit-rebuilt.ensures c.clear_record.ensures

pub returns-else-is_none : goal.returns-else-is_none
returns-else-is_none c =
    some_same _ _ _ (λ _. Unit {0}) c.replay_fit-rebuilt.result c.if-is_none.ensures c.replay_fit-rebuilt.ensures
