-- `store::fit::numbers_fit` meets its contract.
use Rattle.store.proofs.fit.numbers_fit.Goals as goal

pub returns : goal.returns
returns c = rw (c.is_next.ensures, c.is_next-2.ensures)
