-- `store::fit::letter_fits` meets its contract.
use Rattle.store.proofs.fit.letter_fits.Goals as goal

pub returns : goal.returns
returns c = rw c.is_letter.ensures
