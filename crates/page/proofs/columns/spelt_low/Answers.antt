-- `columns::spelt_low` gives four columns by how many digits the number has, of a long one the last four of eight.
use Rattle.page.proofs.Spellings.{last_four_of}
use Rattle.page.proofs.columns.spelt_low.Goals as goal

pub returns : goal.returns
returns c =
    last_four_of c.args.n c.spelt_long.result c.spelt_long.ensures
