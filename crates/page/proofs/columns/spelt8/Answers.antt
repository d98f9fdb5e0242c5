-- `columns::spelt8` gives four columns after spaces, or eight.
use Rattle.page.proofs.Spellings.{eight_spaces}
use borrow.Author.Rules.{rules}
use Rattle.page.proofs.columns.spelt8.Goals as goal

pub returns-then-n-lt10000 : goal.returns-then-n-lt10000
returns-then-n-lt10000 c =
    eight_spaces c.args.n c.eight.result c.spelt4.result c.eight.ensures c.spelt4.ensures (search rules)
