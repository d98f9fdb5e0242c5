-- `page::plan::start` meets its contract: the table has the sums of the plan's counts.
use borrow.Author.Rules.{rules}
use Rattle.page.proofs.Plans.{start_is}
use Rattle.page.proofs.plan.start.Goals as goal

pub returns : goal.returns
returns c = search (rules, start_is)
