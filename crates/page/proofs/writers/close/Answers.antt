-- `page::writers::close` meets its contract: the last two bytes are written.
use borrow.Author.Rules.{rules}
use Rattle.page.proofs.Pages.{put_closing}
use Rattle.page.proofs.writers.close.Goals as goal

pub returns : goal.returns
returns c = rw c.copy.ensures (put_closing c.args.page.now (search rules))
