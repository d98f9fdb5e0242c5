-- `page::writers::cut` meets its contract: from byte k on all is erased.
use native.Mathlib.Omega.{arith}
use mathlib.Core.Path.{sym}
use borrow.Author.Rules.{rules}
use Rattle.page.proofs.Pages.{cut-whole, cut-filled}
use Rattle.page.proofs.writers.cut.Goals as goal

pub returns-then-k-lt-PAGE : goal.returns-then-k-lt-PAGE
returns-then-k-lt-PAGE c =
    cut-filled c.args.k c.args.page.now (search rules) _ c.fill.ensures (omega arith)

pub returns-else-k-lt-PAGE : goal.returns-else-k-lt-PAGE
returns-else-k-lt-PAGE c =
    sym (cut-whole c.args.k c.args.page.now (search rules) c.if-k-lt-PAGE.false)
