-- A block whose last page is not empty has none, nor has one that is no data block; in a data block they are the empty ones at its end.
use borrow.Author.Rules.{rules}
use mathlib.Core.Path.{sym, ◌∙◌}
use Rattle.store.proofs.OpenPages.{has_open_lem}
use Rattle.store.proofs.find.has_open.Goals as goal

pub returns-then-page_empty : goal.returns-then-page_empty
returns-then-page_empty c =
    let a = c.args in
    rw (has_open_lem a.image.now a.b a.numbers, sym c.page_empty.ensures ∙ c.if-page_empty.true) c.is_data.ensures

pub returns-else-page_empty : goal.returns-else-page_empty
returns-else-page_empty c =
    let a = c.args in
    rw (has_open_lem a.image.now a.b a.numbers, sym c.page_empty.ensures ∙ c.if-page_empty.false) (search rules)
