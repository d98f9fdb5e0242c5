-- `store::fit::second_columns` meets its contract: the columns of the page, or of 224 where there is no such page.
use Rattle.page.proofs.HeaderParts.{longest-right}
use Rattle.store.proofs.fit.second_columns.Goals as goal

pub returns-then-pages-page : goal.returns-then-pages-page
returns-then-pages-page c = longest-right
