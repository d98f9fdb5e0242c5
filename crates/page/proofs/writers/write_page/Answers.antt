-- `page::writers::write_page` meets its contract: the page is written whole, then cut.
use borrow.Author.Rules.{rules}
use mathlib.Core.Path.{ap, ◌∙◌}
use Rattle.page.specs.Page.{page_bytes, cut_page}
use Rattle.page.proofs.Pages.{padded_whole}
use Rattle.page.proofs.writers.write_page.Goals as goal

pub returns : goal.returns
returns c =
    c.cut.ensures
    ∙ ap (cut_page _) (c.write_padded.ensures ∙ ap (page_bytes c.args.f) (padded_whole c.args.payload.now (search rules)))
