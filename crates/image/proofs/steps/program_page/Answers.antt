-- `steps::program_page` lends the page of the image to the writer of a page.
use Rattle.page.specs.Page.{page_bytes}
use Rattle.page.proofs.Pages.{page-length}
use borrow.Author.Rules.{rules}
use Rattle.image.proofs.steps.program_page.Goals as goal

pub returns : goal.returns
returns c =
    let a = c.args in
    c.program_by.ensures (page_bytes a.f a.payload.now) (page-length a.f a.payload.now (search rules)) (λ before after long w. search rules)
