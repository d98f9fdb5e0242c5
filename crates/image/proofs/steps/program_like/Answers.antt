-- `steps::program_like` lends the page of the image to the writer of a page of a header with another part.
use borrow.Author.Rules.{rules}
use Rattle.page.specs.Page.{page_like}
use Rattle.page.proofs.Pages.{like_length}
use Rattle.image.proofs.steps.program_like.Goals as goal

pub returns : goal.returns
returns c =
    let a = c.args in
    c.program_by.ensures (page_like a.header.now a.part a.payload.now)
    (like_length a.header.now a.part a.payload.now (search rules) (search rules))
    (λ before after long w. search rules)
