-- `steps::program_part` lends the page of the image to the writer of a part of a commit.
use borrow.Author.Rules.{rules}
use Rattle.page.specs.Page.{page_like}
use Rattle.page.proofs.Pages.{like_length}
use Rattle.page.specs.Entry.{commit_payload}
use Rattle.page.proofs.Commits.{payload-length}
use Rattle.image.proofs.steps.program_part.Goals as goal

pub returns : goal.returns
returns c =
    let a = c.args in
    let payload = commit_payload a.map.now a.letters.now a.i in
    c.program_by.ensures (page_like a.header.now a.i payload)
    (like_length a.header.now a.i payload (search rules) (payload-length a.map.now a.letters.now a.i (search rules)))
    (λ before after long w. search rules)
