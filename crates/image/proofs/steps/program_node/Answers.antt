-- `steps::program_node` lends the page of the image to the writer of a node.
use lib.ListN.{length}
use Rattle.page.specs.Page.{padded, node_page}
use Rattle.page.proofs.Pages.{node-length, padded-length}
use borrow.Author.Rules.{rules}
use Rattle.image.proofs.steps.program_node.Goals as goal

pub returns : goal.returns
returns c =
    let a = c.args in
    c.program_by.ensures (node_page a.sequence a.file a.offset a.position (length a.payload.now) a.key (padded a.payload.now))
    (node-length a.sequence a.file a.offset a.position (length a.payload.now) a.key (padded a.payload.now) (padded-length a.payload.now c.requires.1))
    (λ before after long w. search rules)
