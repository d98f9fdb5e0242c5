-- `page::writers::write_node` meets its contract: the page is written whole, its padded payload enciphered in place, then cut.
use mathlib.Core.Path.{ap, ◌∙◌}
use lib.ListN.{length}
use Rattle.page.specs.Page.{padded, cut_page}
use Rattle.page.proofs.Pages.{node_written, padded-length}
use Rattle.page.proofs.writers.write_node.Goals as goal

pub returns : goal.returns
returns c =
    let a = c.args in
    c.cut.ensures
    ∙ ap (cut_page a.k)
    (node_written a.sequence a.file a.offset a.position (length a.payload.now) a.key (padded a.payload.now) (padded-length a.payload.now c.requires) _ _ _ c.node.ensures c.write_padded.ensures c.encipher.ensures)
