-- `page::writers::write_padded` meets its contract: the three parts are written one after the other.
use mathlib.Core.Path.{◌∙◌}
use Rattle.page.specs.Page.{padded}
use Rattle.page.proofs.Pages.{page_written, padded-length}
use Rattle.page.proofs.writers.write_padded.Goals as goal

pub returns : goal.returns
returns c =
    let payload = c.args.payload.now in
    c.close.ensures
    ∙ rw (c.write_header.ensures, c.put_padded.ensures) (page_written c.args.f (padded payload) (padded-length payload c.requires) _)
