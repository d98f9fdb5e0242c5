use borrow.Author.Rules.{rules}
use Rattle.page.proofs.Pages.{padded_written}
use Rattle.page.proofs.writers.put_padded.Goals as goal

pub returns : goal.returns
returns c =
    padded_written c.args.payload.now c.args.dst.now _ _ (search rules) c.requires c.copy.ensures c.fill.ensures
