-- `page::writers::write_like` meets its contract: the payload is copied.
use borrow.Author.Rules.{rules}
use Rattle.page.proofs.writers.write_like.Goals as goal

pub returns : goal.returns
returns c = c.write_with.ensures c.args.payload.now (search rules) (λ before after long w. search rules)
