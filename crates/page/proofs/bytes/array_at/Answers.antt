use Rattle.base.specs.Part.{part}
use borrow.Author.Rules.{rules}
use Rattle.page.proofs.bytes.array_at.Goals as goal

pub returns : goal.returns
unfolding part
returns c = search rules
