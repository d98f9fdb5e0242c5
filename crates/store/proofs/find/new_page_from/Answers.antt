-- An open page where there is one, else a fresh page.
use borrow.Author.Rules.{rules}
use Rattle.store.specs.Targets.{new_page_from}
use Rattle.store.proofs.find.new_page_from.Goals as goal

pub returns : goal.returns
unfolding new_page_from
returns c = rw (← c.open_page.ensures) (grind rules)
