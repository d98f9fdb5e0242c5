-- The search from the first block on.
use mathlib.Core.Path.{◌∙◌}
use Rattle.store.proofs.GatherSearches.{new_from_start}
use Rattle.store.proofs.find.new_page.Goals as goal

pub returns : goal.returns
returns c =
    let a = c.args in
    c.new_page_from.ensures ∙ new_from_start a.but a.image.now a.numbers
