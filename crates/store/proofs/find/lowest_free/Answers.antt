-- The lowest f is the first f.
use borrow.Author.Rules.{rules}
use borrow.Author.Tests.{tests}
use mathlib.Core.Path.{◌∙◌}
use lib.Dec.{eqb}
use Rattle.std.proofs.lemmas.Iterator.{YieldsList-from_slice}
use Rattle.std.proofs.lemmas.Iterator.Search.{position_from_yields_List}
use Rattle.page.specs.Entry.{free_letter}
use Rattle.store.specs.Find.{lowest_free}
use Rattle.store.proofs.Finds.{first_position}
use Rattle.store.proofs.find.lowest_free.Goals as goal

pub returns : goal.returns
unfolding lowest_free
returns c =
    let l = c.args.letters.now in
    let first = position_from_yields_List (λ x. eqb x free_letter) _ _ _ c.position.ensures.ran (YieldsList-from_slice l cc) (λ x b q k. search (rules, tests)) in
    first ∙ first_position (λ x. eqb x free_letter) l ∙ rw c.told-letters
