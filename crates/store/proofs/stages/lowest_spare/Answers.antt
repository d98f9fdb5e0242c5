-- The search goes up to the first spare block.
use borrow.Author.Rules.{rules}
use borrow.Author.Tests.{tests}
use mathlib.Core.Path.{◌≡◌, ap, ◌∙◌}
use mathlib.Core.Bool.{true, false}
use Rattle.std.proofs.lemmas.Iterator.{first_from_Range}
use Rattle.base.specs.Search.{first_from}
use Rattle.store.specs.Stages.{is_spare, lowest_spare}
use Rattle.store.proofs.Finds.{first_by_find}
use Rattle.store.proofs.stages.lowest_spare.Goals as goal

pub returns : goal.returns
unfolding lowest_spare
returns c =
    let a = c.args in
    let p = is_spare a.image.now a.first a.numbers in
    let n = c.blocks-n.result in
    c.unwrap_or.ensures
    ∙ first_by_find p n c.find.result
    (first_from_Range _ _ _ c.find.result (λ b. p b ≡ true) (λ b. p b ≡ false) c.find.ensures.ran (λ x q k. search (rules, tests)) (λ x q k. search (rules, tests)))
    ∙ ap (λ m. first_from p m 0) c.blocks-n.ensures
