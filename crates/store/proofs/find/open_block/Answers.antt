-- The first block outside the one that is left out and with an open page.
use borrow.Author.Rules.{rules}
use borrow.Author.Tests.{tests}
use mathlib.Core.Path.{◌≡◌}
use mathlib.Core.Bool.{true, false}
use native.Mathlib.Omega.{arith}
use Rattle.std.proofs.lemmas.Iterator.{first_from_Range}
use Rattle.store.proofs.GatherSearches.{is_searched, block_searched}
use Rattle.store.proofs.find.open_block.Goals as goal

pub returns : goal.returns
returns c =
    let a = c.args in
    block_searched a.but a.image.now a.numbers c.requires.0 a.from c.blocks-2.result (omega (arith, c.blocks-2.ensures)) c.blocks-2.ensures _
    (first_from_Range _ _ _ _ (λ b. is_searched a.but a.image.now a.numbers b ≡ true) (λ b. is_searched a.but a.image.now a.numbers b ≡ false) c.find.ensures.ran
    (λ x q k. search (rules, tests)) (λ x q k. (search rules, search (rules, tests))))
