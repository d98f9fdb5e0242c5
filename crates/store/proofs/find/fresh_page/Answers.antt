-- There is a fresh page exactly if a block after the lowest empty one is empty.
use native.Mathlib.Omega.{arith}
use borrow.Author.Rules.{rules}
use Prim.Native.Nat.{ℕ, ◌+◌, ◌-◌}
use borrow.Author.Tests.{ltb-false, tests}
use mathlib.Core.Path.{◌≡◌, refl, sym, ◌∙◌}
use mathlib.Core.Bool.{Bool, true, false, cond}
use Rattle.std.specs.Prelude.{Some, None}
use Rattle.std.specs.Bool.{then_some}
use Rattle.std.proofs.lemmas.Iterator.{YieldsList-from_range}
use Rattle.std.proofs.lemmas.Iterator.Search.{any_from_yields_List}
use Rattle.base.proofs.Searches.{any_none}
use Rattle.image.specs.Size.{blocks}
use Rattle.image.specs.Look.{block_empty, lowest_empty}
use Rattle.store.proofs.Finds.{by_test, not_by_test, any_range}
use Rattle.store.proofs.OpenPages.{two_empty}
use Rattle.store.proofs.find.fresh_page.Goals as goal

then_if : (b : Bool) (x : ℕ) → then_some b x ≡ cond b (Some x) None
then_if true x = refl
then_if false x = refl

pub returns-in_err-lowest : goal.returns-in_err-lowest
returns-in_err-lowest c =
    let img = c.args.image.now in
    let none = ltb-false _ _ (not_by_test _ _ (sym c.in_err-lowest.ensures)) in
    rw (c.from_residual.ensures, two_empty img, any_none (block_empty img) (blocks img) (lowest_empty img + 1) (omega (arith, none)))

pub returns : goal.returns
returns c =
    let img = c.args.image.now in
    let a = c.in_ok-lowest.lowest + 1 in
    let n = blocks img - a in
    let some = any_from_yields_List (block_empty img) _ _ _ c.any.ensures.ran (YieldsList-from_range a (blocks img) n (cc) refl) (λ x b q k. search (rules, tests)) in
    rw (two_empty img, (by_test _ _ _ (sym c.in_ok-lowest.ensures)).1, ← any_range (block_empty img) n a, ← some) (c.then_some.ensures ∙ then_if c.any.result _)
