-- `store::fit::is_vacant_run` meets its contract: two fours of pages and two of keys are the eight places.
use Prim.Native.Nat.{ℕ, ◌+◌, ◌-◌, ◌<◌, ◌≤◌}
use native.Mathlib.Omega.{arith}
use mathlib.Core.Path.{◌≡◌, refl}
use mathlib.Core.Bool.{Bool, true, false, ◌&&◌}
use mathlib.Core.List.{List}
use lib.Dec.{eqb, ltb}
use lib.ListN.{get_or}
use borrow.Author.Tests.{ltb-true, ltb-false}
use Rattle.base.specs.Search.{all_from}
use Rattle.base.proofs.Choice.{and-true, and_intro, both_ways}
use Rattle.base.proofs.Searches.{all_holds, all_intro}
use Rattle.page.specs.Plan.{places}
use Rattle.page.specs.Entry.{none}
use Rattle.store.specs.Record.{vacant_at}
use Rattle.store.specs.Testing.{run_length}
use Rattle.store.proofs.fit.is_vacant_run.Goals as goal

-- what holds of four in a row and of the next four holds of eight
two_fours : (p : ℕ → Bool) (x j : ℕ) → all_from p 4 x ≡ true → all_from p 4 (x + 4) ≡ true → x ≤ j → j < x + 8 → p j ≡ true
two_fours p x j a b g h = go (ltb j (x + 4)) refl
  where
    go : (t : Bool) → ltb j (x + 4) ≡ t → p j ≡ true
    go true e = all_holds p 4 x j a g (ltb-true j (x + 4) e)
    go false e = all_holds p 4 (x + 4) j b (ltb-false j (x + 4) e) (omega arith)

module _ (map : List ℕ) (x : ℕ) where
  abbrev is_none : ℕ → Bool
  is_none i = eqb (get_or map i none) none

  fours : ((all_from is_none 4 x && all_from is_none 4 (x + 4)) && all_from is_none 4 (places + x)) && all_from is_none 4 (places + x + 4) ≡ all_from (vacant_at map) run_length x
  fours =
      both_ways _ _
      (λ t.
      let u = and-true _ (all_from is_none 4 (places + x + 4)) t in
      let v = and-true _ (all_from is_none 4 (places + x)) u.0 in
      let w = and-true (all_from is_none 4 x) (all_from is_none 4 (x + 4)) v.0 in
      all_intro (vacant_at map) run_length x
      (λ j g h. and_intro (is_none j) (is_none (places + j)) (two_fours is_none x j w.0 w.1 g h) (two_fours is_none (places + x) (places + j) v.1 u.1 (omega arith) (omega arith))))
      (λ t.
      let page : (y : ℕ) → x ≤ y → y ≤ x + 4 → all_from is_none 4 y ≡ true
      = λ y a b. all_intro is_none 4 y (λ j g h. (and-true (is_none j) (is_none (places + j)) (all_holds (vacant_at map) run_length x j t (omega arith) (omega arith))).0) in
      let key : (y : ℕ) → places + x ≤ y → y ≤ places + x + 4 → all_from is_none 4 y ≡ true
      = λ y a b.
      all_intro is_none 4 y
      (λ j g h.
      let e : places + (j - places) ≡ j = omega arith in
      rw e at (and-true (is_none (j - places)) (is_none (places + (j - places))) (all_holds (vacant_at map) run_length x (j - places) t (omega arith) (omega arith))).1) in
      and_intro _ _ (and_intro _ _ (and_intro _ _ (page x (omega arith) (omega arith)) (page (x + 4) (omega arith) (omega arith))) (key (places + x) (omega arith) (omega arith))) (key (places + x + 4) (omega arith) (omega arith)))

pub returns : goal.returns
returns c =
    let a = c.args in
    rw (c.all_none.ensures, c.all_none-2.ensures, c.all_none-3.ensures, c.all_none-4.ensures) (fours a.map.now a.x)
