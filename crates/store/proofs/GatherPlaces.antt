-- The table of places that a gather makes: for each page of a block the lowest place that has it, noted from the highest place down.
use Prim.Native.Nat.{ℕ, ◌+◌, ◌-◌, ◌/◌, ◌%◌, ◌<◌}
use native.Mathlib.Omega.{arith}
use native.Mathlib.Decide.{ℕ_discrete}
use mathlib.Core.Path.{◌≡◌, refl, sym, ap, ◌∙◌}
use mathlib.Core.Bool.{Bool, true, false, cond, ◌&&◌}
use mathlib.Core.List.{List}
use lib.Dec.{eqb}
use lib.ListN.{length, get_or, set, replicate, length-set, length-replicate, get_or-replicate}
use lib.Seq.{get_or-set_same, get_or-set_other}
use borrow.Author.Tests.{eq-eqb, eqb-true, lt-ltb}
use Rattle.std.specs.Prelude.{Option, Some, None}
use Rattle.base.specs.Search.{first_from, found}
use Rattle.base.proofs.Choice.{and-true, and_intro, true-false}
use Rattle.base.proofs.Searches.{first_here, first_next, first_none}
use Rattle.page.specs.Plan.{places}
use Rattle.image.specs.Size.{pages_in_block}
use Rattle.store.specs.Kind.{page_in}
use Rattle.store.specs.Record.{page_of, live}
use Rattle.store.specs.Gather.{is_on, place_on}
use Rattle.store.specs.Targets.{PlacesIn}

-- the places from x on are noted
pub record NotedFrom (map : List ℕ) (block x : ℕ) (at : List (Option ℕ)) : Type 0 where
  pub full : length at ≡ pages_in_block
  pub each : (i : ℕ) → i < pages_in_block → get_or at i None ≡ found places (first_from (is_on map (page_in block i)) (places - x) x)

-- place x has a page of the block
abbrev pub is_in : List ℕ → ℕ → ℕ → Bool
is_in map block x = live map x && eqb (page_of map x / pages_in_block) block

module _ (map : List ℕ) (block : ℕ) where
  pub noted-none : NotedFrom map block places (replicate pages_in_block None)
  noted-none = record {
    full = length-replicate {A = Option ℕ} pages_in_block None;
    each = λ i h. get_or-replicate {A = Option ℕ} pages_in_block i None None h
        ∙ sym (ap (found places) (first_none (is_on map (page_in block i)) places places (omega arith)));
  }

  pub noted_all : (at : List (Option ℕ)) → NotedFrom map block 0 at → PlacesIn map block at
  unfolding place_on
  noted_all at n = record { full = n.full; each = n.each }

  -- it is the page at its remainder and no other
  on-here : (x : ℕ) → is_in map block x ≡ true → is_on map (page_in block (page_of map x % pages_in_block)) x ≡ true
  on-here x e =
      let w = and-true (live map x) (eqb (page_of map x / pages_in_block) block) e in
      let q = eqb-true (page_of map x / pages_in_block) block w.1 in
      let g = page_in block (page_of map x % pages_in_block) in
      and_intro (live map x) (eqb (page_of map x) g) w.0 (eq-eqb (page_of map x) g (omega arith))

  on_only : (x i : ℕ) → i < pages_in_block → is_on map (page_in block i) x ≡ true → (is_in map block x ≡ true) × (i ≡ page_of map x % pages_in_block)
  on_only x i h e =
      let w = and-true (live map x) (eqb (page_of map x) (page_in block i)) e in
      let q = eqb-true (page_of map x) (page_in block i) w.1 in
      (and_intro (live map x) (eqb (page_of map x / pages_in_block) block) w.0 (eq-eqb (page_of map x / pages_in_block) block (omega arith)), omega arith)

  not_on : (x i : ℕ) → (is_on map (page_in block i) x ≡ true → ⊥) → is_on map (page_in block i) x ≡ false
  not_on x i f = go (is_on map (page_in block i) x) refl
    where
      go : (t : Bool) → is_on map (page_in block i) x ≡ t → t ≡ false
      go true e = absurd (f e)
      go false e = refl

  -- one place more
  pub noted_next : (x y : ℕ) (at at' : List (Option ℕ)) → y ≡ x + 1 → x < places → NotedFrom map block y at
      → at' ≡ cond (is_in map block x) (set at (page_of map x % pages_in_block) (Some x)) at → NotedFrom map block x at'
  noted_next x y at at' s h n e = go (is_in map block x) refl e
    where
      past : (i : ℕ) → i < pages_in_block → is_on map (page_in block i) x ≡ false → get_or at i None ≡ found places (first_from (is_on map (page_in block i)) (places - x) x)
      past i k f = rw s at (n.each i k) ∙ ap (found places) (sym (first_next (is_on map (page_in block i)) places x h f))

      here : is_in map block x ≡ true → get_or (set at (page_of map x % pages_in_block) (Some x)) (page_of map x % pages_in_block) None
          ≡ found places (first_from (is_on map (page_in block (page_of map x % pages_in_block))) (places - x) x)
      here q =
          get_or-set_same at (page_of map x % pages_in_block) (Some x) None (omega (arith, n.full))
          ∙ rw (first_here (is_on map (page_in block (page_of map x % pages_in_block))) places x h (on-here x q), lt-ltb x places h)

      go : (t : Bool) → is_in map block x ≡ t → at' ≡ cond t (set at (page_of map x % pages_in_block) (Some x)) at → NotedFrom map block x at'
      go true q r = rw r (record {
        full = length-set at (page_of map x % pages_in_block) (Some x) ∙ n.full;
        each = λ i k. elim (ℕ_discrete i (page_of map x % pages_in_block)) [
          | yes m ↦ rw m (here q)
          | no m ↦ get_or-set_other at (page_of map x % pages_in_block) i (Some x) None m ∙ past i k (not_on x i (λ o. m (on_only x i k o).1))
        ];
      })
      go false q r = rw r (record { full = n.full; each = λ i k. past i k (not_on x i (λ o. true-false (on_only x i k o).0 q)) })
