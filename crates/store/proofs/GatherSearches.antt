-- The search for a page block by block, from any block on, a block being left out or none; and a count from another number on.
use Prim.Native.Nat.{ℕ, zero, suc, ◌+◌, ◌*◌, ◌-◌, ◌/◌, ◌<◌, ◌≤◌}
use native.Mathlib.Omega.{arith}
use mathlib.Core.Path.{◌≡◌, refl, sym, ap, ◌∙◌}
use mathlib.Core.Bool.{Bool, true, false, not, ◌&&◌}
use mathlib.Core.List.{List}
use borrow.Author.Tests.{eq-eqb, ne_eqb, eqb-true, eqb-false, ltb-false, lt-ltb, le-ltb, not-true}
use Rattle.base.specs.Search.{first_from, count_from}
use Rattle.base.proofs.Choice.{and-true, true-false}
use Rattle.base.proofs.Searches.{first_agree, first_all, first_none, first_bounds, first_in_row, first_past_row}
use Rattle.image.specs.Size.{pages_in_block, pages}
use Rattle.image.specs.Size.{blocks, size_right}
use Rattle.image.specs.Look.{page_empty}
use Rattle.image.proofs.Looks.{sized}
use Rattle.store.specs.Kind.{page_in, is_data}
use Rattle.store.specs.Find.{is_open, is_open_but, new_page_but}
use Rattle.store.specs.Targets.{is_left_out, has_open, OpenIn, open_page_from, new_page_from}
use Rattle.store.specs.declared.Numbers.{Numbers}
use Rattle.std.specs.Prelude.{Option, Some, None, MatchOption}
use Rattle.store.proofs.OpenPages.{empty_from, open_data, last_empty, has_open_lem}

-- ---- the search block by block
module _ (img : List ℕ) (r : Numbers) (b : ℕ) where
  -- the block that is left out has no page for it
  pub search_left_out : first_from (λ i. is_open_but (Some b) img r (page_in b i)) pages_in_block 0 ≡ pages_in_block
  search_left_out = first_all _ pages_in_block 0 (λ i h k. let q : page_in b i / pages_in_block ≡ b = omega arith in rw (eq-eqb _ _ q))

  -- every other has the pages that it has for a write
  pub search_elsewhere : (a : ℕ) → (a ≡ b → ⊥)
      → first_from (λ i. is_open_but (Some b) img r (page_in a i)) pages_in_block 0 ≡ first_from (λ i. is_open img r (page_in a i)) pages_in_block 0
  search_elsewhere a n = first_agree _ _ pages_in_block 0 (λ i h k. let q : page_in a i / pages_in_block ≡ a = omega arith in let z = ne_eqb
      (page_in a i / pages_in_block) b (λ e. n (sym q ∙ e)) in rw z)

-- the same where a block is left out or none: where a search ends in block a, counted in it
abbrev pub search_in : Option ℕ → List ℕ → Numbers → ℕ → ℕ
search_in but img r a = first_from (λ i. is_open_but but img r (page_in a i)) pages_in_block 0

module _ (but : Option ℕ) (img : List ℕ) (r : Numbers) (a : ℕ) where
  pub search_passes : is_left_out but a ≡ true → search_in but img r a ≡ pages_in_block
  search_passes = go but
    where
      go : (x : Option ℕ) → is_left_out x a ≡ true → search_in x img r a ≡ pages_in_block
      go (Some b) e = let q : b ≡ a = eqb-true b a e in rw q (search_left_out img r a)
      go None e = absurd (true-false e refl)

  pub search_in_lem : is_left_out but a ≡ false → search_in but img r a ≡ first_from (λ i. is_open img r (page_in a i)) pages_in_block 0
  search_in_lem = go but
    where
      go : (x : Option ℕ) → is_left_out x a ≡ false → search_in x img r a ≡ first_from (λ i. is_open img r (page_in a i)) pages_in_block 0
      go (Some b) e = search_elsewhere img r b a (λ q. eqb-false b a e (sym q))
      go None e = refl

  -- the lowest open page from a block on: in it, in a later one, or nowhere
  pub open_here : (i : ℕ) → page_in a pages_in_block ≤ pages img → is_left_out but a ≡ false
      → i ≡ first_from (λ j. is_open img r (page_in a j)) pages_in_block 0 → i < pages_in_block → open_page_from but img r a ≡ Some (page_in a i)
  unfolding open_page_from
  open_here i h e f l =
      let q : search_in but img r a ≡ i = search_in_lem e ∙ sym f in
      let row = first_in_row (is_open_but but img r) (pages img) (a * pages_in_block) pages_in_block h (rw q l) in
      rw (row, q, lt-ltb (page_in a i) (pages img) (omega arith))

  pub open_later : page_in a pages_in_block ≤ pages img → search_in but img r a ≡ pages_in_block → open_page_from but img r a ≡ open_page_from but img r (a + 1)
  unfolding open_page_from
  open_later h e =
      let q : (a + 1) * pages_in_block ≡ a * pages_in_block + pages_in_block = omega arith in
      rw (first_past_row (is_open_but but img r) (pages img) (a * pages_in_block) pages_in_block h e, q)

  pub open_none : pages img ≤ a * pages_in_block → open_page_from but img r a ≡ None
  unfolding open_page_from
  open_none h = rw (first_none (is_open_but but img r) (pages img) (a * pages_in_block) h, le-ltb (a * pages_in_block) (pages img) h)

-- a search passes the blocks that are left out or have no open page, and ends in the first other one
abbrev pub is_searched : Option ℕ → List ℕ → Numbers → ℕ → Bool
is_searched but img r b = not (is_left_out but b) && has_open img r b

module _ (but : Option ℕ) (img : List ℕ) (r : Numbers) where
  none_in : (b : ℕ) → is_searched but img r b ≡ false → search_in but img r b ≡ pages_in_block
  unfolding has_open
  none_in b e = go (is_left_out but b) refl
    where
      go : (t : Bool) → is_left_out but b ≡ t → search_in but img r b ≡ pages_in_block
      go true q = search_passes but img r b q
      go false q =
          search_in_lem but img r b q
          ∙ omega (arith, (first_bounds (λ i. is_open img r (page_in b i)) pages_in_block 0).1, ltb-false _ _ (rw q at e))

  open_past : (n a : ℕ) → (a + n) * pages_in_block ≤ pages img → ((b : ℕ) → a ≤ b → b < a + n → is_searched but img r b ≡ false)
      → open_page_from but img r a ≡ open_page_from but img r (a + n)
  open_past zero a h none = let e : a + 0 ≡ a = omega arith in rw e
  open_past (suc n) a h none =
      let e : a + 1 + n ≡ a + suc n = omega arith in
      open_later but img r a (omega arith) (none_in a (none a (omega arith) (omega arith)))
      ∙ open_past n (a + 1) (omega arith) (λ b l k. none b (omega arith) (omega arith)) ∙ ap (open_page_from but img r) e

  search_found : (a b : ℕ) → a ≤ b → page_in b pages_in_block ≤ pages img → ((c : ℕ) → a ≤ c → c < b → is_searched but img r c ≡ false) → is_searched but img r b ≡ true
      → open_page_from but img r a ≡ Some (page_in b (first_from (empty_from img b) pages_in_block 0))
  search_found a b h inside none some =
      let e : a + (b - a) ≡ b = omega arith in
      let w = and-true (not (is_left_out but b)) (has_open img r b) some in
      let d = and-true (page_empty img (page_in b (pages_in_block - 1))) (is_data img r b) (sym (has_open_lem img b r) ∙ w.1) in
      open_past (b - a) a (omega arith) (λ c l k. none c l (omega arith)) ∙ ap (open_page_from but img r) e
      ∙ open_here but img r b _ inside (not-true _ w.0) (sym (open_data img b r d.1)) (last_empty img b d.0)

  search_failed : (a n : ℕ) → a ≤ n → n * pages_in_block ≡ pages img → ((c : ℕ) → a ≤ c → c < n → is_searched but img r c ≡ false) → open_page_from but img r a ≡ None
  search_failed a n h size none =
      let e : a + (n - a) ≡ n = omega arith in
      open_past (n - a) a (omega arith) (λ c l k. none c l (omega arith)) ∙ ap (open_page_from but img r) e ∙ open_none but img r n (omega arith)

  -- as a search of the blocks from one on says it
  pub block_searched : size_right img ≡ true → (a n : ℕ) → a ≤ n → n ≡ blocks img → (o : Option ℕ)
      → MatchOption o ((c : ℕ) → a ≤ c → c < n → is_searched but img r c ≡ false)
      (λ b. (a ≤ b) × (b < n) × (is_searched but img r b ≡ true) × ((c : ℕ) → a ≤ c → c < b → is_searched but img r c ≡ false))
      → MatchOption o (open_page_from but img r a ≡ None) (λ b. OpenIn but img r a b)
  block_searched size a n h e (Some b) d =
      let z = sized img size in
      record { inside = omega arith; lowest = search_found a b d.0 (omega (arith, z.paged)) d.3 d.2 }
  block_searched size a n h e None d = let z = sized img size in search_failed a n h (omega (arith, z.paged)) d

-- from the first block on it is the search for a new page
pub new_from_start : (but : Option ℕ) (img : List ℕ) (r : Numbers) → new_page_from but img r 0 ≡ new_page_but but img r
unfolding new_page_from open_page_from new_page_but
new_from_start but img r = let e : pages img - 0 ≡ pages img = omega arith in rw e

-- ---- counts
pub count_shift : (p : ℕ → Bool) (a n i : ℕ) → count_from (λ j. p (a + j)) n i ≡ count_from p n (a + i)
unfolding count_from
count_shift p a zero i = refl
count_shift p a (suc n) i = let e : a + suc i ≡ suc (a + i) = omega arith in rw (count_shift p a n (suc i), e)
