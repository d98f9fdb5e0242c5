-- The key position and the page that a write takes: the lowest free one; the lowest open page of a data block, or a fresh block's first page while another block stays empty.
use Prim.Native.Nat.{ℕ, zero, suc, ◌-◌, ◌*◌, ◌/◌, ◌%◌, ◌<◌, ◌≤◌}
use native.Mathlib.Omega.{arith}
use Rattle.std.proofs.Common.{add-one}
use mathlib.Core.Path.{◌≡◌, refl, sym, ap, subst, ◌∙◌}
use mathlib.Core.Logic.{◌⊎◌, inl, inr}
use mathlib.Core.Bool.{Bool, true, false, cond, not, ◌&&◌, ◌||◌}
use mathlib.Core.List.{List}
use lib.Dec.{eqb, leb, ltb}
use lib.ListN.{length, get_or}
use borrow.Author.Tests.{ltb-true, ltb-false, lt-ltb, le-ltb, leb-true, leb-false, le-leb, lt-leb, eqb-true, eqb-false, eq-eqb, ne_eqb, not-true}
use Rattle.std.specs.List.{position, position_or_len, list_any, range_with_len}
use Rattle.std.proofs.lemmas.List.Sums.{prefix_len-le-length, passes_at_first, fails_before_first}
use Rattle.base.specs.Search.{first_from, any_from, found}
use Rattle.base.proofs.Choice.{and-true, and_intro, true-false}
use Rattle.base.proofs.Searches.{first_is, first_agree, count_agree, first_holds, first_least, first_all, all_holds, all_intro}
use Rattle.page.specs.Key.{positions}
use Rattle.page.specs.Entry.{free_letter}
use Rattle.image.specs.Size.{pages_in_block, blocks, pages}
use Rattle.image.specs.Look.{page_empty, block_empty, lowest_empty, empty_blocks}
use Rattle.image.proofs.Looks.{lowest_some, lowest_empty_lem, lowest_least}
use Rattle.image.proofs.Empties.{empty_block_page}
use Rattle.store.specs.Kind.{page_in, kind_of, is_data}
use Rattle.store.specs.Find.{lowest_free, is_open, fresh_page, or_else, is_outside, is_open_but, new_page_but, new_page, is_found, found_at}
use Rattle.store.specs.declared.Numbers.{Numbers}
use Rattle.store.specs.declared.Kind.TheVariants.{Other}
use Rattle.std.specs.Prelude.{Option, Some, None, MatchOption}
use Rattle.std.specs.Option.{unwrap_or}
use Rattle.store.proofs.BlockKinds.{kind_unbegun, data_is_other}

-- ---- the first element that a test holds of, by its place and by the search of numbers
pub first_position : (p : ℕ → Bool) (xs : List ℕ) → position p xs ≡ found (length xs) (first_from (λ i. p (get_or xs i 0)) (length xs) 0)
first_position p xs =
    let b = position_or_len p xs in
    let few : b ≤ length xs = prefix_len-le-length (λ x. not (p x)) xs in
    let e : first_from (λ i. p (get_or xs i 0)) (length xs) 0 ≡ b =
    first_is (λ i. p (get_or xs i 0)) (length xs) 0 b (omega arith) (omega arith) (λ h. passes_at_first p xs 0 (omega arith))
    (λ k i h. fails_before_first p xs k 0 h) in
    rw e

-- ---- whether a test holds of some number of a range
pub any_range : (p : ℕ → Bool) (n i : ℕ) → list_any p (range_with_len i n) ≡ any_from p n i
unfolding any_from
any_range p zero i = refl
any_range p (suc n) i = rw add-one (ap (λ b. p i || b) (any_range p n (suc i)))

-- ---- the lowest number that a test holds of
pub record Lowest (p : ℕ → Bool) (n b : ℕ) : Type 0 where
  pub below : b < n
  pub holds : p b ≡ true
  pub none_below : (a : ℕ) → a < b → p a ≡ false

pub by_test : (t : Bool) (i b : ℕ) → cond t (Some i) None ≡ Some b → (t ≡ true) × (i ≡ b)
by_test true i b e = (refl, cc)
by_test false i b e = absurd (let z : ◌≡◌ {A = ℕ} 0 1 = cc in omega arith)

pub not_by_test : (t : Bool) (i : ℕ) → cond t (Some i) None ≡ None → t ≡ false
not_by_test true i e = absurd (let z : ◌≡◌ {A = ℕ} 0 1 = cc in omega arith)
not_by_test false i e = refl

module _ (p : ℕ → Bool) (n : ℕ) where
  pub found_at_lem : (b : ℕ) → found n (first_from p n 0) ≡ Some b → Lowest p n b
  found_at_lem b e =
      let i = first_from p n 0 in
      let t = by_test (ltb i n) i b e in
      let l : i < n = ltb-true i n t.0 in
      subst (Lowest p n) t.1
      (record {
        below = l;
        holds = first_holds p n 0 (omega arith);
        none_below = λ a h. first_least p n 0 a (omega arith) h;
      })

  pub at_found : (b : ℕ) → Lowest p n b → found n (first_from p n 0) ≡ Some b
  at_found b l =
      let e : first_from p n 0 ≡ b = first_is p n 0 b (omega arith) (omega (arith, l.below)) (λ h. l.holds) (λ k i h. l.none_below k h) in
      rw (e, lt-ltb b n l.below)

  pub found_nothing : found n (first_from p n 0) ≡ None → (a : ℕ) → a < n → p a ≡ false
  found_nothing e a h =
      first_least p n 0 a (omega arith) (omega (arith, ltb-false (first_from p n 0) n (not_by_test (ltb (first_from p n 0) n) (first_from p n 0) e)))

  pub nothing_found : ((a : ℕ) → a < n → p a ≡ false) → found n (first_from p n 0) ≡ None
  nothing_found f =
      rw (le-ltb (first_from p n 0) n (omega (arith, first_all p n 0 (λ a h k. f a (omega arith)))))

  -- what `find` gives of the numbers in order; the number after them all where it gives none
  pub first_by_find : (r : Option ℕ)
      → MatchOption r ((k : ℕ) → 0 ≤ k → k < n → p k ≡ false) (λ b. (0 ≤ b) × (b < n) × (p b ≡ true) × ((k : ℕ) → 0 ≤ k → k < b → p k ≡ false))
      → unwrap_or r n ≡ first_from p n 0
  first_by_find None f = sym (first_is p n 0 n (omega arith) (omega arith) (λ h. absurd (omega arith)) f)
  first_by_find (Some b) f = sym (first_is p n 0 b f.0 (omega (arith, f.1)) (λ h. f.2) f.3)

-- ---- the lowest f
module _ (letters : List ℕ) where
  pub lowest_free_lem : (p : ℕ) → lowest_free letters ≡ Some p
      → (p < positions) × (get_or letters p 0 ≡ free_letter) × ((q : ℕ) → q < p → get_or letters q 0 ≡ free_letter → ⊥)
  unfolding lowest_free
  lowest_free_lem p e =
      let l = found_at_lem (λ q. eqb (get_or letters q 0) free_letter) positions p e in
      (l.below, eqb-true _ _ l.holds, λ q h. eqb-false _ _ (l.none_below q h))

  pub free_lowest : (p : ℕ) → p < positions → get_or letters p 0 ≡ free_letter → ((q : ℕ) → q < p → get_or letters q 0 ≡ free_letter → ⊥) → lowest_free letters ≡ Some p
  unfolding lowest_free
  free_lowest p h e f =
      at_found (λ q. eqb (get_or letters q 0) free_letter) positions p
      (record { below = h; holds = eq-eqb _ _ e; none_below = λ q k. ne_eqb _ _ (f q k) })

  pub none_free : lowest_free letters ≡ None → (p : ℕ) → p < positions → get_or letters p 0 ≡ free_letter → ⊥
  unfolding lowest_free
  none_free e p h = eqb-false _ _ (found_nothing (λ q. eqb (get_or letters q 0) free_letter) positions e p h)

  pub free_none : ((p : ℕ) → p < positions → get_or letters p 0 ≡ free_letter → ⊥) → lowest_free letters ≡ None
  unfolding lowest_free
  free_none f = nothing_found (λ q. eqb (get_or letters q 0) free_letter) positions (λ p h. ne_eqb _ _ (f p h))

-- ---- open pages
-- page g is empty, and so is each after it in its block
abbrev pub EmptyFrom : List ℕ → ℕ → Type 0
EmptyFrom img g = (h : ℕ) → g ≤ h → h / pages_in_block ≡ g / pages_in_block → page_empty img h ≡ true

module _ (img : List ℕ) (r : Numbers) (g : ℕ) where
  pub open_page_lem : is_open img r g ≡ true → (is_data img r (g / pages_in_block) ≡ true) × EmptyFrom img g
  unfolding is_open
  open_page_lem e =
      let a = and-true (is_data img r (g / pages_in_block)) _ e in
      (a.0, λ h k q. all_holds (page_empty img) (pages_in_block - g % pages_in_block) g h a.1 k (omega arith))

  pub page_open : is_data img r (g / pages_in_block) ≡ true → EmptyFrom img g → is_open img r g ≡ true
  unfolding is_open
  page_open d f =
      and_intro (is_data img r (g / pages_in_block)) _ d (all_intro (page_empty img) (pages_in_block - g % pages_in_block) g (λ h k l. f h k (omega arith)))

-- ---- the first page of an empty block
module _ (img : List ℕ) where
  -- a fresh block's first page, where another block stays empty
  pub fresh_page_lem : (g : ℕ) → fresh_page img ≡ Some g → (2 ≤ empty_blocks img) × (g ≡ lowest_empty img * pages_in_block)
  unfolding fresh_page
  fresh_page_lem g e =
      let t = by_test (leb 2 (empty_blocks img)) (lowest_empty img * pages_in_block) g e in
      (leb-true _ _ t.0, sym t.1)

  pub no_fresh_page : fresh_page img ≡ None → empty_blocks img ≤ 1
  unfolding fresh_page
  no_fresh_page e =
      omega (arith, leb-false 2 (empty_blocks img) (not_by_test (leb 2 (empty_blocks img)) (lowest_empty img * pages_in_block) e))

-- ---- the page that a write takes, or a gather of a block that it leaves out
-- the lowest open page
pub record OpenPage (but : Option ℕ) (img : List ℕ) (r : Numbers) (g : ℕ) : Type 0 where
  pub inside : g < pages img
  pub outside : is_outside but g ≡ true
  pub data_block : is_data img r (g / pages_in_block) ≡ true
  pub empty : EmptyFrom img g
  pub lowest : (h : ℕ) → h < g → is_open_but but img r h ≡ false

-- no page is open, two blocks are empty: the first page of the lowest of them
pub record FreshPage (but : Option ℕ) (img : List ℕ) (r : Numbers) (g : ℕ) : Type 0 where
  pub none_open : (h : ℕ) → h < pages img → is_open_but but img r h ≡ false
  pub two_empty : 2 ≤ empty_blocks img
  pub first : g ≡ lowest_empty img * pages_in_block
  pub inside : lowest_empty img < blocks img
  pub block_empty_lem : block_empty img (lowest_empty img) ≡ true
  pub lowest : (b : ℕ) → b < lowest_empty img → block_empty img b ≡ false

module _ (but : Option ℕ) (img : List ℕ) (r : Numbers) where
  abbrev first_open : Option ℕ
  first_open = found (pages img) (first_from (is_open_but but img r) (pages img) 0)

  as_open : (g : ℕ) → first_open ≡ Some g → OpenPage but img r g
  as_open g e =
      let l = found_at_lem (is_open_but but img r) (pages img) g e in
      let a = and-true (is_outside but g) (is_open img r g) l.holds in
      let o = open_page_lem img r g a.1 in
      record { inside = l.below; outside = a.0; data_block = o.0; empty = o.1; lowest = l.none_below }

  as_fresh : (g : ℕ) → first_open ≡ None → fresh_page img ≡ Some g → FreshPage but img r g
  as_fresh g n e =
      let f = fresh_page_lem img g e in
      let i = lowest_some img (omega arith) in
      record {
        none_open = found_nothing (is_open_but but img r) (pages img) n;
        two_empty = f.0;
        first = f.1;
        inside = i;
        block_empty_lem = lowest_empty_lem img i;
        lowest = lowest_least img;
      }

  pub new_page_lem : (g : ℕ) → new_page_but but img r ≡ Some g → OpenPage but img r g ⊎ FreshPage but img r g
  unfolding new_page_but
  new_page_lem g = go first_open refl
    where
      go : (x : Option ℕ) → first_open ≡ x → or_else x (fresh_page img) ≡ Some g → OpenPage but img r g ⊎ FreshPage but img r g
      go (Some h) e q = inl (as_open g (e ∙ q))
      go None e q = inr (as_fresh g e q)

  pub no_new_page : new_page_but but img r ≡ None → ((h : ℕ) → h < pages img → is_open_but but img r h ≡ false) × (empty_blocks img ≤ 1)
  unfolding new_page_but
  no_new_page = go first_open refl
    where
      go : (x : Option ℕ) → first_open ≡ x → or_else x (fresh_page img) ≡ None → ((h : ℕ) → h < pages img → is_open_but but img r h ≡ false) × (empty_blocks img ≤ 1)
      go (Some h) e q = absurd (let z : ◌≡◌ {A = ℕ} 0 1 = cc in omega arith)
      go None e q = (found_nothing (is_open_but but img r) (pages img) e, no_fresh_page img q)

  -- the same the other way round
  pub open_is_new : (g : ℕ) → OpenPage but img r g → new_page_but but img r ≡ Some g
  unfolding new_page_but
  open_is_new g o =
      let e : first_open ≡ Some g = at_found (is_open_but but img r) (pages img) g (record { below = o.inside; holds = and_intro _ _ o.outside (page_open img r g o.data_block o.empty); none_below = o.lowest }) in
      rw e

  pub fresh_is_new : ((h : ℕ) → h < pages img → is_open_but but img r h ≡ false) → 2 ≤ empty_blocks img → new_page_but but img r ≡ Some (lowest_empty img * pages_in_block)
  unfolding new_page_but fresh_page
  fresh_is_new f h = let e : first_open ≡ None = nothing_found (is_open_but but img r) (pages img) f in rw (e, le-leb 2 (empty_blocks img) h)

  pub none_is_new : ((h : ℕ) → h < pages img → is_open_but but img r h ≡ false) → empty_blocks img ≤ 1 → new_page_but but img r ≡ None
  unfolding new_page_but fresh_page
  none_is_new f h = let e : first_open ≡ None = nothing_found (is_open_but but img r) (pages img) f in rw (e, lt-leb 2 (empty_blocks img) (omega arith))

-- the page stands in the image, is empty, and so is each page after it in its block
pub new_page-is_empty : (but : Option ℕ) (img : List ℕ) (r : Numbers) (g : ℕ) → new_page_but but img r ≡ Some g → (g < pages img) × (page_empty img g ≡ true) × EmptyFrom img g
new_page-is_empty but img r g e = go (new_page_lem but img r g e)
  where
    go : OpenPage but img r g ⊎ FreshPage but img r g → (g < pages img) × (page_empty img g ≡ true) × EmptyFrom img g
    go (inl o) = (o.inside, o.empty g (omega arith) refl, o.empty)
    go (inr f) =
        let empty : EmptyFrom img g = λ h k q. let b : h / pages_in_block ≡ lowest_empty img = omega (arith, f.first) in empty_block_page img h (rw b f.block_empty_lem) in
        (omega (arith, f.first, f.inside), empty g (omega arith) refl, empty)

-- it stands in no whole key or commit block
pub new_page_is_apart : (but : Option ℕ) (img : List ℕ) (r : Numbers) (g : ℕ) → new_page_but but img r ≡ Some g → kind_of img (g / pages_in_block) ≡ Other
new_page_is_apart but img r g e = go (new_page_lem but img r g e)
  where
    go : OpenPage but img r g ⊎ FreshPage but img r g → kind_of img (g / pages_in_block) ≡ Other
    go (inl o) = data_is_other img r (g / pages_in_block) o.data_block
    go (inr f) =
        let q : page_in (g / pages_in_block) 0 ≡ g = omega (arith, f.first) in
        kind_unbegun img (g / pages_in_block) (rw q (new_page-is_empty but img r g e).1)

-- the same of a write
pub write-page-is_empty : (img : List ℕ) (r : Numbers) (g : ℕ) → new_page img r ≡ Some g → (g < pages img) × (page_empty img g ≡ true) × EmptyFrom img g
write-page-is_empty img r g e = new_page-is_empty None img r g e

pub write_page_is_apart : (img : List ℕ) (r : Numbers) (g : ℕ) → new_page img r ≡ Some g → kind_of img (g / pages_in_block) ≡ Other
write_page_is_apart img r g e = new_page_is_apart None img r g e

-- it stands outside the block that was left out, which is not empty
pub new_page_outside : (img : List ℕ) (r : Numbers) (b g : ℕ) → block_empty img b ≡ false → new_page_but (Some b) img r ≡ Some g → g / pages_in_block ≡ b → ⊥
new_page_outside img r b g n e q = go (new_page_lem (Some b) img r g e)
  where
    go : OpenPage (Some b) img r g ⊎ FreshPage (Some b) img r g → ⊥
    go (inl o) = eqb-false (g / pages_in_block) b (not-true (eqb (g / pages_in_block) b) o.outside) q
    go (inr f) = let z : lowest_empty img ≡ b = omega (arith, f.first) in true-false f.block_empty_lem (rw z n)

-- the search goes by the open pages and the empty blocks
pub new_page_agree : (but : Option ℕ) (img img' : List ℕ) (r : Numbers) → length img ≡ length img' → ((g : ℕ) → g < pages img → is_open img r g ≡ is_open img' r g)
    → ((b : ℕ) → b < blocks img → block_empty img b ≡ block_empty img' b) → new_page_but but img r ≡ new_page_but but img' r
unfolding new_page_but fresh_page lowest_empty empty_blocks
new_page_agree but img img' r n opens empties =
    rw (
      ← n,
      first_agree (is_open_but but img r) (is_open_but but img' r) (pages img) 0 (λ g h k. ap (λ (t : Bool). is_outside but g && t) (opens g (omega arith))),
      first_agree (block_empty img) (block_empty img') (blocks img) 0 (λ b h k. empties b (omega arith)),
      count_agree (block_empty img) (block_empty img') (blocks img) 0 (λ b h k. empties b (omega arith)),
    )

-- a search that found something found it at its place
pub found_is : (x : Option ℕ) → is_found x ≡ true → x ≡ Some (found_at x)
found_is (Some i) e = refl
found_is None e = absurd (true-false e refl)
