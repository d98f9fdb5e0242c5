-- The lowest open page, found block by block, and a second empty block, found after the lowest.
use Prim.Native.Nat.{ℕ, ◌+◌, ◌-◌, ◌*◌, ◌<◌, ◌≤◌}
use native.Mathlib.Omega.{arith}
use native.Mathlib.Decide.{dec_lt}
use mathlib.Core.Path.{◌≡◌, refl}
use mathlib.Core.Bool.{Bool, true, false, cond, ◌&&◌, and-false}
use mathlib.Core.List.{List}
use lib.Dec.{ltb}
use borrow.Author.Tests.{ltb-true, ltb-false, lt-ltb}
use Rattle.base.specs.Search.{first_from, all_from, any_from}
use Rattle.base.proofs.Choice.{true-false}
use Rattle.base.proofs.Searches.{first_all, first_agree, first_least, all_holds, all_intro, first_is, two_pass}
use Rattle.image.specs.Size.{pages_in_block, blocks}
use Rattle.image.specs.Look.{page_empty, block_empty, lowest_empty, empty_blocks}
use Rattle.store.specs.Kind.{page_in, is_data}
use Rattle.store.specs.Find.{is_open, fresh_page}
use Rattle.store.specs.Targets.{has_open}
use Rattle.store.specs.declared.Numbers.{Numbers}
use Rattle.std.specs.Prelude.{Some, None}
use Rattle.store.proofs.BlockKinds.{page_block}

-- ---- the open pages of a block
-- page i of block b is empty, and so is each after it
abbrev pub empty_from : List ℕ → ℕ → ℕ → Bool
empty_from img b i = all_from (page_empty img) (pages_in_block - i) (page_in b i)

module _ (img : List ℕ) (b : ℕ) where
  -- one page more, from the end
  pub empty_back : (i : ℕ) → 0 < i → i ≤ pages_in_block → page_empty img (page_in b (i - 1)) ≡ true → empty_from img b i ≡ true → empty_from img b (i - 1) ≡ true
  empty_back i h k e f =
      all_intro (page_empty img) (pages_in_block - (i - 1)) (page_in b (i - 1)) λ j l m.
      elim (dec_lt j (page_in b i)) [
        | yes n ↦ let q : j ≡ page_in b (i - 1) = omega arith in rw q e
        | no n ↦ all_holds (page_empty img) (pages_in_block - i) (page_in b i) j f (omega arith) (omega arith)
      ]

  pub empty_none : empty_from img b pages_in_block ≡ true
  empty_none = all_intro (page_empty img) (pages_in_block - pages_in_block) (page_in b pages_in_block) λ j l m. absurd (omega arith)

  -- the pages at the end of a block that are empty start after the last that is not
  pub empty_start : (i : ℕ) → i ≤ pages_in_block → empty_from img b i ≡ true → (0 < i → page_empty img (page_in b (i - 1)) ≡ false) → first_from (empty_from img b) pages_in_block 0 ≡ i
  empty_start i h e f =
      first_is (empty_from img b) pages_in_block 0 i (omega arith) (omega arith) (λ l. e) (λ a k l. go (empty_from img b a) a refl l)
    where
      go : (t : Bool) (a : ℕ) → empty_from img b a ≡ t → a < i → t ≡ false
      go true a q l =
          absurd (true-false (all_holds (page_empty img) (pages_in_block - a) (page_in b a) (page_in b (i - 1)) q (omega arith) (omega arith)) (f (omega arith)))
      go false a q l = refl

  module _ (r : Numbers) where
    pub open_in : (i : ℕ) → i < pages_in_block → is_open img r (page_in b i) ≡ (is_data img r b && empty_from img b i)
    unfolding is_open
    open_in i h = let k = page_block b i h in rw (k.0, k.1)

    -- in a data block the open pages are those at its end that are empty
    pub open_data : is_data img r b ≡ true → first_from (λ i. is_open img r (page_in b i)) pages_in_block 0 ≡ first_from (empty_from img b) pages_in_block 0
    open_data d = first_agree _ _ pages_in_block 0 (λ i h k. rw (open_in i (omega arith), d))

    -- no other block has one
    pub open_other : is_data img r b ≡ false → first_from (λ i. is_open img r (page_in b i)) pages_in_block 0 ≡ pages_in_block
    open_other d = first_all _ pages_in_block 0 (λ i h k. rw (open_in i (omega arith), d))

  -- nor has one whose last page is not empty
  pub last_full : (r : Numbers) → page_empty img (page_in b (pages_in_block - 1)) ≡ false → first_from (λ i. is_open img r (page_in b i)) pages_in_block 0 ≡ pages_in_block
  last_full r n = first_all _ pages_in_block 0 (λ i l m. rw (open_in r i (omega arith)) (go (empty_from img b i) i refl (omega arith)))
    where
      go : (t : Bool) (i : ℕ) → empty_from img b i ≡ t → i < pages_in_block → is_data img r b && t ≡ false
      go true i e k =
          absurd (true-false (all_holds (page_empty img) (pages_in_block - i) (page_in b i) (page_in b (pages_in_block - 1)) e (omega arith) (omega arith)) n)
      go false i e k = and-false (is_data img r b)

  -- a block whose last page is empty has pages that are empty up to its end
  pub last_empty : page_empty img (page_in b (pages_in_block - 1)) ≡ true → first_from (empty_from img b) pages_in_block 0 < pages_in_block
  last_empty e = go (ltb (first_from (empty_from img b) pages_in_block 0) pages_in_block) refl
    where
      alone : empty_from img b (pages_in_block - 1) ≡ true
      alone = all_intro (page_empty img) (pages_in_block - (pages_in_block - 1)) (page_in b (pages_in_block - 1)) (λ j l h. let q : j ≡ page_in b (pages_in_block - 1) = omega arith in rw q e)

      go : (t : Bool) → ltb (first_from (empty_from img b) pages_in_block 0) pages_in_block ≡ t → first_from (empty_from img b) pages_in_block 0 < pages_in_block
      go true h = ltb-true _ _ h
      go false h = absurd (true-false alone (first_least (empty_from img b) pages_in_block 0 (pages_in_block - 1) (omega arith) (omega (arith, ltb-false _ _ h))))

  -- so a block has an open page where its last page is empty and it is a data block
  pub has_open_lem : (r : Numbers) → has_open img r b ≡ page_empty img (page_in b (pages_in_block - 1)) && is_data img r b
  unfolding has_open
  has_open_lem r = go (page_empty img (page_in b (pages_in_block - 1))) (is_data img r b) refl refl
    where
      go : (e d : Bool) → page_empty img (page_in b (pages_in_block - 1)) ≡ e → is_data img r b ≡ d
          → ltb (first_from (λ i. is_open img r (page_in b i)) pages_in_block 0) pages_in_block ≡ e && d
      go false d n k = rw (last_full r n)
      go true false n k = rw (open_other r k)
      go true true n k = rw (open_data r k, lt-ltb _ _ (last_empty n))

-- ---- two empty blocks
pub two_empty : (img : List ℕ) → fresh_page img ≡ cond (any_from (block_empty img) (blocks img - (lowest_empty img + 1)) (lowest_empty img + 1)) (Some (lowest_empty img * pages_in_block)) None
unfolding fresh_page empty_blocks lowest_empty
two_empty img =
    let e : 0 + blocks img ≡ blocks img = omega arith in
    rw (two_pass (block_empty img) (blocks img) 0, e)
