-- The sizes that are taken; the lowest empty block, and how many blocks are empty.
use Prim.Native.Nat.{ℕ, zero, suc, ◌+◌, ◌*◌, ◌/◌, ◌%◌, ◌<◌, ◌≤◌}
use native.Mathlib.Omega.{arith}
use native.Mathlib.Decide.{dec_lt, ℕ_discrete}
use mathlib.Core.Path.{◌≡◌, refl, ap}
use mathlib.Core.Bool.{Bool, true, false, cond}
use mathlib.Core.List.{List}
use lib.Dec.{eqb, leb}
use lib.ListN.{length}
use borrow.Author.Tests.{eqb-true, leb-true, eq-eqb, le-leb}
use Rattle.base.specs.Search.{first_from, count_from}
use Rattle.base.proofs.Choice.{and-true, and_intro, true-false}
use Rattle.base.proofs.Searches.{first_bounds, first_holds, first_least, first_agree, count_agree, count_most}
use Rattle.image.specs.Size.{block_size, pages_in_block, fewest_blocks, most_blocks, blocks, pages, right_length, size_right}
use Rattle.image.specs.Look.{block_empty, lowest_empty, empty_blocks}

-- ---- sizes
-- what a right size says of an image: full blocks, 8 to 256 of them
pub record Sized (img : List ℕ) : Type 0 where
  pub full : length img ≡ block_size * blocks img
  pub fewest : fewest_blocks ≤ blocks img
  pub most : blocks img ≤ most_blocks
  pub bounded : length img ≤ most_blocks * block_size
  pub paged : pages img ≡ pages_in_block * blocks img

pub sized : (img : List ℕ) → size_right img ≡ true → Sized img
unfolding size_right
sized img e =
    let both = and-true _ (leb (length img / block_size) most_blocks) e in
    let low = and-true (eqb (length img % block_size) 0) (leb fewest_blocks (length img / block_size)) both.0 in
    let f : length img % block_size ≡ 0 = eqb-true _ _ low.0 in
    record {
      full = omega arith;
      fewest = leb-true _ _ low.1;
      most = leb-true _ _ both.1;
      bounded = let m : length img / block_size ≤ most_blocks = leb-true _ _ both.1 in omega arith;
      paged = omega arith;
    }

pub sized_right : (img : List ℕ) → Sized img → size_right img ≡ true
unfolding size_right
sized_right img s =
    and_intro _ (leb (length img / block_size) most_blocks)
    (and_intro (eqb (length img % block_size) 0) (leb fewest_blocks (length img / block_size)) (eq-eqb (length img % block_size) 0 (omega (arith, s.full))) (le-leb _ _ s.fewest))
    (le-leb _ _ s.most)

-- the size goes by the length
pub size_same : (img : List ℕ) (n : ℕ) → length img ≡ n → size_right img ≡ right_length n
unfolding size_right
size_same img n e = ap right_length e

-- a block or a page of an image is inside it
pub block_inside : (img : List ℕ) (b : ℕ) → b < blocks img → b * block_size + block_size ≤ length img
block_inside img b h = omega arith

-- ---- searches and counts of any test
count_first : (p : ℕ → Bool) (n i : ℕ) → 1 ≤ count_from p n i → first_from p n i < i + n
unfolding count_from first_from
count_first p zero i h = absurd (omega arith)
count_first p (suc n) i h = go (p i) h (count_first p n (suc i))
  where
    go : (b : Bool) → 1 ≤ cond b 1 0 + count_from p n (suc i) → (1 ≤ count_from p n (suc i) → first_from p n (suc i) < suc i + n)
        → cond b i (first_from p n (suc i)) < i + suc n
    go true h r = omega arith
    go false h r = let f = r (omega arith) in omega arith

-- one that holds is counted
count_one : (p : ℕ → Bool) (n i j : ℕ) → i ≤ j → j < i + n → p j ≡ true → 1 ≤ count_from p n i
unfolding count_from
count_one p zero i j h k e = absurd (omega arith)
count_one p (suc n) i j h k e =
    elim (ℕ_discrete j i) [
      | yes q ↦ let f : p i ≡ true = rw (← q) e in rw f (omega arith)
      | no q ↦ omega (arith, count_one p n (suc i) j (omega arith) (omega arith) e)
    ]

-- where two hold, one holds apart from any given one
abbrev Another : (ℕ → Bool) → ℕ → ℕ → Type 0
Another p n b = (j : ℕ) × (j < n) × (p j ≡ true) × (j ≡ b → ⊥)

count_another : (p : ℕ → Bool) (n i b : ℕ) → 2 ≤ count_from p n i → Another p (i + n) b
unfolding count_from
count_another p zero i b h = absurd (omega arith)
count_another p (suc n) i b h = go (p i) refl h (ℕ_discrete i b) (count_another p n (suc i) b)
  where
    go : (t : Bool) → p i ≡ t → 2 ≤ cond t 1 0 + count_from p n (suc i) → Dec (i ≡ b)
        → (2 ≤ count_from p n (suc i) → Another p (suc i + n) b) → Another p (i + suc n) b
    go true e h (no d) r = (i, omega arith, e, d)
    go true e h (yes d) r =
        let f : first_from p n (suc i) < suc i + n = count_first p n (suc i) (omega arith) in
        let l = first_bounds p n (suc i) in
        (first_from p n (suc i), omega arith, first_holds p n (suc i) f, λ q. omega arith)
    go false e h d r = let f = r (omega arith) in (f.0, omega arith, f.2, f.3)

-- two tests that differ at one number alone
pub count_except : (p q : ℕ → Bool) (n i b : ℕ) → i ≤ b → b < i + n → p b ≡ true → q b ≡ false → ((j : ℕ) → (j ≡ b → ⊥) → q j ≡ p j)
    → count_from p n i ≡ suc (count_from q n i)
unfolding count_from
count_except p q zero i b h k e f a = absurd (omega arith)
count_except p q (suc n) i b h k e f a =
    elim (ℕ_discrete i b) [
      | yes d ↦
          let x : p i ≡ true = rw d e in
          let y : q i ≡ false = rw d f in
          rw (x, y, count_agree q p n (suc i) (λ j l m. a j (λ z. omega arith))) (omega arith)
      | no d ↦ rw (a i d, count_except p q n (suc i) b (omega arith) (omega arith) e f a) (omega arith)
    ]

-- ---- the lowest empty block
module _ (img : List ℕ) where
  pub lowest_most : lowest_empty img ≤ blocks img
  unfolding lowest_empty
  lowest_most = omega (arith, first_bounds (block_empty img) (blocks img) 0)

  pub lowest_empty_lem : lowest_empty img < blocks img → block_empty img (lowest_empty img) ≡ true
  unfolding lowest_empty
  lowest_empty_lem h = first_holds (block_empty img) (blocks img) 0 (omega arith)

  pub lowest_least : (b : ℕ) → b < lowest_empty img → block_empty img b ≡ false
  unfolding lowest_empty
  lowest_least b h = first_least (block_empty img) (blocks img) 0 b (omega arith) h

  -- no empty block lies below it
  pub lowest_below : (b : ℕ) → block_empty img b ≡ true → lowest_empty img ≤ b
  lowest_below b e =
      elim (dec_lt b (lowest_empty img)) [ yes h ↦ absurd (true-false e (lowest_least b h)) | no h ↦ omega arith ]

  -- ---- there is one exactly if the count is not 0
  pub lowest_some : 1 ≤ empty_blocks img → lowest_empty img < blocks img
  unfolding empty_blocks lowest_empty
  lowest_some h = omega (arith, count_first (block_empty img) (blocks img) 0 h)

  pub empty_counted : (b : ℕ) → b < blocks img → block_empty img b ≡ true → 1 ≤ empty_blocks img
  unfolding empty_blocks
  empty_counted b h e = count_one (block_empty img) (blocks img) 0 b (omega arith) (omega arith) e

  pub lowest_counted : lowest_empty img < blocks img → 1 ≤ empty_blocks img
  lowest_counted h = empty_counted (lowest_empty img) h (lowest_empty_lem h)

  pub empty_most : empty_blocks img ≤ blocks img
  unfolding empty_blocks
  empty_most = count_most (block_empty img) (blocks img) 0

  -- of two empty blocks one is apart from any block
  pub another_empty : (b : ℕ) → 2 ≤ empty_blocks img → (c : ℕ) × (c < blocks img) × (block_empty img c ≡ true) × (c ≡ b → ⊥)
  unfolding empty_blocks
  another_empty b h =
      let f = count_another (block_empty img) (blocks img) 0 b h in
      (f.0, omega (arith, f.1), f.2, f.3)

-- ---- two images of one length
module _ (img img' : List ℕ) (same : length img' ≡ length img) where
  pub blocks-same : blocks img' ≡ blocks img
  blocks-same = ap (λ (n : ℕ). n / block_size) same

  -- with the same empty blocks
  pub lowest_same : ((b : ℕ) → b < blocks img → block_empty img' b ≡ block_empty img b) → lowest_empty img' ≡ lowest_empty img
  unfolding lowest_empty
  lowest_same f = rw same (first_agree (block_empty img') (block_empty img) (blocks img) 0 (λ b h k. f b (omega arith)))

  pub empty_same : ((b : ℕ) → b < blocks img → block_empty img' b ≡ block_empty img b) → empty_blocks img' ≡ empty_blocks img
  unfolding empty_blocks
  empty_same f = rw same (count_agree (block_empty img') (block_empty img) (blocks img) 0 (λ b h k. f b (omega arith)))

  -- where block b alone is empty no more
  pub empty_one_fewer : (b : ℕ) → b < blocks img → block_empty img b ≡ true → block_empty img' b ≡ false
      → ((c : ℕ) → (c ≡ b → ⊥) → block_empty img' c ≡ block_empty img c) → empty_blocks img ≡ suc (empty_blocks img')
  unfolding empty_blocks
  empty_one_fewer b h e f a = rw same (count_except (block_empty img) (block_empty img') (blocks img) 0 b (omega arith) (omega arith) e f a)
