-- The laws of searching and counting, over any test: the steps of a loop that goes up, and what an answer says.
use Prim.Native.Nat.{ℕ, zero, suc, ◌+◌, ◌-◌, ◌<◌, ◌≤◌, max}
use native.Mathlib.Omega.{arith}
use native.Mathlib.Nat.{zero-add, add-zero}
use mathlib.Core.List.{[], ◌∷◌}
use lib.ListN.{length}
use lib.Dec.{leb}
use borrow.Author.Tests.{leb-true, le-leb, lt-leb}
use native.Mathlib.Numerals.{add-one}
use native.Mathlib.Decide.{dec_lt}
use mathlib.Core.Path.{◌≡◌, refl, sym, ◌∙◌}
use mathlib.Core.Bool.{Bool, true, false, cond, ◌&&◌, ◌||◌, or_assoc}
use Rattle.base.proofs.Choice.{and-true, and_intro, or_left, true-false}
use Rattle.base.specs.Search.{first_from, count_from, all_from, any_from, which_from, highest_from}

-- what holds of each number below n, and of n, holds of each below n + 1
pub below_suc : (P : ℕ → Type 0) (n : ℕ) → ((i : ℕ) → i < n → P i) → P n → (i : ℕ) → i < suc n → P i
below_suc P n f p i h =
    elim (dec_lt i n) [ yes k ↦ f i k | no k ↦ let q : i ≡ n = omega arith in rw q p ]

-- ---- a loop's steps, as the code has them: i goes up to n
module _ (p : ℕ → Bool) (n i : ℕ) (h : i < n) where
  pub first_here : p i ≡ true → first_from p (n - i) i ≡ i
  unfolding first_from
  first_here e = let k : n - i ≡ suc (n - (i + 1)) = omega arith in rw (k, e)

  pub first_next : p i ≡ false → first_from p (n - i) i ≡ first_from p (n - (i + 1)) (i + 1)
  unfolding first_from
  first_next e = let k : n - i ≡ suc (n - (i + 1)) = omega arith in rw (k, e, add-one)

  pub count_next : count_from p (n - i) i ≡ cond (p i) 1 0 + count_from p (n - (i + 1)) (i + 1)
  unfolding count_from
  count_next = let k : n - i ≡ suc (n - (i + 1)) = omega arith in rw (k, add-one)

pub first_none : (p : ℕ → Bool) (n i : ℕ) → n ≤ i → first_from p (n - i) i ≡ i
unfolding first_from
first_none p n i h = let k : n - i ≡ 0 = omega arith in rw k

pub count_none : (p : ℕ → Bool) (n i : ℕ) → n ≤ i → count_from p (n - i) i ≡ 0
unfolding count_from
count_none p n i h = let k : n - i ≡ 0 = omega arith in rw k

-- ---- what the answer of a search says
pub first_bounds : (p : ℕ → Bool) (n i : ℕ) → (i ≤ first_from p n i) × (first_from p n i ≤ i + n)
unfolding first_from
first_bounds p zero i = omega arith
first_bounds p (suc n) i = go (p i) (first_bounds p n (suc i))
  where
    go : (b : Bool) → (suc i ≤ first_from p n (suc i)) × (first_from p n (suc i) ≤ suc i + n)
        → (i ≤ cond b i (first_from p n (suc i))) × (cond b i (first_from p n (suc i)) ≤ i + suc n)
    go true r = omega arith
    go false r = omega arith

pub first_holds : (p : ℕ → Bool) (n i : ℕ) → first_from p n i < i + n → p (first_from p n i) ≡ true
unfolding first_from
first_holds p zero i h = absurd (omega arith)
first_holds p (suc n) i h = go (p i) refl h (first_holds p n (suc i))
  where
    go : (b : Bool) → p i ≡ b → cond b i (first_from p n (suc i)) < i + suc n
        → (first_from p n (suc i) < suc i + n → p (first_from p n (suc i)) ≡ true) → p (cond b i (first_from p n (suc i))) ≡ true
    go true e h r = e
    go false e h r = r (omega arith)

pub first_least : (p : ℕ → Bool) (n i j : ℕ) → i ≤ j → j < first_from p n i → p j ≡ false
unfolding first_from
first_least p zero i j h k = absurd (omega arith)
first_least p (suc n) i j h k = go (p i) refl k (first_least p n (suc i) j)
  where
    go : (b : Bool) → p i ≡ b → j < cond b i (first_from p n (suc i))
        → (suc i ≤ j → j < first_from p n (suc i) → p j ≡ false) → p j ≡ false
    go true e k r = absurd (omega arith)
    go false e k r =
        elim (dec_lt i j) [ yes l ↦ r l k | no l ↦ let q : j ≡ i = omega arith in rw q e ]

-- ---- a test of all
module _ (p : ℕ → Bool) (n i : ℕ) (h : i < n) where
  pub all_next : p i ≡ true → all_from p (n - i) i ≡ all_from p (n - (i + 1)) (i + 1)
  unfolding all_from
  all_next e = let k : n - i ≡ suc (n - (i + 1)) = omega arith in rw (k, e, add-one)

  pub all_fails : p i ≡ false → all_from p (n - i) i ≡ false
  unfolding all_from
  all_fails e = let k : n - i ≡ suc (n - (i + 1)) = omega arith in rw (k, e)

  pub all_step : all_from p (n - i) i ≡ (p i && all_from p (n - (i + 1)) (i + 1))
  unfolding all_from
  all_step = let k : n - i ≡ suc (n - (i + 1)) = omega arith in rw (k, add-one)

pub all_none : (p : ℕ → Bool) (n i : ℕ) → n ≤ i → all_from p (n - i) i ≡ true
unfolding all_from
all_none p n i h = let k : n - i ≡ 0 = omega arith in rw k

pub all_holds : (p : ℕ → Bool) (n i j : ℕ) → all_from p n i ≡ true → i ≤ j → j < i + n → p j ≡ true
unfolding all_from
all_holds p zero i j e h k = absurd (omega arith)
all_holds p (suc n) i j e h k =
    let b = and-true (p i) (all_from p n (suc i)) e in
    elim (dec_lt i j) [
      | yes l ↦ all_holds p n (suc i) j b.1 l (omega arith)
      | no l ↦ let q : j ≡ i = omega arith in rw q b.0
    ]

pub all_intro : (p : ℕ → Bool) (n i : ℕ) → ((j : ℕ) → i ≤ j → j < i + n → p j ≡ true) → all_from p n i ≡ true
unfolding all_from
all_intro p zero i h = refl
all_intro p (suc n) i h =
    and_intro (p i) (all_from p n (suc i)) (h i (omega arith) (omega arith)) (all_intro p n (suc i) (λ j a b. h j (omega arith) (omega arith)))

-- ---- tests that agree
pub first_agree : (p q : ℕ → Bool) (n i : ℕ) → ((j : ℕ) → i ≤ j → j < i + n → p j ≡ q j) → first_from p n i ≡ first_from q n i
unfolding first_from
first_agree p q zero i h = refl
first_agree p q (suc n) i h =
    rw (h i (omega arith) (omega arith), first_agree p q n (suc i) (λ j a b. h j (omega arith) (omega arith)))

pub count_agree : (p q : ℕ → Bool) (n i : ℕ) → ((j : ℕ) → i ≤ j → j < i + n → p j ≡ q j) → count_from p n i ≡ count_from q n i
unfolding count_from
count_agree p q zero i h = refl
count_agree p q (suc n) i h =
    rw (h i (omega arith) (omega arith), count_agree p q n (suc i) (λ j a b. h j (omega arith) (omega arith)))

pub count_most : (p : ℕ → Bool) (n i : ℕ) → count_from p n i ≤ n
unfolding count_from
count_most p zero i = omega arith
count_most p (suc n) i = go (p i) (count_most p n (suc i))
  where
    go : (b : Bool) → count_from p n (suc i) ≤ n → cond b 1 0 + count_from p n (suc i) ≤ suc n
    go true h = omega arith
    go false h = omega arith

-- none pass: the count is 0, and the search ends after them all
pub first_all : (p : ℕ → Bool) (n i : ℕ) → ((j : ℕ) → i ≤ j → j < i + n → p j ≡ false) → first_from p n i ≡ i + n
unfolding first_from
first_all p zero i h = omega arith
first_all p (suc n) i h =
    rw (h i (omega arith) (omega arith)) (first_all p n (suc i) (λ j a b. h j (omega arith) (omega arith)) ∙ omega arith)

-- where one is counted the search ends before the end
pub count_first : (p : ℕ → Bool) (n i : ℕ) → 1 ≤ count_from p n i → first_from p n i < i + n
unfolding count_from first_from
count_first p zero i h = absurd (omega arith)
count_first p (suc n) i h = go (p i) h (count_first p n (suc i))
  where
    go : (b : Bool) → 1 ≤ cond b 1 0 + count_from p n (suc i) → (1 ≤ count_from p n (suc i) → first_from p n (suc i) < suc i + n)
        → cond b i (first_from p n (suc i)) < i + suc n
    go true h r = omega arith
    go false h r = let f = r (omega arith) in omega arith

-- ---- a test of any
module _ (p : ℕ → Bool) (n i : ℕ) (h : i < n) where
  pub any_here : p i ≡ true → any_from p (n - i) i ≡ true
  unfolding any_from
  any_here e = let k : n - i ≡ suc (n - (i + 1)) = omega arith in rw (k, e)

  pub any_next : p i ≡ false → any_from p (n - i) i ≡ any_from p (n - (i + 1)) (i + 1)
  unfolding any_from
  any_next e = let k : n - i ≡ suc (n - (i + 1)) = omega arith in rw (k, e, add-one)

pub any_none : (p : ℕ → Bool) (n i : ℕ) → n ≤ i → any_from p (n - i) i ≡ false
unfolding any_from
any_none p n i h = let k : n - i ≡ 0 = omega arith in rw k

pub any_intro : (p : ℕ → Bool) (n i j : ℕ) → i ≤ j → j < i + n → p j ≡ true → any_from p n i ≡ true
unfolding any_from
any_intro p zero i j h k e = absurd (omega arith)
any_intro p (suc n) i j h k e =
    elim (dec_lt i j) [
      | yes l ↦ go (p i) (any_intro p n (suc i) j l (omega arith) e)
      | no l ↦ let q : i ≡ j = omega arith in or_left (p i) (any_from p n (suc i)) (rw q e)
    ]
  where
    go : (b : Bool) → any_from p n (suc i) ≡ true → b || any_from p n (suc i) ≡ true
    go true r = refl
    go false r = r

-- where any passes, the first that does
pub any_holds : (p : ℕ → Bool) (n i : ℕ) → any_from p n i ≡ true → (j : ℕ) × (i ≤ j) × (j < i + n) × (p j ≡ true)
unfolding any_from
any_holds p zero i e = absurd (true-false e refl)
any_holds p (suc n) i e = go (p i) refl e (any_holds p n (suc i))
  where
    go : (b : Bool) → p i ≡ b → b || any_from p n (suc i) ≡ true
        → (any_from p n (suc i) ≡ true → (j : ℕ) × (suc i ≤ j) × (j < suc i + n) × (p j ≡ true))
        → (j : ℕ) × (i ≤ j) × (j < i + suc n) × (p j ≡ true)
    go true q e r = (i, omega arith, omega arith, q)
    go false q e r = let s = r e in (s.0, omega arith, omega arith, s.3)

pub any_fails : (p : ℕ → Bool) (n i j : ℕ) → any_from p n i ≡ false → i ≤ j → j < i + n → p j ≡ false
any_fails p n i j e h k = go (p j) refl
  where
    go : (b : Bool) → p j ≡ b → b ≡ false
    go true q = absurd (true-false (any_intro p n i j h k q) e)
    go false q = refl

-- none pass
pub any_all_fail : (p : ℕ → Bool) (n i : ℕ) → ((j : ℕ) → i ≤ j → j < i + n → p j ≡ false) → any_from p n i ≡ false
unfolding any_from
any_all_fail p zero i h = refl
any_all_fail p (suc n) i h =
    rw (h i (omega arith) (omega arith)) (any_all_fail p n (suc i) (λ j a b. h j (omega arith) (omega arith)))

pub any_agree : (p q : ℕ → Bool) (n i : ℕ) → ((j : ℕ) → i ≤ j → j < i + n → p j ≡ q j) → any_from p n i ≡ any_from q n i
unfolding any_from
any_agree p q zero i h = refl
any_agree p q (suc n) i h =
    rw (h i (omega arith) (omega arith), any_agree p q n (suc i) (λ j a b. h j (omega arith) (omega arith)))

-- any of a row or of the next
pub any_join : (p : ℕ → Bool) (m n i : ℕ) → any_from p (m + n) i ≡ (any_from p m i || any_from p n (i + m))
unfolding any_from
any_join p zero n i = rw (zero-add, add-zero)
any_join p (suc m) n i =
    let k : suc m + n ≡ suc (m + n) = omega arith in
    let l : i + suc m ≡ suc i + m = omega arith in
    rw (k, l, any_join p m n (suc i)) (sym (or_assoc (p i) (any_from p m (suc i)) (any_from p n (suc i + m))))

-- ---- tests that agree, for all
pub all_agree : (p q : ℕ → Bool) (n i : ℕ) → ((j : ℕ) → i ≤ j → j < i + n → p j ≡ q j) → all_from p n i ≡ all_from q n i
unfolding all_from
all_agree p q zero i h = refl
all_agree p q (suc n) i h =
    rw (h i (omega arith) (omega arith), all_agree p q n (suc i) (λ j a b. h j (omega arith) (omega arith)))

-- ---- a count of one or more is that any passes
pub count_any : (p : ℕ → Bool) (n i : ℕ) → leb 1 (count_from p n i) ≡ any_from p n i
unfolding count_from any_from
count_any p zero i = refl
count_any p (suc n) i = go (p i) (count_any p n (suc i))
  where
    go : (b : Bool) → leb 1 (count_from p n (suc i)) ≡ any_from p n (suc i)
        → leb 1 (cond b 1 0 + count_from p n (suc i)) ≡ (b || any_from p n (suc i))
    go true r = le-leb 1 (1 + count_from p n (suc i)) (omega arith)
    go false r = rw zero-add r

-- ---- a count of at most one is that all who pass are the same
pub count_some : (p : ℕ → Bool) (n i j : ℕ) → i ≤ j → j < i + n → p j ≡ true → 1 ≤ count_from p n i
count_some p n i j h k e = leb-true _ _ (count_any p n i ∙ any_intro p n i j h k e)

pub count_zero : (p : ℕ → Bool) (n i : ℕ) → ((j : ℕ) → i ≤ j → j < i + n → p j ≡ false) → count_from p n i ≡ 0
unfolding count_from
count_zero p zero i h = refl
count_zero p (suc n) i h =
    rw (h i (omega arith) (omega arith), count_zero p n (suc i) (λ j a b. h j (omega arith) (omega arith)))

count_two : (p : ℕ → Bool) (n i j k : ℕ) → i ≤ j → j < k → k < i + n → p j ≡ true → p k ≡ true → 2 ≤ count_from p n i
unfolding count_from
count_two p zero i j k a b c e f = absurd (omega arith)
count_two p (suc n) i j k a b c e f =
    elim (dec_lt i j) [
      | yes l ↦ omega (arith, count_two p n (suc i) j k l b (omega arith) e f)
      | no l ↦ let q : p i ≡ true = let r : i ≡ j = omega arith in rw r e in rw q (omega (arith, count_some p n (suc i) k (omega arith) (omega arith) f))
    ]

pub count_unique : (p : ℕ → Bool) (n i j k : ℕ) → count_from p n i ≤ 1 → i ≤ j → j < i + n → i ≤ k → k < i + n → p j ≡ true → p k ≡ true → j ≡ k
count_unique p n i j k h a b c d e f =
    elim (dec_lt j k) [
      | yes l ↦ absurd (omega (arith, count_two p n i j k a l d e f))
      | no l ↦ elim (dec_lt k j) [ yes m ↦ absurd (omega (arith, count_two p n i k j c m b f e)) | no m ↦ omega arith ]
    ]

pub unique_count : (p : ℕ → Bool) (n i : ℕ) → ((j k : ℕ) → i ≤ j → j < i + n → i ≤ k → k < i + n → p j ≡ true → p k ≡ true → j ≡ k) → count_from p n i ≤ 1
unfolding count_from
unique_count p zero i h = omega arith
unique_count p (suc n) i h = go (p i) refl (unique_count p n (suc i) (λ j k a b c d e f. h j k (omega arith) (omega arith) (omega arith) (omega arith) e f))
  where
    apart : p i ≡ true → (j : ℕ) → suc i ≤ j → j < suc i + n → p j ≡ false
    apart e j a b = test (p j) refl
      where
        test : (t : Bool) → p j ≡ t → t ≡ false
        test true f = absurd (omega (arith, h i j (omega arith) (omega arith) (omega arith) (omega arith) e f))
        test false f = refl

    go : (t : Bool) → p i ≡ t → count_from p n (suc i) ≤ 1 → cond t 1 0 + count_from p n (suc i) ≤ 1
    go true e r = omega (arith, count_zero p n (suc i) (apart e))
    go false e r = omega arith

-- ---- the list of those that pass
module _ (p : ℕ → Bool) (n i : ℕ) (h : i < n) where
  pub which_here : p i ≡ true → which_from p (n - i) i ≡ i ∷ which_from p (n - (i + 1)) (i + 1)
  unfolding which_from
  which_here e = let k : n - i ≡ suc (n - (i + 1)) = omega arith in rw (k, e, add-one)

pub which_none : (p : ℕ → Bool) (n i : ℕ) → n ≤ i → which_from p (n - i) i ≡ []
unfolding which_from
which_none p n i h = let k : n - i ≡ 0 = omega arith in rw k

-- it begins with the first of them
pub which_first : (p : ℕ → Bool) (n i : ℕ) → which_from p n i ≡ which_from p (i + n - first_from p n i) (first_from p n i)
unfolding first_from which_from
which_first p zero i = let k : i + 0 - i ≡ 0 = omega arith in rw k
which_first p (suc n) i = go (p i) refl (which_first p n (suc i))
  where
    go : (t : Bool) → p i ≡ t → which_from p n (suc i) ≡ which_from p (suc i + n - first_from p n (suc i)) (first_from p n (suc i))
        → cond t (i ∷ which_from p n (suc i)) (which_from p n (suc i)) ≡ which_from p (i + suc n - cond t i (first_from p n (suc i))) (cond t i (first_from p n (suc i)))
    go true e r = let k : i + suc n - i ≡ suc n = omega arith in rw (k, e)
    go false e r = let k : i + suc n ≡ suc i + n = omega arith in rw k r

pub which_agree : (p q : ℕ → Bool) (n i : ℕ) → ((j : ℕ) → i ≤ j → j < i + n → p j ≡ q j) → which_from p n i ≡ which_from q n i
unfolding which_from
which_agree p q zero i h = refl
which_agree p q (suc n) i h =
    rw (h i (omega arith) (omega arith), which_agree p q n (suc i) (λ j a b. h j (omega arith) (omega arith)))

-- there are as many as the count says
pub length_which : (p : ℕ → Bool) (n i : ℕ) → length (which_from p n i) ≡ count_from p n i
unfolding which_from count_from
length_which p zero i = refl
length_which p (suc n) i = go (p i) (length_which p n (suc i))
  where
    go : (b : Bool) → length (which_from p n (suc i)) ≡ count_from p n (suc i)
        → length (cond b (i ∷ which_from p n (suc i)) (which_from p n (suc i))) ≡ cond b 1 0 + count_from p n (suc i)
    go true r = omega arith
    go false r = omega arith

-- ---- the highest value
pub highest_bounds : (f : ℕ → ℕ) (n i j : ℕ) → i ≤ j → j < i + n → f j ≤ highest_from f n i
unfolding highest_from
highest_bounds f zero i j h k = absurd (omega arith)
highest_bounds f (suc n) i j h k =
    elim (dec_lt i j) [
      | yes l ↦ omega (arith, highest_bounds f n (suc i) j l (omega arith))
      | no l ↦ let q : j ≡ i = omega arith in rw q (omega arith)
    ]

pub highest_least : (f : ℕ → ℕ) (n i m : ℕ) → ((j : ℕ) → i ≤ j → j < i + n → f j ≤ m) → highest_from f n i ≤ m
unfolding highest_from
highest_least f zero i m h = omega arith
highest_least f (suc n) i m h =
    omega (arith, h i (omega arith) (omega arith), highest_least f n (suc i) m (λ j a b. h j (omega arith) (omega arith)))

pub highest_agree : (f g : ℕ → ℕ) (n i : ℕ) → ((j : ℕ) → i ≤ j → j < i + n → f j ≡ g j) → highest_from f n i ≡ highest_from g n i
unfolding highest_from
highest_agree f g zero i h = refl
highest_agree f g (suc n) i h =
    rw (h i (omega arith) (omega arith), highest_agree f g n (suc i) (λ j a b. h j (omega arith) (omega arith)))

-- of a row and the next
pub highest_join : (f : ℕ → ℕ) (m n i : ℕ) → highest_from f (m + n) i ≡ max (highest_from f m i) (highest_from f n (i + m))
unfolding highest_from
highest_join f zero n i = rw (zero-add, add-zero) (omega arith)
highest_join f (suc m) n i =
    let k : suc m + n ≡ suc (m + n) = omega arith in
    let l : i + suc m ≡ suc i + m = omega arith in
    rw (k, l, highest_join f m n (suc i)) (omega arith)

-- ---- where a search ends
pub first_is : (p : ℕ → Bool) (n i b : ℕ) → i ≤ b → b ≤ i + n → (b < i + n → p b ≡ true) → ((a : ℕ) → i ≤ a → a < b → p a ≡ false) → first_from p n i ≡ b
first_is p n i b h k holds below =
    let f = first_bounds p n i in
    elim (dec_lt (first_from p n i) b) [
      | yes l ↦ absurd (true-false (first_holds p n i (omega arith)) (below (first_from p n i) f.0 l))
      | no l ↦ elim (dec_lt b (first_from p n i)) [
        | yes m ↦ absurd (true-false (holds (omega arith)) (first_least p n i b h m))
        | no m ↦ omega arith
      ]
    ]

-- a search from a on ends in the next w numbers where one of them passes, and goes on after them where none does
module _ (p : ℕ → Bool) (n a w : ℕ) (fits : a + w ≤ n) where
  row_least : (j : ℕ) → a ≤ j → j < a + first_from (λ i. p (a + i)) w 0 → p j ≡ false
  row_least j h k =
      let e : a + (j - a) ≡ j = omega arith in
      rw e at (first_least (λ i. p (a + i)) w 0 (j - a) (omega arith) (omega arith))

  pub first_in_row : first_from (λ i. p (a + i)) w 0 < w → first_from p (n - a) a ≡ a + first_from (λ i. p (a + i)) w 0
  first_in_row h =
      first_is p (n - a) a (a + first_from (λ i. p (a + i)) w 0) (omega arith) (omega arith) (λ l. first_holds (λ i. p (a + i)) w 0 (omega arith)) row_least

  pub first_past_row : first_from (λ i. p (a + i)) w 0 ≡ w → first_from p (n - a) a ≡ first_from p (n - (a + w)) (a + w)
  first_past_row e =
      let r = first_from p (n - (a + w)) (a + w) in
      let f = first_bounds p (n - (a + w)) (a + w) in
      first_is p (n - a) a r (omega arith) (omega arith) (λ l. first_holds p (n - (a + w)) (a + w) (omega arith))
      (λ j h k. elim (dec_lt j (a + w)) [
        | yes l ↦ row_least j h (omega arith)
        | no l ↦ first_least p (n - (a + w)) (a + w) j (omega arith) k
      ])

-- ---- two that pass
second_passes : (c : ℕ) → leb 2 (1 + c) ≡ leb 1 c
second_passes c =
    elim (dec_lt c 1) [
      | yes h ↦ rw (lt-leb 1 c h) (lt-leb 2 (1 + c) (omega arith))
      | no h ↦ rw (le-leb 1 c (omega arith)) (le-leb 2 (1 + c) (omega arith))
    ]

-- two pass exactly if another passes after the first
pub two_pass : (p : ℕ → Bool) (n i : ℕ) → leb 2 (count_from p n i) ≡ any_from p (i + n - (first_from p n i + 1)) (first_from p n i + 1)
unfolding count_from first_from any_from
two_pass p zero i = let e : i + 0 - (i + 1) ≡ 0 = omega arith in rw e
two_pass p (suc n) i = go (p i) (two_pass p n (suc i))
  where
    go : (t : Bool) → leb 2 (count_from p n (suc i)) ≡ any_from p (suc i + n - (first_from p n (suc i) + 1)) (first_from p n (suc i) + 1)
        → leb 2 (cond t 1 0 + count_from p n (suc i)) ≡ any_from p (i + suc n - (cond t i (first_from p n (suc i)) + 1)) (cond t i (first_from p n (suc i)) + 1)
    go true r =
        let e : i + suc n - (i + 1) ≡ n = omega arith in
        rw (e, add-one i, ← count_any p n (suc i)) (second_passes (count_from p n (suc i)))
    go false r =
        let e : i + suc n ≡ suc i + n = omega arith in
        rw (zero-add, e) r
