-- Laws of folds and lists over numbers in a row: the steps of a loop, and what holds of the whole.
use Prim.Native.Nat.{ℕ, zero, suc, ◌+◌, ◌-◌, ◌<◌, ◌≤◌}
use native.Mathlib.Omega.{arith}
use native.Mathlib.Nat.{add-zero, zero-add}
use native.Mathlib.Numerals.{add-one}
use native.Mathlib.Decide.{dec_lt}
use mathlib.Core.Path.{◌≡◌, refl, ap, subst, ◌∙◌}
use mathlib.Core.List.{List, [], ◌∷◌}
use lib.ListN.{length, get_or, set}
use lib.Seq.{get_or-set_same, get_or-set_other}
use Rattle.base.specs.Fold.{fold_from, list_from}

module _ {S : Type 0} (f : ℕ → S → S) (n i : ℕ) (s : S) where
  pub fold_next : (t : S) → i < n → t ≡ f i s → fold_from f (n - i) i s ≡ fold_from f (n - (i + 1)) (i + 1) t
  unfolding fold_from
  fold_next t h e = let k : n - i ≡ suc (n - (i + 1)) = omega arith in rw (k, e, add-one)

  pub fold_none : n ≤ i → fold_from f (n - i) i s ≡ s
  unfolding fold_from
  fold_none h = let k : n - i ≡ 0 = omega arith in rw k

-- ---- lists over numbers in a row
module _ {A : Type 0} (f : ℕ → A) where
  pub length-list_from : (n i : ℕ) → length (list_from f n i) ≡ n
  unfolding list_from
  length-list_from zero i = refl
  length-list_from (suc n) i = ap suc (length-list_from n (suc i))

  pub list_from_at : (n i j : ℕ) (d : A) → j < n → get_or (list_from f n i) j d ≡ f (i + j)
  unfolding list_from
  list_from_at zero i j d h = absurd (omega arith)
  list_from_at (suc n) i zero d h = ap f (omega arith)
  list_from_at (suc n) i (suc j) d h = list_from_at n (suc i) j d (omega arith) ∙ ap f (omega arith)

  -- a loop's step, as the code has it: i goes up to n
  pub list_from_next : (n i : ℕ) → i < n → list_from f (n - i) i ≡ f i ∷ list_from f (n - (i + 1)) (i + 1)
  unfolding list_from
  list_from_next n i h = let k : n - i ≡ suc (n - (i + 1)) = omega arith in rw (k, add-one)

  pub list_from-none : (n i : ℕ) → n ≤ i → list_from f (n - i) i ≡ []
  unfolding list_from
  list_from-none n i h = let k : n - i ≡ 0 = omega arith in rw k

pub list_from_agree : {A : Type 0} (f g : ℕ → A) (n i : ℕ) → ((j : ℕ) → i ≤ j → j < i + n → f j ≡ g j) → list_from f n i ≡ list_from g n i
unfolding list_from
list_from_agree f g zero i h = refl
list_from_agree f g (suc n) i h =
    rw (h i (omega arith) (omega arith), list_from_agree f g n (suc i) (λ j a b. h j (omega arith) (omega arith)))

pub fold_agree : {S : Type 0} (f g : ℕ → S → S) (n i : ℕ) (s : S) → ((j : ℕ) (t : S) → i ≤ j → j < i + n → f j t ≡ g j t) → fold_from f n i s ≡ fold_from g n i s
unfolding fold_from
fold_agree f g zero i s h = refl
fold_agree f g (suc n) i s h =
    rw (h i s (omega arith) (omega arith)) (fold_agree f g n (suc i) (g i s) (λ j t a b. h j t (omega arith) (omega arith)))

-- what each step keeps, the fold keeps
pub fold_keeps : {S : Type 0} (P : S → Type 0) (f : ℕ → S → S) (n i : ℕ) (s : S)
    → ((j : ℕ) (t : S) → i ≤ j → j < i + n → P t → P (f j t)) → P s → P (fold_from f n i s)
unfolding fold_from
fold_keeps P f zero i s h p = p
fold_keeps P f (suc n) i s h p =
    fold_keeps P f n (suc i) (f i s) (λ j t a b. h j t (omega arith) (omega arith)) (h i s (omega arith) (omega arith) p)

-- a fact of the numbers passed and of the state, that each step hands on, holds at the end
pub fold_passes : {S : Type 0} (P : ℕ → S → Type 0) (f : ℕ → S → S) (n i : ℕ) (s : S)
    → ((j : ℕ) (t : S) → i ≤ j → j < i + n → P j t → P (suc j) (f j t)) → P i s → P (i + n) (fold_from f n i s)
unfolding fold_from
fold_passes P f zero i s h p = rw add-zero p
fold_passes P f (suc n) i s h p =
    let k : i + suc n ≡ suc i + n = omega arith in
    rw k (fold_passes P f n (suc i) (f i s) (λ j t a b. h j t (omega arith) (omega arith)) (h i s (omega arith) (omega arith) p))

-- the same where the numbers start at 0
pub fold_up : {S : Type 0} (P : ℕ → S → Type 0) (f : ℕ → S → S) (n : ℕ) (s : S)
    → ((j : ℕ) (t : S) → j < n → P j t → P (suc j) (f j t)) → P 0 s → P n (fold_from f n 0 s)
fold_up P f n s h p =
    subst (λ (m : ℕ). P m (fold_from f n 0 s)) (zero-add n) (fold_passes P f n 0 s (λ j t a b. h j t (omega arith)) p)

-- the last step
pub fold_last : {S : Type 0} (f : ℕ → S → S) (n i : ℕ) (s : S) → fold_from f (suc n) i s ≡ f (i + n) (fold_from f n i s)
unfolding fold_from
fold_last f zero i s = rw add-zero
fold_last f (suc n) i s = let k : i + suc n ≡ suc i + n = omega arith in rw k (fold_last f n (suc i) (f i s))

-- a fold over a row and then over the next
pub fold_join : {S : Type 0} (f : ℕ → S → S) (m n i : ℕ) (s : S) → fold_from f (m + n) i s ≡ fold_from f n (i + m) (fold_from f m i s)
unfolding fold_from
fold_join f zero n i s = rw (zero-add, add-zero)
fold_join f (suc m) n i s =
    let k : suc m + n ≡ suc (m + n) = omega arith in
    let l : i + suc m ≡ suc i + m = omega arith in
    rw (k, l) (fold_join f m n (suc i) (f i s))

-- ---- a list that is filled from the front: one more element
pub filled_next : {A : Type 0} (f : ℕ → A) (d : A) (xs : List A) (i : ℕ) (v : A) → i < length xs → v ≡ f i → ((j : ℕ) → j < i → get_or xs j d ≡ f j)
    → (j : ℕ) → j < i + 1 → get_or (set xs i v) j d ≡ f j
filled_next f d xs i v h e so_far j l =
    elim (dec_lt j i) [
      | yes m ↦ get_or-set_other xs i j v d (λ q. omega arith) ∙ so_far j m
      | no m ↦ let q : j ≡ i = omega arith in rw q (get_or-set_same xs i v d h ∙ e)
    ]
