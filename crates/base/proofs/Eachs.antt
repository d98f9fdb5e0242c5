-- Laws of facts and tests of all elements of a list.
use Prim.Native.Nat.{ℕ, zero, suc, ◌+◌, ◌<◌}
use native.Mathlib.Nat.{add-zero, zero-add, add-suc, suc-add, le_of_suc-le-suc, not-suc-le-zero}
use mathlib.Core.Path.{◌≡◌, refl, sym, subst, ◌∙◌}
use mathlib.Core.Bool.{Bool, true, false, ◌&&◌}
use mathlib.Core.List.{List, [], ◌∷◌, ◌++◌, map}
use lib.Dec.{T, eqb}
use lib.ListN.{length, get_or, take, drop, replicate}
use borrow.Author.Tests.{eqb-true, eq-eqb}
use Rattle.base.specs.Each.{Each, same, all_are, every}
use Rattle.base.specs.Part.{part, splice}
use Rattle.base.proofs.Choice.{and-true, true-false}

-- ---- a fact of each element
module _ {A : Type 0} (P : A → Type 0) where
  pub each_append : (xs ys : List A) → Each P xs → Each P ys → Each P (xs ++ ys)
  each_append [] ys p q = q
  each_append (x ∷ xs) ys p q = (p.0, each_append xs ys p.1 q)

  pub each_take : (n : ℕ) (xs : List A) → Each P xs → Each P (take n xs)
  each_take zero xs p = tt
  each_take (suc n) [] p = tt
  each_take (suc n) (x ∷ xs) p = (p.0, each_take n xs p.1)

  pub each-drop : (n : ℕ) (xs : List A) → Each P xs → Each P (drop n xs)
  each-drop zero xs p = p
  each-drop (suc n) [] p = tt
  each-drop (suc n) (x ∷ xs) p = each-drop n xs p.1

  pub each-replicate : (n : ℕ) (x : A) → P x → Each P (replicate n x)
  each-replicate zero x p = tt
  each-replicate (suc n) x p = (p, each-replicate n x p)

  pub each_part : (xs : List A) (a n : ℕ) → Each P xs → Each P (part xs a n)
  unfolding part
  each_part xs a n p = each_take n (drop a xs) (each-drop a xs p)

  pub each-splice : (xs : List A) (a : ℕ) (ys : List A) → Each P xs → Each P ys → Each P (splice xs a ys)
  unfolding splice
  each-splice xs a ys p q =
      each_append (take a xs) _ (each_take a xs p) (each_append ys _ q (each-drop (length ys) (drop a xs) (each-drop a xs p)))

  -- at a place, also past the end where the default has it
  pub each_at : (xs : List A) (i : ℕ) (d : A) → P d → Each P xs → P (get_or xs i d)
  each_at [] i d h p = h
  each_at (x ∷ xs) zero d h p = p.0
  each_at (x ∷ xs) (suc i) d h p = each_at xs i d h p.1

pub each_map : {A B : Type 0} (P : A → Type 0) (Q : B → Type 0) (f : A → B) → ((x : A) → P x → Q (f x)) → (xs : List A) → Each P xs → Each Q (map f xs)
each_map P Q f h [] p = tt
each_map P Q f h (x ∷ xs) p = (h x p.0, each_map P Q f h xs p.1)

-- ---- two lists with the same elements
pub same_true : (xs ys : List ℕ) → same xs ys ≡ true → xs ≡ ys
unfolding same
same_true [] [] h = refl
same_true [] (y ∷ ys) h = absurd (true-false h refl)
same_true (x ∷ xs) [] h = absurd (true-false h refl)
same_true (x ∷ xs) (y ∷ ys) h =
    let b = and-true (eqb x y) (same xs ys) h in
    cc (eqb-true x y b.0, same_true xs ys b.1)

pub same_refl : (xs : List ℕ) → same xs xs ≡ true
unfolding same
same_refl [] = refl
same_refl (x ∷ xs) = rw (eq-eqb x x refl) (same_refl xs)

pub same_false : (xs ys : List ℕ) → (xs ≡ ys → ⊥) → same xs ys ≡ false
same_false xs ys h = go (same xs ys) refl
  where
    go : (b : Bool) → same xs ys ≡ b → b ≡ false
    go true e = absurd (h (same_true xs ys e))
    go false e = refl

-- ---- all elements one value
pub all_are-true : (v : ℕ) (xs : List ℕ) → all_are v xs ≡ true → xs ≡ replicate (length xs) v
unfolding all_are
all_are-true v [] h = refl
all_are-true v (x ∷ xs) h =
    let b = and-true (eqb x v) (all_are v xs) h in
    cc (eqb-true x v b.0, all_are-true v xs b.1)

pub all_are-replicate : (v n : ℕ) → all_are v (replicate n v) ≡ true
unfolding all_are
all_are-replicate v zero = refl
all_are-replicate v (suc n) = rw (eq-eqb v v refl) (all_are-replicate v n)

-- ---- the rule of a table: one test computed over all entries, lifted to each
and_left : (a b : Bool) → T (a && b) → T a
and_left true b t = tt
and_left false b t = t

and_right : (a b : Bool) → T (a && b) → T b
and_right true b t = t
and_right false b t = absurd t

from : (f : ℕ → ℕ → Bool) (xs : List ℕ) (i : ℕ) → T (every f i xs) → (k : ℕ) → k < length xs → T (f (i + k) (get_or xs k 0))
from f [] i t k h = absurd (not-suc-le-zero h)
from f (x ∷ xs) i t zero h = subst (λ (m : ℕ). T (f m x)) (sym (add-zero i)) (and_left (f i x) (every f (suc i) xs) t)
from f (x ∷ xs) i t (suc k) h =
    subst (λ (m : ℕ). T (f m (get_or xs k 0))) (suc-add i k ∙ sym (add-suc i k))
    (from f xs (suc i) (and_right (f i x) (every f (suc i) xs) t) k (le_of_suc-le-suc h))

pub table_rule : (f : ℕ → ℕ → Bool) (xs : List ℕ) → T (every f 0 xs) → (k : ℕ) → k < length xs → T (f k (get_or xs k 0))
table_rule f xs t k h = subst (λ (m : ℕ). T (f m (get_or xs k 0))) (zero-add k) (from f xs 0 t k h)
