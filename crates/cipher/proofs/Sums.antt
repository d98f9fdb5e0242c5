-- Laws of sums, of bytes and of lists of bytes.
use mathlib.Core.Path.{◌≡◌, refl, ap, ap₂, sym, ◌∙◌}
use mathlib.Core.List.{List, [], ◌∷◌, ◌++◌}
use Prim.Native.Nat.{ℕ, zero, suc, ◌+◌, ◌*◌, ◌/◌, ◌%◌, ◌≤◌, ◌<◌}
use native.Mathlib.Nat.{not-suc-le-zero, le_of_suc-le-suc, div-add-mod'}
use native.Mathlib.Omega.{arith}
use lib.Arith.{bin_ind}
use lib.Bits.{differ, xor_step, xor_shr, xor_mod, xor_self, xor_comm}
use lib.ListN.{length, get_or, take, drop, set}
use Rattle.cipher.specs.Field.{◌⊕◌}
use Rattle.cipher.specs.Words.{xor_bytes}

-- ---- numbers: a number added twice is gone
differ_twice : (x y : ℕ) → x < 2 → y < 2 → differ (x ⊕ y) y ≡ x
differ_twice zero zero h k = refl
differ_twice zero (suc zero) h k = refl
differ_twice zero (suc (suc y)) h k = absurd (omega arith)
differ_twice (suc zero) zero h k = refl
differ_twice (suc zero) (suc zero) h k = refl
differ_twice (suc zero) (suc (suc y)) h k = absurd (omega arith)
differ_twice (suc (suc x)) y h k = absurd (omega arith)

pub xor_twice : (a b : ℕ) → a ⊕ b ⊕ b ≡ a
xor_twice =
    bin_ind (λ (n : ℕ). (b : ℕ) → n ⊕ b ⊕ b ≡ n) xor_self
    (λ n ih b.
    xor_step (n ⊕ b) b
    ∙ ap₂ (λ (x y : ℕ). x * 2 + y)
    (ap (λ (x : ℕ). x ⊕ (b / 2)) (xor_shr n b 1) ∙ ih (b / 2))
    (ap (λ (x : ℕ). differ x (b % 2)) (xor_mod n b 1) ∙ differ_twice (n % 2) (b % 2) (omega arith) (omega arith))
    ∙ div-add-mod' n 2)

-- ---- numbers: the last two of a sum change places
differ_swap : (x y z : ℕ) → x < 2 → y < 2 → z < 2 → differ (x ⊕ y) z ≡ differ (x ⊕ z) y
differ_swap zero zero zero h k l = refl
differ_swap zero zero (suc zero) h k l = refl
differ_swap zero zero (suc (suc z)) h k l = absurd (omega arith)
differ_swap zero (suc zero) zero h k l = refl
differ_swap zero (suc zero) (suc zero) h k l = refl
differ_swap zero (suc zero) (suc (suc z)) h k l = absurd (omega arith)
differ_swap zero (suc (suc y)) z h k l = absurd (omega arith)
differ_swap (suc zero) zero zero h k l = refl
differ_swap (suc zero) zero (suc zero) h k l = refl
differ_swap (suc zero) zero (suc (suc z)) h k l = absurd (omega arith)
differ_swap (suc zero) (suc zero) zero h k l = refl
differ_swap (suc zero) (suc zero) (suc zero) h k l = refl
differ_swap (suc zero) (suc zero) (suc (suc z)) h k l = absurd (omega arith)
differ_swap (suc zero) (suc (suc y)) z h k l = absurd (omega arith)
differ_swap (suc (suc x)) y z h k l = absurd (omega arith)

pub xor_swap : (a b c : ℕ) → a ⊕ b ⊕ c ≡ a ⊕ c ⊕ b
xor_swap =
    bin_ind (λ (n : ℕ). (b c : ℕ) → n ⊕ b ⊕ c ≡ n ⊕ c ⊕ b) xor_comm
    (λ n ih b c.
    xor_step (n ⊕ b) c
    ∙ ap₂ (λ (x y : ℕ). x * 2 + y)
    (ap (λ (x : ℕ). x ⊕ (c / 2)) (xor_shr n b 1) ∙ ih (b / 2) (c / 2) ∙ ap (λ (x : ℕ). x ⊕ (b / 2)) (sym (xor_shr n c 1)))
    (ap (λ (x : ℕ). differ x (c % 2)) (xor_mod n b 1)
    ∙ differ_swap (n % 2) (b % 2) (c % 2) (omega arith) (omega arith) (omega arith)
    ∙ ap (λ (x : ℕ). differ x (b % 2)) (sym (xor_mod n c 1)))
    ∙ sym (xor_step (n ⊕ c) b))

-- ---- lists
pub xor_nil : (q : List ℕ) → xor_bytes q [] ≡ q
xor_nil [] = refl
xor_nil (a ∷ q) = refl

pub length_xor : (q k : List ℕ) → length (xor_bytes q k) ≡ length q
length_xor [] k = refl
length_xor (a ∷ q) [] = refl
length_xor (a ∷ q) (b ∷ k) = ap suc (length_xor q k)

-- byte i of a sum
pub xor_at : (q k : List ℕ) (i : ℕ) → i < length q → i < length k → get_or (xor_bytes q k) i 0 ≡ get_or q i 0 ⊕ get_or k i 0
xor_at [] k i h g = absurd (not-suc-le-zero h)
xor_at (a ∷ q) [] i h g = absurd (not-suc-le-zero g)
xor_at (a ∷ q) (b ∷ k) zero h g = refl
xor_at (a ∷ q) (b ∷ k) (suc i) h g = xor_at q k i (le_of_suc-le-suc h) (le_of_suc-le-suc g)

-- a list added twice is gone
pub xor_bytes_twice : (q k : List ℕ) → xor_bytes (xor_bytes q k) k ≡ q
xor_bytes_twice [] k = refl
xor_bytes_twice (a ∷ q) [] = refl
xor_bytes_twice (a ∷ q) (b ∷ k) = ap₂ (λ (x : ℕ) (l : List ℕ). x ∷ l) (xor_twice a b) (xor_bytes_twice q k)

-- the last two of a sum change places
pub xor_bytes_swap : (p q r : List ℕ) → xor_bytes (xor_bytes p q) r ≡ xor_bytes (xor_bytes p r) q
xor_bytes_swap [] q r = refl
xor_bytes_swap (a ∷ p) [] r = sym (xor_nil (xor_bytes (a ∷ p) r))
xor_bytes_swap (a ∷ p) (b ∷ q) [] = refl
xor_bytes_swap (a ∷ p) (b ∷ q) (c ∷ r) = ap₂ (λ (x : ℕ) (l : List ℕ). x ∷ l) (xor_swap a b c) (xor_bytes_swap p q r)

-- one more byte added
pub xor_more : (q k : List ℕ) (j : ℕ) → j < length q → j < length k
    → set (xor_bytes q (take j k)) j (get_or (xor_bytes q (take j k)) j 0 ⊕ get_or k j 0) ≡ xor_bytes q (take (suc j) k)
xor_more [] k j h g = absurd (not-suc-le-zero h)
xor_more (a ∷ q) [] j h g = absurd (not-suc-le-zero g)
xor_more (a ∷ q) (b ∷ k) zero h g = ap (λ (l : List ℕ). (a ⊕ b) ∷ l) (sym (xor_nil q))
xor_more (a ∷ q) (b ∷ k) (suc j) h g = ap (λ (l : List ℕ). (a ⊕ b) ∷ l) (xor_more q k j (le_of_suc-le-suc h) (le_of_suc-le-suc g))

-- no byte past the end of q counts, and none stands past that of k
pub xor_all : (q k : List ℕ) (j : ℕ) → (j < length q → length k ≤ j) → xor_bytes q (take j k) ≡ xor_bytes q k
xor_all [] k j h = refl
xor_all (a ∷ q) [] zero h = refl
xor_all (a ∷ q) [] (suc j) h = refl
xor_all (a ∷ q) (b ∷ k) zero h = absurd (not-suc-le-zero (h (omega arith)))
xor_all (a ∷ q) (b ∷ k) (suc j) h = ap (λ (l : List ℕ). (a ⊕ b) ∷ l) (xor_all q k j (λ g. le_of_suc-le-suc (h (omega arith))))

-- more bytes are added from where the first end
pub xor_append : (q k m : List ℕ) → xor_bytes q (k ++ m) ≡ take (length k) (xor_bytes q k) ++ xor_bytes (drop (length k) (xor_bytes q k)) m
xor_append q [] m = ap (λ (l : List ℕ). xor_bytes l m) (sym (xor_nil q))
xor_append [] (b ∷ k) m = refl
xor_append (a ∷ q) (b ∷ k) m = ap (λ (l : List ℕ). (a ⊕ b) ∷ l) (xor_append q k m)

-- a sum with the front of a list alone, which is as long as one of the two
pub xor_front : (n : ℕ) (q k : List ℕ) → n ≤ length q → n ≤ length k → (n < length q → n ≡ length k) → xor_bytes (take n q) k ++ drop n q ≡ xor_bytes q k
xor_front zero q [] h g f = sym (xor_nil q)
xor_front zero [] (b ∷ k) h g f = refl
xor_front zero (a ∷ q) (b ∷ k) h g f = absurd (omega (arith, f (omega arith)))
xor_front (suc n) [] k h g f = absurd (omega arith)
xor_front (suc n) (a ∷ q) [] h g f = absurd (omega arith)
xor_front (suc n) (a ∷ q) (b ∷ k) h g f = ap (λ (l : List ℕ). (a ⊕ b) ∷ l) (xor_front n q k (omega arith) (omega arith) (λ l. omega (arith, f (omega arith))))
