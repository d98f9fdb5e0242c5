-- Laws of numbers made of lanes, each of k bits, the first lane the lowest: operations that work on each lane apart.
use Prim.Native.Nat.{ℕ, zero, suc, ◌+◌, ◌*◌, ◌-◌, ◌/◌, ◌%◌, ◌^◌, ◌<◌, ◌≤◌}
use native.Mathlib.Omega.{arith}
use native.Mathlib.Nat.{pow-suc, add-mul, pow-le-pow_right}
use mathlib.Core.Path.{◌≡◌, refl, sym, ap, ap₂, ◌∙◌}
use mathlib.Core.List.{List, [], ◌∷◌}
use mathlib.Core.Bool.{◌&&◌}
use lib.Bits.{bit_and, bit_or, bit_xor, and_block, or_block, xor_block, and_mask}
use lib.Arith.{digits_div, digits_mod}
use lib.Dec.{eqb}
use lib.Pow.{pow_pos}
use borrow.Author.Tests.{eqb-true, eq-eqb}
use Rattle.base.specs.Each.{Each, Bytes}
use Rattle.base.proofs.Choice.{and-true, and_intro, both_ways}
use Rattle.page.specs.Word.{word_bytes}

-- f of each element, in lanes of k bits
unfoldable pub lanes : ℕ → (ℕ → ℕ) → List ℕ → ℕ
lanes k f [] = 0
lanes k f (x ∷ xs) = lanes k f xs * 2 ^ k + f x

-- each element fits a lane
abbrev pub Fit : ℕ → List ℕ → Type 0
Fit k xs = Each (λ (x : ℕ). x < 2 ^ k) xs

-- an operation that works on the k low bits and on the rest apart works on each lane apart
abbrev Apart : (ℕ → ℕ → ℕ) → Type 0
Apart op = (k a b r s : ℕ) → r < 2 ^ k → s < 2 ^ k → op (a * 2 ^ k + r) (b * 2 ^ k + s) ≡ op a b * 2 ^ k + op r s

abbrev pub Keeps : ℕ → (ℕ → ℕ) → Type 0
Keeps k f = (x : ℕ) → x < 2 ^ k → f x < 2 ^ k

op_lanes : (op : ℕ → ℕ → ℕ) → Apart op → op 0 0 ≡ 0 → (k : ℕ) (f g : ℕ → ℕ) → Keeps k f → Keeps k g → (xs : List ℕ) → Fit k xs → op (lanes k f xs) (lanes k g xs) ≡ lanes k (λ x. op (f x) (g x)) xs
unfolding lanes
op_lanes op block none k f g p q [] b = none
op_lanes op block none k f g p q (x ∷ xs) b =
    block k (lanes k f xs) (lanes k g xs) (f x) (g x) (p x b.0) (q x b.0)
    ∙ ap (λ (n : ℕ). n * 2 ^ k + op (f x) (g x)) (op_lanes op block none k f g p q xs b.1)

sum_block : Apart (λ a b. a + b)
sum_block k a b r s p q = rw (add-mul a b (2 ^ k)) (omega arith)

module _ (k : ℕ) (f g : ℕ → ℕ) (p : Keeps k f) (q : Keeps k g) (xs : List ℕ) (b : Fit k xs) where
  pub xor_lanes : bit_xor (lanes k f xs) (lanes k g xs) ≡ lanes k (λ x. bit_xor (f x) (g x)) xs
  xor_lanes = op_lanes bit_xor xor_block refl k f g p q xs b

  pub and_lanes : bit_and (lanes k f xs) (lanes k g xs) ≡ lanes k (λ x. bit_and (f x) (g x)) xs
  and_lanes = op_lanes bit_and and_block refl k f g p q xs b

  pub or_lanes : bit_or (lanes k f xs) (lanes k g xs) ≡ lanes k (λ x. bit_or (f x) (g x)) xs
  or_lanes = op_lanes bit_or or_block refl k f g p q xs b

  pub sum_lanes : lanes k f xs + lanes k g xs ≡ lanes k (λ x. f x + g x) xs
  sum_lanes = op_lanes (λ a b. a + b) sum_block refl k f g p q xs b

-- the lower bits of each lane
pub mask_lanes : (k j : ℕ) → j ≤ k → (xs : List ℕ) → Fit k xs → bit_and (lanes k (λ x. x) xs) (lanes k (λ x. 2 ^ j - 1) xs) ≡ lanes k (λ x. x % 2 ^ j) xs
unfolding lanes
mask_lanes k j h [] b = refl
mask_lanes k j h (x ∷ xs) b =
    and_block k (lanes k (λ x. x) xs) (lanes k (λ x. 2 ^ j - 1) xs) x (2 ^ j - 1) b.0 (omega (arith, pow_pos j, pow-le-pow_right {n = 2} (omega arith) {i = j} {j = k} h))
    ∙ ap₂ (λ (m n : ℕ). m * 2 ^ k + n) (mask_lanes k j h xs b.1) (and_mask x j)

-- functions that are the same of each element
pub lanes_same : (k : ℕ) (f g : ℕ → ℕ) (xs : List ℕ) → Each (λ (x : ℕ). f x ≡ g x) xs → lanes k f xs ≡ lanes k g xs
unfolding lanes
lanes_same k f g [] e = refl
lanes_same k f g (x ∷ xs) e = ap₂ (λ (m n : ℕ). m * 2 ^ k + n) (lanes_same k f g xs e.1) e.0

-- ---- words
pub word_lanes : (n v : ℕ) → v < 256 ^ n → lanes 8 (λ x. x) (word_bytes n v) ≡ v
unfolding lanes word_bytes
word_lanes zero v h = omega arith
word_lanes (suc n) v h =
    let e = word_lanes n (v / 256) (omega (arith, pow-suc 256 n)) in
    omega arith

pub bytes_word : (n v : ℕ) → Bytes (word_bytes n v)
unfolding word_bytes
bytes_word zero v = tt
bytes_word (suc n) v = (omega arith, bytes_word n (v / 256))

-- two numbers are the same where what is below p of them, and the rest, are
pub low_decides : (p a b r s : ℕ) → r < p → s < p → eqb (a * p + r) (b * p + s) ≡ eqb a b && eqb r s
low_decides p a b r s g h =
    both_ways _ _
    (λ t.
    let e = eqb-true (a * p + r) (b * p + s) t in
    and_intro _ _ (eq-eqb a b (sym (digits_div a g) ∙ ap (λ (n : ℕ). n / p) e ∙ digits_div b h))
    (eq-eqb r s (sym (digits_mod a g) ∙ ap (λ (n : ℕ). n % p) e ∙ digits_mod b h)))
    (λ t.
    let u = and-true (eqb a b) (eqb r s) t in
    eq-eqb (a * p + r) (b * p + s) (rw (eqb-true a b u.0, eqb-true r s u.1)))
