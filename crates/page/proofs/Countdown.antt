-- Counting down: how often one number goes into another, found by eights, fours, twos and ones, and kept in the same word.
use Prim.Native.Nat.{ℕ, ◌+◌, ◌*◌, ◌-◌, ◌/◌, ◌%◌, ◌<◌, ◌≤◌}
use native.Mathlib.Omega.{arith}
use native.Mathlib.Nat.{add-mul, mul-le-mul_right, lt_of_mul-lt-mul_right, div-add-mod', div-lt_iff_lt-mul}
use mathlib.Core.Path.{◌≡◌, refl, ap, ◌∙◌}
use mathlib.Core.Bool.{Bool, true, false, cond}
use lib.Bits.{bit_and, and_mask}
use lib.Dec.{ltb}
use borrow.Author.Tests.{ltb-true, ltb-false}

-- x, but where it is not below p, without p and with c
abbrev pub less : ℕ → ℕ → ℕ → ℕ
less x p c = cond (ltb x p) x (x - p + c)

-- p stands in a word q times above s, and e times c is counted
module _ (p s c : ℕ) (room : s + 15 * c < p) where
  abbrev word : ℕ → ℕ → ℕ
  word q e = q * p + s + e * c

  -- after p was counted down k times more, where that much was left
  abbrev Left : ℕ → ℕ → ℕ → Type 0
  Left n k r = (q : ℕ) × (e : ℕ) × (r ≡ word q e) × (q < k) × (e + k ≤ 16) × (q + e ≡ n)

  down : (n k q e x a b : ℕ) → x ≡ word q e → a ≡ k * p → b ≡ k * c → 1 ≤ k → q < k + k → e + (k + k) ≤ 16 → q + e ≡ n → Left n k (less x a b)
  down n k q e x a b w f g some h l m = go (ltb x a) refl
    where
      go : (t : Bool) → ltb x a ≡ t → Left n k (cond t x (x - a + b))
      go true t =
          let below : q < k = lt_of_mul-lt-mul_right p (omega (arith, ltb-true x a t)) in
          (q, e, w, below, omega arith, m)
      go false t =
          let counted : e * c ≤ 15 * c = mul-le-mul_right c (omega arith) in
          let more = add-mul q 1 p in
          let enough : k < q + 1 = lt_of_mul-lt-mul_right p (omega (arith, ltb-false x a t)) in
          let back : q ≡ (q - k) + k = omega arith in
          let taken : q * p ≡ (q - k) * p + k * p = ap (λ (m : ℕ). m * p) back ∙ add-mul (q - k) k p in
          let added = add-mul e k c in
          (q - k, e + k, omega (arith, ltb-false x a t), omega arith, omega arith, omega arith)

  -- where p is not in it any more, each time is counted
  none_left : (q e n r : ℕ) → r ≡ word q e → q < 1 → q + e ≡ n → r ≡ s + n * c
  none_left q e n r w h f =
      let none : q ≡ 0 = omega arith in
      let all : e ≡ n = omega arith in
      w ∙ rw (none, all) (omega arith)

-- by eights, fours, twos and ones: what is left stands above c for each time
pub counted_down : (x p c : ℕ) → x < 16 * p → x % p + 15 * c < p
    → less (less (less (less x (8 * p) (8 * c)) (4 * p) (4 * c)) (2 * p) (2 * c)) p c ≡ x % p + x / p * c
counted_down x p c h room =
    let s = x % p in
    let eights = less x (8 * p) (8 * c) in
    let fours = less eights (4 * p) (4 * c) in
    let twos = less fours (2 * p) (2 * c) in
    let start : x ≡ x / p * p + s + 0 * c = omega (arith, div-add-mod' x p) in
    let some : 0 < p = omega arith in
    let times : x / p < 16 = (div-lt_iff_lt-mul some).1 h in
    let n = x / p in
    let a = down p s c room n 8 n 0 x (8 * p) (8 * c) start refl refl (omega arith) times (omega arith) (omega arith) in
    let b = down p s c room n 4 a.0 a.1 eights (4 * p) (4 * c) a.2 refl refl (omega arith) a.3 a.4 a.5 in
    let d = down p s c room n 2 b.0 b.1 fours (2 * p) (2 * c) b.2 refl refl (omega arith) b.3 b.4 b.5 in
    let e = down p s c room n 1 d.0 d.1 twos p c d.2 (omega arith) (omega arith) (omega arith) d.3 d.4 d.5 in
    none_left p s c room e.0 e.1 n (less twos p c) e.2 e.3 e.5

-- ---- the two numbers of a word
module _ (a b x : ℕ) (e : x ≡ a * 0x10000 + b) (low : b < 0x10000) where
  pub upper : x / 0x10000 ≡ a
  upper = omega arith

  pub lower : bit_and x 0xffff ≡ b
  lower = and_mask x 16 ∙ omega arith
