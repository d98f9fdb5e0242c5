-- Laws of words: the bytes of a 32-bit number, its sums, and the words of a list of bytes.
use mathlib.Core.Path.{◌≡◌, refl, ap, sym, ◌∙◌}
use mathlib.Core.List.{List, [], ◌∷◌, ◌++◌}
use Prim.Native.Nat.{ℕ, zero, suc, ◌+◌, ◌*◌, ◌/◌, ◌%◌, ◌^◌, ◌<◌, ◌≤◌}
use native.Mathlib.Omega.{arith}
use lib.Bits.{xor_shr, xor_mod}
use lib.ListN.{length, get_or, drop, drop_of_length-le, get_or-append}
use lib.Seq.{drop-cons, get_or-append-add}
use Rattle.base.specs.Part.{part}
use Rattle.base.proofs.Parts.{part_length, part_at}
use Rattle.cipher.specs.Field.{◌⊕◌}
use Rattle.cipher.specs.Words.{four, word, xor_bytes, byte, little_endian}

pub four_eq : {a b c d a' b' c' d' : ℕ} → a ≡ a' → b ≡ b' → c ≡ c' → d ≡ d' → four a b c d ≡ four a' b' c' d'
four_eq p q r s = λ i. four (p i) (q i) (r i) (s i)

-- ---- a sum
xor_at : (k x y : ℕ) → (x ⊕ y) / 2 ^ k % 256 ≡ (x / 2 ^ k % 256) ⊕ (y / 2 ^ k % 256)
xor_at k x y = ap (λ (z : ℕ). z % 256) (xor_shr x y k) ∙ xor_mod (x / 2 ^ k) (y / 2 ^ k) 8

pub word_xor : (x y : ℕ) → little_endian (x ⊕ y) ≡ xor_bytes (little_endian x) (little_endian y)
word_xor x y = four_eq (xor_mod x y 8) (xor_at 8 x y) (xor_at 16 x y) (xor_at 24 x y)

-- ---- byte r of a number, by a shift
pub byte-shifted : (r x : ℕ) → r < 4 → x / 2 ^ (8 * r) % 0x100 ≡ byte r x
byte-shifted zero x h = let e : x / 1 % 0x100 ≡ x % 0x100 = omega arith in e
byte-shifted (suc zero) x h = refl
byte-shifted (suc (suc zero)) x h = refl
byte-shifted (suc (suc (suc zero))) x h = refl
byte-shifted (suc (suc (suc (suc r)))) x h = absurd (omega arith)

-- ---- words that are joined
pub words_eq : {a b c d a' b' c' d' : List ℕ} → a ≡ a' → b ≡ b' → c ≡ c' → d ≡ d' → a ++ b ++ c ++ d ≡ a' ++ b' ++ c' ++ d'
words_eq p q r s = λ i. p i ++ q i ++ r i ++ s i

-- n elements from i on
from : ℕ → ℕ → List ℕ → List ℕ
from zero i l = []
from (suc n) i l = get_or l i 0 ∷ from n (suc i) l

from_drop : (n i : ℕ) (l : List ℕ) → i + n ≡ length l → from n i l ≡ drop i l
unfolding from
from_drop zero i l e = sym (drop_of_length-le l {i = i} (omega arith))
from_drop (suc n) i l e = ap (λ (x : List ℕ). get_or l i 0 ∷ x) (from_drop n (suc i) l (omega arith)) ∙ sym (drop-cons l i 0 (omega arith))

-- a list of four bytes is its word, and one of 16 its four words
pub word_all : (l : List ℕ) → length l ≡ 4 → word l 0 ≡ l
unfolding from
word_all l e = from_drop 4 0 l (sym e)

pub words_all : (l : List ℕ) → length l ≡ 16 → word l 0 ++ word l 1 ++ word l 2 ++ word l 3 ≡ l
unfolding from
words_all l e = from_drop 16 0 l (sym e)

-- four bytes from a on, one by one
pub four-part : (l : List ℕ) (a : ℕ) → a + 4 ≤ length l
    → four (get_or l a 0) (get_or l (a + 1) 0) (get_or l (a + 2) 0) (get_or l (a + 3) 0) ≡ part l a 4
four-part l a h =
    let e : a ≡ a + 0 = omega arith in
    four_eq
    (ap (λ (n : ℕ). get_or l n 0) e ∙ sym (part_at l a 4 0 0 (omega arith)))
    (sym (part_at l a 4 1 0 (omega arith)))
    (sym (part_at l a 4 2 0 (omega arith)))
    (sym (part_at l a 4 3 0 (omega arith)))
    ∙ word_all (part l a 4) (part_length l a 4 h)

-- word i of two lists, in the first of them
pub word-left : (p q : List ℕ) (i : ℕ) → 4 * i + 4 ≤ length p → word (p ++ q) i ≡ word p i
word-left p q i h =
    four_eq (get_or-append p q 0 (4 * i) (omega arith)) (get_or-append p q 0 (4 * i + 1) (omega arith))
    (get_or-append p q 0 (4 * i + 2) (omega arith)) (get_or-append p q 0 (4 * i + 3) (omega arith))

-- and in the second, where the first has i words
module _ (p q : List ℕ) (i j : ℕ) (e : length p ≡ 4 * i) where
  byte-right : (k n : ℕ) → n ≡ 4 * (i + j) + k → get_or (p ++ q) n 0 ≡ get_or q (4 * j + k) 0
  byte-right k n f =
      let g : n ≡ length p + (4 * j + k) = omega arith in
      ap (λ (m : ℕ). get_or (p ++ q) m 0) g ∙ get_or-append-add p q (4 * j + k) 0

  pub word-right : word (p ++ q) (i + j) ≡ word q j
  word-right =
      let f : 4 * j + 0 ≡ 4 * j = omega arith in
      four_eq (byte-right 0 (4 * (i + j)) (omega arith) ∙ ap (λ (m : ℕ). get_or q m 0) f) (byte-right 1 _ refl) (byte-right 2 _ refl) (byte-right 3 _ refl)
