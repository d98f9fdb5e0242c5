-- Laws of eight columns as one word: by few operations on the word, the number that they hold.
use Prim.Native.Nat.{ℕ, ◌+◌, ◌-◌, ◌*◌, ◌/◌, ◌%◌, ◌<◌, ◌≤◌}
use native.Mathlib.Omega.{arith}
use mathlib.Core.Path.{◌≡◌, refl, sym, ap, ◌∙◌}
use mathlib.Core.List.{List, [], ◌∷◌, ◌++◌}
use mathlib.Core.Bool.{true, false}
use lib.Bits.{bit_and, and_le_r, and_mask}
use lib.ListN.{length, get_or, replicate}
use lib.Dec.{leb}
use borrow.Author.Tests.{leb-false}
use Rattle.base.specs.Part.{part}
use Rattle.base.specs.Each.{Each, same}
use Rattle.page.specs.Frame.{space}
use Rattle.page.specs.Column.{columns, spell, digit, value_after, number_in, number_then, pair_in}
use Rattle.std.specs.Prelude.{Option, Some, None}
use Rattle.page.specs.Word.{word_bytes}
use Rattle.page.proofs.Column.{digit_lt, digit_of_digit, number_is, each_read, value_lt}
use Rattle.page.proofs.Counted.{counted, read_from_one, number_space, number_spaces}
use Rattle.page.proofs.WordLaws.{word_is, part_three}
use Rattle.page.proofs.Lanes.{lanes, mask_lanes, lanes_same, word_lanes, bytes_word}

-- two numbers in each lane are joined to one: digits to pairs of them, pairs to fours
abbrev pub pairs_of : ℕ → ℕ
pairs_of d = bit_and (bit_and d 0x00ff00ff00ff00ff * 10 + d / 0x100) 0x00ff00ff00ff00ff

abbrev pub fours_of : ℕ → ℕ
fours_of p = bit_and (bit_and p 0x0000ffff0000ffff * 100 + p / 0x10000) 0x0000ffff0000ffff

abbrev pub eight_of : ℕ → ℕ
eight_of q = bit_and q 0xffffffff * 10000 + q / 0x100000000

pub pairs_le : (d : ℕ) → pairs_of d ≤ 0x00ff00ff00ff00ff
pairs_le d = and_le_r (bit_and d 0x00ff00ff00ff00ff * 10 + d / 0x100) 0x00ff00ff00ff00ff

pub fours_le : (p : ℕ) → fours_of p ≤ 0x0000ffff0000ffff
fours_le p = and_le_r (bit_and p 0x0000ffff0000ffff * 100 + p / 0x10000) 0x0000ffff0000ffff

eight_of_lem : (a b : ℕ) → a < 10000 → b < 10000 → eight_of (a + b * 0x100000000) ≡ a * 10000 + b
eight_of_lem a b p q = rw (and_mask (a + b * 0x100000000) 32) (omega arith)

-- a word of four lanes, or of two
abbrev four : ℕ → ℕ → ℕ → ℕ → ℕ
four a b c d = a + b * 0x10000 + c * 0x100000000 + d * 0x1000000000000

mask_four : (a b c d : ℕ) → a < 0x10000 → b < 0x10000 → c < 0x10000 → d < 0x10000
    → bit_and (four a b c d) 0x00ff00ff00ff00ff ≡ four (a % 256) (b % 256) (c % 256) (d % 256)
unfolding lanes
mask_four a b c d p q r s =
    let e : four a b c d ≡ lanes 16 (λ x. x) (a ∷ b ∷ c ∷ d ∷ []) = omega arith in
    ap (λ (n : ℕ). bit_and n 0x00ff00ff00ff00ff) e
    ∙ mask_lanes 16 8 (omega arith) (a ∷ b ∷ c ∷ d ∷ []) (p, (q, (r, (s, tt))))
    ∙ omega arith

mask_two : (a b : ℕ) → a < 0x100000000 → b < 0x100000000
    → bit_and (a + b * 0x100000000) 0x0000ffff0000ffff ≡ a % 0x10000 + b % 0x10000 * 0x100000000
unfolding lanes
mask_two a b p q =
    let e : a + b * 0x100000000 ≡ lanes 32 (λ x. x) (a ∷ b ∷ []) = omega arith in
    ap (λ (n : ℕ). bit_and n 0x0000ffff0000ffff) e
    ∙ mask_lanes 32 16 (omega arith) (a ∷ b ∷ []) (p, (q, tt))
    ∙ omega arith

-- what is above the lowest byte
above : (n a k : ℕ) → a < 256 → n ≡ a + k * 256 → n / 256 ≡ k
above n a k h e = omega arith

-- the lowest byte
below : (a k : ℕ) → a < 256 → (a + k * 256) % 256 ≡ a
below a k h = omega arith

four_eq : {a b c d s t u v : ℕ} → a ≡ s → b ≡ t → c ≡ u → d ≡ v → four a b c d ≡ four s t u v
four_eq p q r s = λ i. four (p i) (q i) (r i) (s i)

-- digits to pairs
module _ (a b c d e f g h : ℕ) (p : a < 10) (q : b < 10) (r : c < 10) (s : d < 10) (t : e < 10) (u : f < 10) (v : g < 10) (w : h < 10) where
  abbrev digits : ℕ
  digits = four (a + b * 256) (c + d * 256) (e + f * 256) (g + h * 256)

  evens : bit_and digits 0x00ff00ff00ff00ff ≡ four a c e g
  evens =
      mask_four (a + b * 256) (c + d * 256) (e + f * 256) (g + h * 256) (omega arith) (omega arith) (omega arith) (omega arith)
      ∙ four_eq (below a b (omega arith)) (below c d (omega arith)) (below e f (omega arith)) (below g h (omega arith))

  shifted : digits / 0x100 ≡ four (b + c * 256) (d + e * 256) (f + g * 256) h
  shifted = above digits a (four (b + c * 256) (d + e * 256) (f + g * 256) h) (omega arith) (omega arith)

  sums : bit_and digits 0x00ff00ff00ff00ff * 10 + digits / 0x100 ≡ four (a * 10 + b + c * 256) (c * 10 + d + e * 256) (e * 10 + f + g * 256) (g * 10 + h)
  sums = rw (evens, shifted) (omega arith)

  pairs_of_lem : pairs_of digits ≡ four (a * 10 + b) (c * 10 + d) (e * 10 + f) (g * 10 + h)
  pairs_of_lem =
      ap (λ (n : ℕ). bit_and n 0x00ff00ff00ff00ff) sums
      ∙ mask_four (a * 10 + b + c * 256) (c * 10 + d + e * 256) (e * 10 + f + g * 256) (g * 10 + h) (omega arith) (omega arith) (omega arith) (omega arith)
      ∙ four_eq (below (a * 10 + b) c (omega arith)) (below (c * 10 + d) e (omega arith)) (below (e * 10 + f) g (omega arith)) (omega arith)

-- pairs to fours
module _ (a b c d : ℕ) (p : a < 100) (q : b < 100) (r : c < 100) (s : d < 100) where
  even_pairs : bit_and (four a b c d) 0x0000ffff0000ffff ≡ a + c * 0x100000000
  even_pairs =
      let e : four a b c d ≡ a + b * 0x10000 + (c + d * 0x10000) * 0x100000000 = omega arith in
      ap (λ (n : ℕ). bit_and n 0x0000ffff0000ffff) e
      ∙ mask_two (a + b * 0x10000) (c + d * 0x10000) (omega arith) (omega arith)
      ∙ omega arith

  sums_of_pairs : bit_and (four a b c d) 0x0000ffff0000ffff * 100 + four a b c d / 0x10000 ≡ a * 100 + b + c * 0x10000 + (c * 100 + d) * 0x100000000
  sums_of_pairs = rw even_pairs (omega arith)

  fours_of_lem : fours_of (four a b c d) ≡ a * 100 + b + (c * 100 + d) * 0x100000000
  fours_of_lem =
      ap (λ (n : ℕ). bit_and n 0x0000ffff0000ffff) sums_of_pairs
      ∙ mask_two (a * 100 + b + c * 0x10000) (c * 100 + d) (omega arith) (omega arith)
      ∙ omega arith

-- so eight columns give the values of each four
pub fours_value : (a b c d e f g h : ℕ)
    → fours_of (pairs_of (lanes 8 digit (a ∷ b ∷ c ∷ d ∷ e ∷ f ∷ g ∷ h ∷ [])))
    ≡ value_after 0 (a ∷ b ∷ c ∷ d ∷ []) + value_after 0 (e ∷ f ∷ g ∷ h ∷ []) * 0x100000000
unfolding lanes value_after
fours_value a b c d e f g h =
    let i = digit a in
    let j = digit b in
    let k = digit c in
    let l = digit d in
    let m = digit e in
    let n = digit f in
    let o = digit g in
    let p = digit h in
    let s : lanes 8 digit (a ∷ b ∷ c ∷ d ∷ e ∷ f ∷ g ∷ h ∷ []) ≡ four (i + j * 256) (k + l * 256) (m + n * 256) (o + p * 256) =
    omega arith in
    ap (λ (n : ℕ). fours_of (pairs_of n)) s
    ∙ ap fours_of
    (pairs_of_lem i j k l m n o p
    (digit_lt a) (digit_lt b) (digit_lt c) (digit_lt d) (digit_lt e) (digit_lt f) (digit_lt g) (digit_lt h))
    ∙ fours_of_lem (i * 10 + j) (k * 10 + l) (m * 10 + n) (o * 10 + p)
    (omega (arith, digit_lt a, digit_lt b)) (omega (arith, digit_lt c, digit_lt d))
    (omega (arith, digit_lt e, digit_lt f)) (omega (arith, digit_lt g, digit_lt h))
    ∙ omega arith

-- and both their value
eight_value : (a b c d e f g h : ℕ)
    → eight_of (fours_of (pairs_of (lanes 8 digit (a ∷ b ∷ c ∷ d ∷ e ∷ f ∷ g ∷ h ∷ [])))) ≡ value_after 0 (a ∷ b ∷ c ∷ d ∷ e ∷ f ∷ g ∷ h ∷ [])
unfolding value_after
eight_value a b c d e f g h =
    let low = value_lt (a ∷ b ∷ c ∷ d ∷ []) 0 0 (omega arith) in
    let high = value_lt (e ∷ f ∷ g ∷ h ∷ []) 0 0 (omega arith) in
    ap eight_of (fours_value a b c d e f g h)
    ∙ eight_of_lem (value_after 0 (a ∷ b ∷ c ∷ d ∷ [])) (value_after 0 (e ∷ f ∷ g ∷ h ∷ [])) low high
    ∙ omega arith

-- ---- the number in eight columns that are a word
abbrev pub digits_of : ℕ → ℕ
digits_of v = bit_and v 0x0f0f0f0f0f0f0f0f

-- a digit's value is its lower half, and a space's lower half is 0
low_half : (cs : List ℕ) (n : ℕ) → number_in cs ≡ Some n → Each (λ (c : ℕ). c % 16 ≡ digit c) cs
low_half = each_read (λ c. c % 16 ≡ digit c) refl (λ d h. rw (digit_of_digit d h) (omega arith))

pub value_is : (v : ℕ) → v < 0x10000000000000000 → number_then (number_in (word_bytes 8 v)) false (leb 1) ≡ true → eight_of (fours_of (pairs_of (digits_of v))) ≡ value_after 0 (word_bytes 8 v)
unfolding word_bytes lanes
value_is v h t =
    let cs = word_bytes 8 v in
    let e = read_from_one cs (sym (counted cs) ∙ t) in
    let s : digits_of v ≡ lanes 8 digit cs =
    ap digits_of (sym (word_lanes 8 v h))
    ∙ mask_lanes 8 4 (omega arith) cs (bytes_word 8 v)
    ∙ lanes_same 8 (λ x. x % 16) digit cs (low_half cs (value_after 0 cs) e) in
    ap (λ (n : ℕ). eight_of (fours_of (pairs_of n))) s ∙ eight_value _ _ _ _ _ _ _ _

pub value_small : (v : ℕ) → value_after 0 (word_bytes 8 v) < 100_000_000
unfolding word_bytes
value_small v = value_lt (word_bytes 8 v) 0 0 (omega arith)

-- ---- what eight columns hold that are no number from 1 on
abbrev spelt_zero : ℕ
spelt_zero = 0x3020202020202020

pub number_zero : number_in (word_bytes 8 spelt_zero) ≡ Some 0
unfolding number_in value_after spell columns same word_bytes
number_zero = refl

zero_spelt : (v : ℕ) → spell (length (word_bytes 8 v)) 0 ≡ word_bytes 8 spelt_zero
unfolding spell columns word_bytes
zero_spelt v = refl

pub number_none : (v : ℕ) → v < 0x10000000000000000 → (v ≡ spelt_zero → ⊥) → number_then (number_in (word_bytes 8 v)) false (leb 1) ≡ false → number_in (word_bytes 8 v) ≡ None
number_none v h z t = go (number_in (word_bytes 8 v)) refl t
  where
    go : (x : Option ℕ) → number_in (word_bytes 8 v) ≡ x → number_then x false (leb 1) ≡ false → x ≡ None
    go (Some n) e t =
        let none : n ≡ 0 = omega (arith, leb-false 1 n t) in
        absurd (z (word_is 8 v spelt_zero h (omega arith) (number_is (word_bytes 8 v) n e ∙ rw none (zero_spelt v))))
    go None e t = refl

-- ---- fewer columns than eight, with spaces before them
pub number_short : (n : ℕ) (xs ys : List ℕ) → 1 ≤ n → length ys ≡ n → xs ≡ replicate (8 - n) space ++ ys → number_in xs ≡ number_in ys
number_short n xs [] h l e = absurd (omega arith)
number_short n xs (y ∷ ys) h l e = rw e (number_spaces (8 - n) y ys)

-- ---- two numbers in words of four columns
-- of the first only three columns are of a list, with a space before them
pub pair_three : (xs ys : List ℕ) (at v : ℕ) → at + 3 ≤ length xs → word_bytes 4 v ≡ space ∷ get_or xs at 0 ∷ get_or xs (at + 1) 0 ∷ get_or xs (at + 2) 0 ∷ []
    → pair_in (word_bytes 4 v) ys ≡ pair_in (part xs at 3) ys
unfolding pair_in
pair_three xs ys at v h e = rw (e, part_three xs at h, number_space (get_or xs at 0) (get_or xs (at + 1) 0 ∷ get_or xs (at + 2) 0 ∷ []))

-- ---- four columns beside others that hold a number
zero_beside : number_in (word_bytes 4 0x30202020) ≡ Some 0
unfolding number_in value_after spell columns same word_bytes
zero_beside = refl

pub longest_beside : number_in (word_bytes 4 0x34323220) ≡ Some 224
unfolding number_in value_after spell columns same word_bytes
longest_beside = refl

pub pair_beside : (xs ys : List ℕ) (m : ℕ) → number_in ys ≡ Some m → pair_in xs ys ≡ number_then (number_in xs) None (λ n. Some (n, m))
unfolding pair_in
pair_beside xs ys m e = rw e

abbrev pub first_of : Option (ℕ × ℕ) → Option ℕ
first_of (Some (n, m)) = Some n
first_of None = None

first_beside : (xs ys : List ℕ) (m : ℕ) → number_in ys ≡ Some m → number_in xs ≡ first_of (pair_in xs ys)
first_beside xs ys m e = go (number_in xs) ∙ sym (ap first_of (pair_beside xs ys m e))
  where
    go : (a : Option ℕ) → a ≡ first_of (number_then a None (λ n. Some (n, m)))
    go (Some n) = refl
    go None = refl

pub read_beside : (xs : List ℕ) (w : ℕ) (r : Option (ℕ × ℕ)) → word_bytes 4 w ≡ xs → r ≡ pair_in (word_bytes 4 w) (word_bytes 4 0x30202020) → number_in xs ≡ first_of r
read_beside xs w r e p = ap number_in (sym e) ∙ first_beside (word_bytes 4 w) (word_bytes 4 0x30202020) 0 zero_beside ∙ ap first_of (sym p)
