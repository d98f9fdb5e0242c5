-- Laws of eight columns as one word: by few operations on the word, whether they hold a number from 1 on.
use Prim.Native.Nat.{ℕ, ◌+◌, ◌*◌, ◌-◌, ◌<◌, ◌≤◌}
use native.Mathlib.Omega.{arith}
use native.Mathlib.Nat.{zero-add}
use native.Mathlib.Decide.{ℕ_discrete}
use mathlib.Core.Path.{◌≡◌, refl, sym, ap, ap₂, ◌∙◌}
use mathlib.Core.List.{List, [], ◌∷◌}
use mathlib.Core.Bool.{Bool, true, false, cond, not, ◌&&◌, beq}
use lib.Bits.{bit_and, bit_or, bit_xor, and_block, xor_block, xor_self, and_lt, or_lt, xor_lt, and_le_r}
use lib.ListN.{replicate}
use lib.Dec.{T, eqb, leb}
use lib.Ieee.Bits.{is_true}
use borrow.Author.Tests.{eqb-true, eq-eqb, ne_eqb, not-true}
use Rattle.base.specs.Each.{Bytes, every}
use Rattle.base.proofs.Choice.{and-true, and-passed, true-false, cond_same}
use Rattle.base.proofs.Eachs.{table_rule}
use Rattle.page.specs.Frame.{space}
use Rattle.page.specs.Column.{is_digit, number_in, number_then}
use Rattle.page.specs.Word.{word_bytes}
use Rattle.page.proofs.Counted.{all_digits, is_first, from_one, counted}
use Rattle.page.proofs.Lanes.{lanes, xor_lanes, and_lanes, or_lanes, sum_lanes, word_lanes, bytes_word, low_decides}

-- ---- one column
-- 10h at a space, 0 at a digit
unfoldable pub mark : ℕ → ℕ
mark x = bit_and (bit_xor x 0x30) 0x10

-- a digit's value, 0 at a space
unfoldable pub rest : ℕ → ℕ
rest x = bit_xor (bit_xor x 0x30) (mark x)

-- 0 where the rest is at most 9
unfoldable pub over : ℕ → ℕ
over x = bit_and (bit_or (rest x) (bit_and (rest x) 0x0f + 0x06)) 0xf0

-- the bit of the mark where the rest, less 1, changes it
abbrev pub change : ℕ → ℕ
change d = bit_and (bit_xor d (d - 1)) 0x10

pub are_same : (a b : Bool) → beq a b ≡ true → a ≡ b
are_same true true h = refl
are_same true false h = absurd (true-false h refl)
are_same false true h = absurd (true-false h refl)
are_same false false h = refl

-- a test of a byte, computed for all of them
pub byte_rule : (f : ℕ → Bool) → T (every (λ k x. f k) 0 (replicate 256 0)) → (k : ℕ) → k < 256 → f k ≡ true
byte_rule f t k h = is_true (f k) (table_rule (λ k x. f k) (replicate 256 0) t k h)

digit_test : ℕ → Bool
unfolding mark rest over
digit_test x = beq (eqb (over x) 0 && eqb (mark x) 0) (is_digit x)

none_test : ℕ → Bool
unfolding mark rest over
none_test x = eqb (over x) 0 && (beq (eqb (mark x) 0x10) (eqb x space) && not (is_first x))

some_test : ℕ → Bool
unfolding mark rest over
some_test x = not (eqb x space) && beq (eqb (over x) 0 && eqb (mark x) (change (rest x))) (is_first x)

rest_test : ℕ → Bool
unfolding mark rest over
rest_test x = cond (eqb (rest x) 0) (none_test x) (some_test x)

module _ (x : ℕ) (h : x < 256) where
  -- a digit has neither
  digit_rule : eqb (over x) 0 && eqb (mark x) 0 ≡ is_digit x
  unfolding digit_test
  digit_rule = are_same _ _ (byte_rule digit_test tt x h)

  rest_rule : rest_test x ≡ true
  unfolding rest_test none_test some_test
  rest_rule = byte_rule rest_test tt x h

  -- no rest: a space or 0
  pub none_rule : rest x ≡ 0 → (over x ≡ 0) × (eqb (mark x) 0x10 ≡ eqb x space) × (is_first x ≡ false)
  unfolding rest_test none_test
  none_rule z =
      let t = rw (eq-eqb (rest x) 0 z) at rest_rule in
      let u = and-true (eqb (over x) 0) _ t in
      let w = and-true (beq (eqb (mark x) 0x10) (eqb x space)) (not (is_first x)) u.1 in
      (eqb-true (over x) 0 u.0, are_same _ _ w.0, not-true (is_first x) w.1)

  -- a rest: no space, and a digit where the mark is none and the rest at most 9
  pub some_rule : (rest x ≡ 0 → ⊥) → (eqb x space ≡ false) × (eqb (over x) 0 && eqb (mark x) (change (rest x)) ≡ is_first x)
  unfolding rest_test some_test
  some_rule z =
      let t = rw (ne_eqb (rest x) 0 z) at rest_rule in
      let u = and-true (not (eqb x space)) _ t in
      (not-true (eqb x space) u.0, are_same _ _ u.1)

-- ---- columns side by side
-- what each gives is a byte
pub mark-byte : (x : ℕ) → x < 256 → mark x < 256
unfolding mark
mark-byte x h = and_lt 8 (bit_xor x 0x30) 0x10 (xor_lt 8 x 0x30 h (omega arith)) (omega arith)

pub rest-byte : (x : ℕ) → x < 256 → rest x < 256
unfolding rest
rest-byte x h = xor_lt 8 (bit_xor x 0x30) (mark x) (xor_lt 8 x 0x30 h (omega arith)) (mark-byte x h)

sum_byte : (x : ℕ) → x < 256 → bit_and (rest x) 0x0f + 0x06 < 256
sum_byte x h = omega (arith, and_le_r (rest x) 0x0f)

pub over_byte : (x : ℕ) → x < 256 → over x < 256
unfolding over
over_byte x h = omega (arith, and_le_r (bit_or (rest x) (bit_and (rest x) 0x0f + 0x06)) 0xf0)

pub and_cross : (a b c d : Bool) → (a && b) && (c && d) ≡ (b && d) && (a && c)
and_cross true b c d = and_flip b c d
  where
    and_flip : (b c d : Bool) → b && (c && d) ≡ (b && d) && c
    and_flip true true d = sym (and-passed d)
    and_flip true false true = refl
    and_flip true false false = refl
    and_flip false c d = refl
and_cross false true c true = refl
and_cross false true c false = refl
and_cross false false c d = refl

-- all are digits
pub digits_side_by_side : (xs : List ℕ) → Bytes xs → eqb (lanes 8 over xs) 0 && eqb (lanes 8 mark xs) 0 ≡ all_digits xs
unfolding lanes all_digits
digits_side_by_side [] b = refl
digits_side_by_side (x ∷ xs) b =
    rw (low_decides 256 (lanes 8 over xs) 0 (over x) 0 (over_byte x b.0) (omega arith), low_decides 256 (lanes 8 mark xs) 0 (mark x) 0 (mark-byte x b.0) (omega arith))
    (and_cross (eqb (lanes 8 over xs) 0) (eqb (over x) 0) (eqb (lanes 8 mark xs) 0) (eqb (mark x) 0)
    ∙ rw (digit_rule x b.0, digits_side_by_side xs b.1))

-- what 1 less changes, where the lowest byte is 0
change_above : (d m : ℕ) → 1 ≤ d → bit_and (bit_xor (d * 256 + 0) (d * 256 + 0 - 1)) (m * 256 + 0x10) ≡ bit_and (bit_xor d (d - 1)) m * 256 + 0x10
change_above d m h =
    let e : d * 256 + 0 - 1 ≡ (d - 1) * 256 + 255 = omega arith in
    rw (e, xor_block 8 d (d - 1) 0 255 (omega arith) (omega arith)) (and_block 8 (bit_xor d (d - 1)) m 255 0x10 (omega arith) (omega arith))

-- and where it is not
change_here : (d c m : ℕ) → 1 ≤ c → c < 256 → bit_and (bit_xor (d * 256 + c) (d * 256 + c - 1)) (m * 256 + 0x10) ≡ change c
change_here d c m g h =
    let e : d * 256 + c - 1 ≡ d * 256 + (c - 1) = omega arith in
    rw (e, xor_block 8 d d c (c - 1) h (omega arith), xor_self d)
    (and_block 8 0 m (bit_xor c (c - 1)) 0x10 (xor_lt 8 c (c - 1) h (omega arith)) (omega arith) ∙ zero-add (change c))

-- the test of a word, by its rests, marks and what is over in each, and a mark in each
abbrev pub test : ℕ → ℕ → ℕ → ℕ → Bool
test d s o m = cond (eqb d 0) false (eqb o 0 && eqb s (bit_and (bit_xor d (d - 1)) m))

pub test_some : (d s o m : ℕ) → 1 ≤ d → test d s o m ≡ (eqb o 0 && eqb s (bit_and (bit_xor d (d - 1)) m))
test_some d s o m h = rw (ne_eqb d 0 (λ e. omega arith))

test_none : (d s o m : ℕ) → d ≡ 0 → test d s o m ≡ false
test_none d s o m e = rw (eq-eqb d 0 e)

-- one column more, below the others: its rest r, mark k and what is over, v
module _ (d s o m r k v : ℕ) (fit : (r < 256) × (k < 256) × (v < 256)) (one all blank first : Bool)
    (e : test d s o m ≡ one) (a : eqb o 0 && eqb s 0 ≡ all)
    (none : r ≡ 0 → (v ≡ 0) × (eqb k 0x10 ≡ blank) × (first ≡ false))
    (some : (r ≡ 0 → ⊥) → (blank ≡ false) × (eqb v 0 && eqb k (change r) ≡ first)) where
  abbrev more : Bool
  more = test (d * 256 + r) (s * 256 + k) (o * 256 + v) (m * 256 + 0x10)

  -- no rest in any
  more_none : r ≡ 0 → d ≡ 0 → more ≡ cond blank one (first && all)
  more_none z n =
      test_none (d * 256 + r) (s * 256 + k) (o * 256 + v) (m * 256 + 0x10) (omega arith)
      ∙ sym (rw (sym e ∙ test_none d s o m n, (none z).2) (cond_same blank false))

  -- none here
  more_above : r ≡ 0 → 1 ≤ d → more ≡ cond blank one (first && all)
  more_above z n =
      let p = none z in
      test_some (d * 256 + r) (s * 256 + k) (o * 256 + v) (m * 256 + 0x10) (omega arith)
      ∙ rw (z, change_above d m n, p.0, low_decides 256 o 0 0 0 (omega arith) (omega arith), low_decides 256 s (bit_and (bit_xor d (d - 1)) m) k 0x10 fit.1 (omega arith), p.1, p.2, ← e, test_some d s o m n)
      (go blank (eqb o 0) (eqb s (bit_and (bit_xor d (d - 1)) m)))
    where
      go : (b x y : Bool) → (x && true) && (y && b) ≡ cond b (x && y) false
      go true x y = rw (and-passed x, and-passed y)
      go false true true = refl
      go false true false = refl
      go false false y = refl

  -- one here
  more_here : (r ≡ 0 → ⊥) → more ≡ cond blank one (first && all)
  more_here z =
      let p = some z in
      let q : eqb (s * 256 + k) (change r) ≡ (eqb s 0 && eqb k (change r)) =
      ap (eqb (s * 256 + k)) (sym (zero-add (change r))) ∙ low_decides 256 s 0 k (change r) fit.1 (omega (arith, and_le_r (bit_xor r (r - 1)) 0x10)) in
      test_some (d * 256 + r) (s * 256 + k) (o * 256 + v) (m * 256 + 0x10) (omega arith)
      ∙ rw (change_here d r m (omega arith) fit.0, low_decides 256 o 0 v 0 fit.2 (omega arith), q, p.0)
      (and_cross (eqb o 0) (eqb v 0) (eqb s 0) (eqb k (change r)) ∙ rw (p.1, a))

  pub more_columns : more ≡ cond blank one (first && all)
  more_columns =
      elim (ℕ_discrete r 0) [
        | yes z ↦ elim (ℕ_discrete d 0) [ yes n ↦ more_none z n | no n ↦ more_above z (omega arith) ]
        | no z ↦ more_here z
      ]

counted_side_by_side : (xs : List ℕ) → Bytes xs → test (lanes 8 rest xs) (lanes 8 mark xs) (lanes 8 over xs) (lanes 8 (λ x. 0x10) xs) ≡ from_one xs
unfolding lanes from_one
counted_side_by_side [] b = refl
counted_side_by_side (x ∷ xs) b =
    more_columns (lanes 8 rest xs) (lanes 8 mark xs) (lanes 8 over xs) (lanes 8 (λ x. 0x10) xs) (rest x) (mark x) (over x)
    (rest-byte x b.0, mark-byte x b.0, over_byte x b.0)
    (from_one xs) (all_digits xs) (eqb x space) (is_first x)
    (counted_side_by_side xs b.1) (digits_side_by_side xs b.1) (none_rule x b.0) (some_rule x b.0)

-- ---- eight columns as a word
-- the same byte in each
in_each : (c v : ℕ) → lanes 8 (λ x. c) (word_bytes 8 v) ≡ c * 0x0101010101010101
unfolding lanes word_bytes
in_each c v = omega arith

-- what the code makes of a word
abbrev pub marks_in : ℕ → ℕ
marks_in v = bit_and (bit_xor v 0x3030303030303030) 0x1010101010101010

abbrev pub rests_in : ℕ → ℕ
rests_in v = bit_xor (bit_xor v 0x3030303030303030) (marks_in v)

abbrev pub over_in : ℕ → ℕ
over_in d = bit_and (bit_or d (bit_and d 0x0f0f0f0f0f0f0f0f + 0x0606060606060606)) 0xf0f0f0f0f0f0f0f0

module _ (v : ℕ) (h : v < 0x10000000000000000) where
  abbrev bytes : List ℕ
  bytes = word_bytes 8 v

  abbrev flipped : ℕ → ℕ
  flipped x = bit_xor x 0x30

  flipped_byte : (x : ℕ) → x < 256 → flipped x < 256
  flipped_byte x l = xor_lt 8 x 0x30 l (omega arith)

  fit : Bytes bytes
  fit = bytes_word 8 v

  flipped_in : bit_xor v 0x3030303030303030 ≡ lanes 8 flipped bytes
  flipped_in =
      ap₂ bit_xor (sym (word_lanes 8 v h)) (sym (in_each 0x30 v))
      ∙ xor_lanes 8 (λ x. x) (λ x. 0x30) (λ x l. l) (λ x l. omega arith) bytes fit

  pub marks_in_lem : marks_in v ≡ lanes 8 mark bytes
  unfolding mark
  marks_in_lem =
      ap₂ bit_and flipped_in (sym (in_each 0x10 v)) ∙ and_lanes 8 flipped (λ x. 0x10) flipped_byte (λ x l. omega arith) bytes fit

  pub rests_in_lem : rests_in v ≡ lanes 8 rest bytes
  unfolding rest
  rests_in_lem = ap₂ bit_xor flipped_in marks_in_lem ∙ xor_lanes 8 flipped mark flipped_byte mark-byte bytes fit

  pub over_in_lem : over_in (rests_in v) ≡ lanes 8 over bytes
  unfolding over
  over_in_lem =
      let low = ap₂ bit_and rests_in_lem (sym (in_each 0x0f v)) ∙ and_lanes 8 rest (λ x. 0x0f) rest-byte (λ x l. omega arith) bytes fit in
      let sum = ap₂ ◌+◌ low (sym (in_each 0x06 v)) ∙ sum_lanes 8 (λ x. bit_and (rest x) 0x0f) (λ x. 0x06) (λ x l. omega (arith, and_le_r (rest x) 0x0f)) (λ x l. omega arith) bytes fit in
      let both = ap₂ bit_or rests_in_lem sum ∙ or_lanes 8 rest (λ x. bit_and (rest x) 0x0f + 0x06) rest-byte sum_byte bytes fit in
      ap₂ bit_and both (sym (in_each 0xf0 v))
      ∙ and_lanes 8 (λ x. bit_or (rest x) (bit_and (rest x) 0x0f + 0x06)) (λ x. 0xf0)
      (λ x l. or_lt 8 (rest x) (bit_and (rest x) 0x0f + 0x06) (rest-byte x l) (sum_byte x l)) (λ x l. omega arith) bytes fit

  tested : test (rests_in v) (marks_in v) (over_in (rests_in v)) 0x1010101010101010 ≡ number_then (number_in bytes) false (leb 1)
  tested = rw (over_in_lem, rests_in_lem, marks_in_lem, ← in_each 0x10 v) (counted_side_by_side bytes fit ∙ sym (counted bytes))

  pub counted_none : rests_in v ≡ 0 → false ≡ number_then (number_in bytes) false (leb 1)
  counted_none e = sym (test_none (rests_in v) (marks_in v) (over_in (rests_in v)) 0x1010101010101010 e) ∙ tested

  pub counted-some : (rests_in v ≡ 0 → ⊥) → (eqb (over_in (rests_in v)) 0 && eqb (marks_in v) (bit_and (bit_xor (rests_in v) (rests_in v - 1)) 0x1010101010101010)) ≡ number_then (number_in bytes) false (leb 1)
  counted-some e = sym (test_some (rests_in v) (marks_in v) (over_in (rests_in v)) 0x1010101010101010 (omega arith)) ∙ tested
