-- Laws of four columns and four more as one word: by few operations on the word, the numbers that each four hold.
use Prim.Native.Nat.{ℕ, suc, ◌+◌, ◌*◌, ◌-◌, ◌/◌, ◌%◌, ◌^◌, ◌<◌, ◌≤◌}
use native.Mathlib.Omega.{arith}
use native.Mathlib.Nat.{pow-suc, zero-add}
use mathlib.Core.Path.{◌≡◌, refl, sym, ap, ap₂, ◌∙◌}
use mathlib.Core.List.{List, [], ◌∷◌, ◌++◌}
use mathlib.Core.Bool.{Bool, true, false, cond, ◌&&◌, beq}
use lib.Bits.{bit_and, bit_or, bit_xor, and_block, or_block, xor_block, and_lt, or_lt, xor_lt, and_le_l, and_mask, or_add_and, or_zero_r}
use lib.ListN.{length, replicate}
use lib.Dec.{eqb}
use lib.Ieee.Bits.{is_true}
use borrow.Author.Tests.{eqb-true, eq-eqb}
use Rattle.base.specs.Each.{Bytes, Each, same}
use Rattle.base.proofs.Choice.{and-true, true-false, both_ways}
use Rattle.base.proofs.Eachs.{table_rule, each_append, same_true, same_refl}
use Rattle.page.specs.Frame.{space}
use Rattle.page.specs.Column.{zero_digit, spell, digit, is_digit, value_after, number_in, number_then, pair_in}
use Rattle.std.specs.Prelude.{Option, Some, None}
use Rattle.page.specs.Word.{word_bytes}
use Rattle.page.proofs.Column.{digit_of_digit, each_read, value_lt, number_spell, number_is, pair_then, pair_then_lem}
use Rattle.page.proofs.WordLaws.{word-length}
use Rattle.page.proofs.Counted.{all_digits, is_first, spelt, read, spelt_last, spelt_more}
use Rattle.page.proofs.Lanes.{lanes, Keeps, lanes_same, bytes_word, low_decides}
use Rattle.page.proofs.CountedWords.{mark, rest, over, change, are_same, byte_rule, none_rule, some_rule, mark-byte, rest-byte, over_byte}
use Rattle.page.proofs.CountedWords.{test, test_some, and_cross, digits_side_by_side, more_columns, marks_in, rests_in, over_in, marks_in_lem, rests_in_lem, over_in_lem}
use Rattle.page.proofs.ColumnValues.{pairs_of, fours_of, fours_value}

-- ---- columns side by side, a bit set in the last one's rest
-- which makes that one at least 1
or_least : (a b : ℕ) → b ≤ bit_or a b
or_least a b = omega (arith, or_add_and a b, and_le_l a b)

-- the last one is a digit where it has neither mark nor anything over
last_test : ℕ → Bool
unfolding mark rest over
last_test x = beq (eqb (over x) 0 && eqb (mark x) (change (bit_or (rest x) 1))) (is_digit x)

last_rule : (x : ℕ) → x < 256 → eqb (over x) 0 && eqb (mark x) (change (bit_or (rest x) 1)) ≡ is_digit x
unfolding last_test
last_rule x h = are_same _ _ (byte_rule last_test tt x h)

-- the rests of columns, marked so
abbrev marked : ℕ → List ℕ → ℕ
marked x xs = bit_or (lanes 8 rest (x ∷ xs)) (256 ^ length xs)

marked_more : (x y : ℕ) (ys : List ℕ) → x < 256 → marked x (y ∷ ys) ≡ marked y ys * 256 + rest x
unfolding lanes
marked_more x y ys h =
    let e : 256 ^ suc (length ys) ≡ 256 ^ length ys * 256 + 0 = omega (arith, pow-suc 256 (length ys)) in
    rw e (or_block 8 (lanes 8 rest (y ∷ ys)) (256 ^ length ys) (rest x) 0 (rest-byte x h) (omega arith))
    ∙ ap (λ (n : ℕ). marked y ys * 256 + n) (or_zero_r (rest x))

spelt_side_by_side : (x : ℕ) (xs : List ℕ) → Bytes (x ∷ xs)
    → test (marked x xs) (lanes 8 mark (x ∷ xs)) (lanes 8 over (x ∷ xs)) (lanes 8 (λ x. 0x10) (x ∷ xs)) ≡ spelt (x ∷ xs)
unfolding lanes
spelt_side_by_side x [] b =
    rw (zero-add (rest x), zero-add (mark x), zero-add (over x))
    (test_some (bit_or (rest x) 1) (mark x) (over x) 0x10 (or_least (rest x) 1) ∙ last_rule x b.0 ∙ sym (spelt_last x))
spelt_side_by_side x (y ∷ ys) b =
    rw (marked_more x y ys b.0)
    (more_columns (marked y ys) (lanes 8 mark (y ∷ ys)) (lanes 8 over (y ∷ ys)) (lanes 8 (λ x. 0x10) (y ∷ ys)) (rest x) (mark x) (over x)
    (rest-byte x b.0, mark-byte x b.0, over_byte x b.0)
    (spelt (y ∷ ys)) (all_digits (y ∷ ys)) (eqb x space) (is_first x)
    (spelt_side_by_side y ys b.1) (digits_side_by_side (y ∷ ys) b.1) (none_rule x b.0) (some_rule x b.0)
    ∙ sym (spelt_more x y ys))

-- a digit's rest is its value, and a space's rest is 0
ten_test : ℕ → Bool
unfolding mark rest
ten_test d = eqb (rest (zero_digit + d)) d

rests_spelt : (cs : List ℕ) → spelt cs ≡ true → Each (λ (c : ℕ). rest c ≡ digit c) cs
unfolding mark rest ten_test
rests_spelt cs t =
    each_read (λ c. rest c ≡ digit c) refl
    (λ d h. eqb-true _ d (is_true (ten_test d) (table_rule (λ k x. ten_test k) (replicate 10 0) tt d h)) ∙ sym (digit_of_digit d h))
    cs (value_after 0 cs) (read cs ∙ rw t)

-- two numbers side by side are read where both are
read-pair : (xs ys : List ℕ) → pair_in xs ys ≡ cond (spelt xs && spelt ys) (Some (value_after 0 xs, value_after 0 ys)) None
unfolding pair_in
read-pair xs ys = rw (read xs, read ys) (go (spelt xs) (spelt ys) (value_after 0 xs) (value_after 0 ys))
  where
    go : (s t : Bool) (m n : ℕ)
        → number_then {A = Option (ℕ × ℕ)} (cond s (Some m) None) None (λ a. number_then (cond t (Some n) None) None λ b. Some (a, b))
        ≡ cond (s && t) (Some (m, n)) None
    go true true m n = refl
    go true false m n = refl
    go false t m n = refl

four_lt : (w : ℕ) → value_after 0 (word_bytes 4 w) < 10000
unfolding word_bytes
four_lt w = value_lt (word_bytes 4 w) 0 0 (omega arith)

-- ---- two lanes of 32 bits
-- what both have, each less 1, and what that changes; each lane is at least 1, so that neither takes from the other
change_each : (d e m : ℕ) → 1 ≤ d → 1 ≤ e → e < 0x100000000 → m < 0x100000000
    → bit_and (bit_xor (d * 0x100000000 + e) (d * 0x100000000 + e - 0x100000001)) (m * 0x100000000 + m)
    ≡ bit_and (bit_xor d (d - 1)) m * 0x100000000 + bit_and (bit_xor e (e - 1)) m
change_each d e m p q r l =
    let f : d * 0x100000000 + e - 0x100000001 ≡ (d - 1) * 0x100000000 + (e - 1) = omega arith in
    rw (f, xor_block 32 d (d - 1) e (e - 1) r (omega arith))
    (and_block 32 (bit_xor d (d - 1)) m (bit_xor e (e - 1)) m (xor_lt 32 e (e - 1) r (omega arith)) l)

-- the tests of both lanes, made at once: rests d and e, marks s and t, what is over o and p, the higher lane first
test_each : (d e s t o p m : ℕ) → 1 ≤ d → 1 ≤ e → e < 0x100000000 → t < 0x100000000 → p < 0x100000000 → m < 0x100000000
    → eqb (o * 0x100000000 + p) 0
    && eqb (s * 0x100000000 + t) (bit_and (bit_xor (d * 0x100000000 + e) (d * 0x100000000 + e - 0x100000001)) (m * 0x100000000 + m))
    ≡ test e t p m && test d s o m
test_each d e s t o p m g h i j k l =
    let x = bit_and (bit_xor d (d - 1)) m in
    let y = bit_and (bit_xor e (e - 1)) m in
    let y-lt = and_lt 32 (bit_xor e (e - 1)) m (xor_lt 32 e (e - 1) i (omega arith)) l in
    rw (
      change_each d e m g h i l,
      low_decides 0x100000000 o 0 p 0 k (omega arith),
      low_decides 0x100000000 s x t y j y-lt,
      test_some e t p m h,
      test_some d s o m g,
    )
    (and_cross (eqb o 0) (eqb p 0) (eqb s x) (eqb t y))

-- ---- eight columns as a word
-- what the code makes of a word
abbrev marked_in : ℕ → ℕ
marked_in v = bit_or (rests_in v) 0x0100000001000000

abbrev right_in : ℕ → Bool
right_in v =
    eqb (over_in (rests_in v)) 0 && eqb (marks_in v) (bit_and (bit_xor (marked_in v) (marked_in v - 0x100000001)) 0x1010101010101010)

-- four columns of a word as a lane
abbrev lane : (ℕ → ℕ) → ℕ → ℕ
lane f w = lanes 8 f (word_bytes 4 w)

lane_lt : (f : ℕ → ℕ) (w : ℕ) → Keeps 8 f → lane f w < 0x100000000
unfolding lanes word_bytes
lane_lt f w k =
    let b = k (w % 256) (omega arith) in
    let c = k (w / 256 % 256) (omega arith) in
    let d = k (w / 256 / 256 % 256) (omega arith) in
    let e = k (w / 256 / 256 / 256 % 256) (omega arith) in
    omega arith

lane_join : (f : ℕ → ℕ) (low high : ℕ) → lanes 8 f (word_bytes 4 low ++ word_bytes 4 high) ≡ lane f high * 0x100000000 + lane f low
unfolding lanes word_bytes
lane_join f low high = omega arith

-- the rests in it, the last one's marked
abbrev lane_marked : ℕ → ℕ
lane_marked w = bit_or (lane rest w) 0x01000000

lane_least : (w : ℕ) → 0x01000000 ≤ lane_marked w
lane_least w = or_least (lane rest w) 0x01000000

lane_spelt : (w : ℕ) → test (lane_marked w) (lane mark w) (lane over w) 0x10101010 ≡ spelt (word_bytes 4 w)
unfolding word_bytes lanes
lane_spelt w = spelt_side_by_side (w % 256) (word_bytes 3 (w / 256)) (bytes_word 4 w)

pub rests_lt : (v : ℕ) → v < 0x10000000000000000 → rests_in v < 0x10000000000000000
rests_lt v h =
    let f = xor_lt 64 v 0x3030303030303030 h (omega arith) in
    xor_lt 64 (bit_xor v 0x3030303030303030) (marks_in v) f (and_lt 64 (bit_xor v 0x3030303030303030) 0x1010101010101010 f (omega arith))

-- a word v of four columns, low, and four more, high
module _ (v low high : ℕ) (h : v < 0x10000000000000000) (e : word_bytes 8 v ≡ word_bytes 4 low ++ word_bytes 4 high) where
  joined : (f : ℕ → ℕ) → lanes 8 f (word_bytes 8 v) ≡ lane f high * 0x100000000 + lane f low
  joined f = ap (lanes 8 f) e ∙ lane_join f low high

  marked_in_lem : marked_in v ≡ lane_marked high * 0x100000000 + lane_marked low
  marked_in_lem =
      ap (λ (n : ℕ). bit_or n 0x0100000001000000) (rests_in_lem v h ∙ joined rest)
      ∙ or_block 32 (lane rest high) 0x01000000 (lane rest low) 0x01000000 (lane_lt rest low rest-byte) (omega arith)

  -- each lane is at least 1
  pub marked_least : 0x100000001 ≤ marked_in v
  marked_least = rw marked_in_lem (omega (arith, lane_least high, lane_least low))

  -- the test of the word tells whether each four columns hold a number
  right_in_lem : right_in v ≡ spelt (word_bytes 4 low) && spelt (word_bytes 4 high)
  right_in_lem =
      rw (marked_in_lem, over_in_lem v h, marks_in_lem v h, joined over, joined mark)
      (test_each (lane_marked high) (lane_marked low) (lane mark high) (lane mark low) (lane over high) (lane over low) 0x10101010
      (omega (arith, lane_least high)) (omega (arith, lane_least low))
      (or_lt 32 (lane rest low) 0x01000000 (lane_lt rest low rest-byte) (omega arith))
      (lane_lt mark low mark-byte) (lane_lt over low over_byte) (omega arith)
      ∙ ap₂ ◌&&◌ (lane_spelt low) (lane_spelt high))

  -- and then its rests are the digits' values
  pair_values : right_in v ≡ true
      → fours_of (pairs_of (rests_in v)) ≡ value_after 0 (word_bytes 4 low) + value_after 0 (word_bytes 4 high) * 0x100000000
  unfolding word_bytes
  pair_values t =
      let xs = word_bytes 4 low in
      let ys = word_bytes 4 high in
      let u = and-true (spelt xs) (spelt ys) (sym right_in_lem ∙ t) in
      let each = each_append (λ c. rest c ≡ digit c) xs ys (rests_spelt xs u.0) (rests_spelt ys u.1) in
      let s : rests_in v ≡ lanes 8 digit (xs ++ ys) =
      rests_in_lem v h ∙ ap (lanes 8 rest) e ∙ lanes_same 8 rest digit (xs ++ ys) each in
      ap (λ (n : ℕ). fours_of (pairs_of n)) s ∙ fours_value _ _ _ _ _ _ _ _

  pub no_pair : right_in v ≡ false → None ≡ pair_in (word_bytes 4 low) (word_bytes 4 high)
  no_pair t = sym (read-pair (word_bytes 4 low) (word_bytes 4 high) ∙ rw (sym right_in_lem ∙ t))

  pub pair_is : right_in v ≡ true
      → Some (bit_and (fours_of (pairs_of (rests_in v))) 0xffffffff, fours_of (pairs_of (rests_in v)) / 0x100000000)
      ≡ pair_in (word_bytes 4 low) (word_bytes 4 high)
  pair_is t =
      let n = fours_of (pairs_of (rests_in v)) in
      let a : bit_and n 0xffffffff ≡ value_after 0 (word_bytes 4 low) = and_mask n 32 ∙ omega (arith, pair_values t, four_lt low) in
      let b : n / 0x100000000 ≡ value_after 0 (word_bytes 4 high) = omega (arith, pair_values t, four_lt low) in
      ap₂ (λ x y. Some (x, y)) a b ∙ sym (read-pair (word_bytes 4 low) (word_bytes 4 high) ∙ rw (sym right_in_lem ∙ t))

-- ---- columns that hold a given number
module _ (w n : ℕ) (xs : List ℕ) (some : 1 ≤ w) (l : length xs ≡ w) (h : n < 10 ^ w) where
  held_spelt : (m : Option ℕ) → number_in xs ≡ m → number_then m false (λ k. eqb k n) ≡ true → same xs (spell w n) ≡ true
  held_spelt (Some k) e t = rw (number_is xs k e, l, eqb-true k n t) (same_refl (spell w n))
  held_spelt None e t = absurd (true-false t refl)

  spelt_held : same xs (spell w n) ≡ true → number_then (number_in xs) false (λ k. eqb k n) ≡ true
  spelt_held t = rw (same_true xs (spell w n) t, number_spell w n some h) (eq-eqb n n refl)

  -- are those in which it is spelt
  number_decides : number_then (number_in xs) false (λ k. eqb k n) ≡ same xs (spell w n)
  number_decides = both_ways _ _ (held_spelt (number_in xs) refl) spelt_held

-- two numbers that are read one after the other, each compared with one
each_number : (p q : Option ℕ) (a b : ℕ)
    → number_then p false (λ m. number_then q false (λ n. eqb m a && eqb n b))
    ≡ number_then p false (λ m. eqb m a) && number_then q false (λ n. eqb n b)
each_number (Some m) (Some n) a b = refl
each_number (Some m) None a b = failed (eqb m a)
  where
    failed : (t : Bool) → false ≡ t && false
    failed true = refl
    failed false = refl
each_number None q a b = refl

-- the pair that is read is of these numbers where each four columns are the spelling of one
pub pair-holds : (low high a b : ℕ) (r : Option (ℕ × ℕ)) → r ≡ pair_in (word_bytes 4 low) (word_bytes 4 high) → a < 10_000 → b < 10_000
    → pair_then r false (λ m n. eqb m a && eqb n b) ≡ same (word_bytes 4 low) (spell 4 a) && same (word_bytes 4 high) (spell 4 b)
pair-holds low high a b r e g h =
    let xs = word_bytes 4 low in
    let ys = word_bytes 4 high in
    ap (λ (p : Option (ℕ × ℕ)). pair_then p false (λ m n. eqb m a && eqb n b)) e
    ∙ sym (pair_then_lem xs ys false (λ m n. eqb m a && eqb n b))
    ∙ each_number (number_in xs) (number_in ys) a b
    ∙ ap₂ ◌&&◌ (number_decides 4 a xs (omega arith) (word-length 4 low) g) (number_decides 4 b ys (omega arith) (word-length 4 high) h)
