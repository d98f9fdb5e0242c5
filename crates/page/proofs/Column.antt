-- Laws of decimal columns: what is written is what is read, and a number has one spelling.
use Prim.Native.Nat.{ℕ, zero, suc, ◌+◌, ◌*◌, ◌-◌, ◌/◌, ◌%◌, ◌^◌, ◌<◌, ◌≤◌}
use native.Mathlib.Omega.{arith}
use native.Mathlib.Nat.{pow-suc, zero-add, suc-add, mul_comm, div-div-eq-div-mul}
use native.Mathlib.Numerals.{sub-one}
use mathlib.Core.Path.{◌≡◌, refl, sym, ap, subst, ◌∙◌}
use mathlib.Core.List.{List, [], ◌∷◌, ◌++◌, append_assoc}
use mathlib.Core.Bool.{Bool, true, false, cond}
use lib.ListN.{length, drop, replicate}
use lib.Seq.{drop_at}
use lib.Dec.{eqb, leb, ltb}
use borrow.Author.Tests.{eqb-true, eq-eqb, ne_eqb, le-leb, leb-true, le-ltb, ltb-false}
use Rattle.base.proofs.Choice.{and-true, and_intro}
use Rattle.base.specs.Part.{part}
use Rattle.base.specs.Each.{Each, Bytes, same}
use Rattle.base.proofs.Parts.{part_length}
use Rattle.base.proofs.Eachs.{same_true, same_refl}
use Rattle.page.specs.Frame.{space}
use Rattle.page.specs.Column.{zero_digit, column, columns, spell, digit, is_digit, value_after, number_in, number_then, pair_in}
use Rattle.std.specs.Prelude.{Option, Some, None}

-- ---- columns, from the right
pub length-columns : (i m : ℕ) (t : List ℕ) → length (columns i m t) ≡ i + length t
unfolding columns
length-columns zero m t = omega arith
length-columns (suc i) m t = omega (arith, length-columns i (m / 10) (column m ∷ t))

-- columns stand before what follows them
columns-before : (i m : ℕ) (t : List ℕ) → columns i m t ≡ columns i m [] ++ t
unfolding columns
columns-before zero m t = refl
columns-before (suc i) m t =
    columns-before i (m / 10) (column m ∷ t) ∙ sym (append_assoc (columns i (m / 10) []) (column m ∷ []) t) ∙ ap (λ (l : List ℕ). l ++ t) (sym (columns-before i (m / 10) (column m ∷ [])))

-- i columns, and j more of what is left of the number
columns_more : (i j m : ℕ) (t : List ℕ) → columns (i + j) m t ≡ columns j (m / 10 ^ i) (columns i m t)
unfolding columns
columns_more zero j m t = rw (zero-add j) (ap (λ (k : ℕ). columns j k t) (omega arith))
columns_more (suc i) j m t =
    let e : m / 10 / 10 ^ i ≡ m / 10 ^ suc i = div-div-eq-div-mul m 10 (10 ^ i) ∙ ap (λ (k : ℕ). m / k) (mul_comm 10 (10 ^ i) ∙ sym (pow-suc 10 i)) in
    rw (suc-add i j) (columns_more i j (m / 10) (column m ∷ t) ∙ ap (λ (k : ℕ). columns j k (columns i (m / 10) (column m ∷ t))) e)

-- where nothing is left of the number, spaces
spaces_more : (i : ℕ) (t : List ℕ) → replicate i space ++ (space ∷ t) ≡ space ∷ (replicate i space ++ t)
spaces_more zero t = refl
spaces_more (suc i) t = ap (λ (l : List ℕ). space ∷ l) (spaces_more i t)

columns-none : (i : ℕ) (t : List ℕ) → columns i 0 t ≡ replicate i space ++ t
unfolding columns
columns-none zero t = refl
columns-none (suc i) t = columns-none i (space ∷ t) ∙ spaces_more i t

-- w columns of a number, and k more before them
module _ (w k n : ℕ) (some : 1 ≤ w) where
  spell_more : spell (w + k) n ≡ columns k (n / 10 ^ w) (spell w n)
  unfolding spell
  spell_more =
      let e : w + k - 1 ≡ (w - 1) + k = omega arith in
      let f : suc (w - 1) ≡ w = omega arith in
      let g : n / 10 / 10 ^ (w - 1) ≡ n / 10 ^ w =
      div-div-eq-div-mul n 10 (10 ^ (w - 1)) ∙ ap (λ (m : ℕ). n / m) (mul_comm 10 (10 ^ (w - 1)) ∙ sym (pow-suc 10 (w - 1)) ∙ ap (λ (m : ℕ). 10 ^ m) f) in
      rw e (columns_more (w - 1) k (n / 10) ((zero_digit + n % 10) ∷ []) ∙ ap (λ (m : ℕ). columns k m (spell w n)) g)

  -- the last ones are the number in fewer columns
  pub spell_last : drop k (spell (w + k) n) ≡ spell w n
  spell_last =
      ap (drop k) (spell_more ∙ columns-before k (n / 10 ^ w) (spell w n)) ∙ drop_at (columns k (n / 10 ^ w) []) (spell w n) k (length-columns k (n / 10 ^ w) [] ∙ omega arith)

  -- spaces where nothing is left
  pub spell_spaces : n / 10 ^ w ≡ 0 → replicate k space ++ spell w n ≡ spell (w + k) n
  spell_spaces e = sym (spell_more ∙ ap (λ (m : ℕ). columns k m (spell w n)) e ∙ columns-none k (spell w n))

-- ---- values
pub digit_lt : (b : ℕ) → digit b < 10
digit_lt b = go (ltb b zero_digit) (ltb (zero_digit + 9) b) refl
  where
    go : (s t : Bool) → ltb (zero_digit + 9) b ≡ t → cond s 0 (cond t 0 (b - zero_digit)) < 10
    go true t e = omega arith
    go false true e = omega arith
    go false false e = omega (arith, ltb-false)

-- a digit's byte has the digit's value
pub digit_of_digit : (d : ℕ) → d < 10 → digit (zero_digit + d) ≡ d
digit_of_digit d h = rw (le-ltb (zero_digit + d) zero_digit (omega arith), le-ltb (zero_digit + 9) (zero_digit + d) (omega arith)) (omega arith)

-- a digit is the byte of its value
pub digit-byte : (b : ℕ) → is_digit b ≡ true → zero_digit + digit b ≡ b
digit-byte b h =
    let t = and-true (leb zero_digit b) (leb b (zero_digit + 9)) h in
    let low : zero_digit ≤ b = leb-true zero_digit b t.0 in
    rw (le-ltb b zero_digit low, le-ltb (zero_digit + 9) b (leb-true b (zero_digit + 9) t.1)) (omega arith)

-- the bytes of the digits are digits
pub digit_is : (d : ℕ) → d < 10 → is_digit (zero_digit + d) ≡ true
digit_is d h =
    and_intro (leb zero_digit (zero_digit + d)) (leb (zero_digit + d) (zero_digit + 9)) (le-leb zero_digit (zero_digit + d) (omega arith))
    (le-leb (zero_digit + d) (zero_digit + 9) (omega arith))

-- a column where nothing is left of the number, and where something is
pub column-none : (m : ℕ) → m ≡ 0 → column m ≡ space
column-none m e = rw (eq-eqb m 0 e)

pub column-some : (m : ℕ) → (m ≡ 0 → ⊥) → column m ≡ zero_digit + m % 10
column-some m h = rw (ne_eqb m 0 h)

-- a number in two parts, of which the first is one by itself
first_part : (j m : ℕ) → (m ≡ 0 → ⊥) → columns (suc j) m [] ≡ spell (suc j) m
unfolding columns spell
first_part j m h = rw (sub-one, column-some m h)

pub spell_joined : (w k n m : ℕ) → 1 ≤ w → 1 ≤ k → m ≡ n / 10 ^ w → (m ≡ 0 → ⊥) → spell k m ++ spell w n ≡ spell (w + k) n
spell_joined w k n m some more e h =
    let f : k ≡ suc (k - 1) = omega arith in
    let first : columns k m [] ≡ spell k m = subst (λ (j : ℕ). columns j m [] ≡ spell j m) (sym f) (first_part (k - 1) m h) in
    sym
    (spell_more w k n some
    ∙ ap (λ (l : ℕ). columns k l (spell w n)) (sym e)
    ∙ columns-before k m (spell w n)
    ∙ ap (λ (l : List ℕ). l ++ spell w n) first)

pub value_column : (m : ℕ) → m / 10 * 10 + digit (column m) ≡ m
value_column m = go (eqb m 0) refl
  where
    go : (b : Bool) → eqb m 0 ≡ b → m / 10 * 10 + digit (cond b space (zero_digit + m % 10)) ≡ m
    go true e = omega (arith, eqb-true m 0 e)
    go false e = rw (digit_of_digit (m % 10) (omega arith)) (omega arith)

pub value_columns : (i m : ℕ) (t : List ℕ) → m < 10 ^ i → value_after 0 (columns i m t) ≡ value_after m t
unfolding columns value_after
value_columns zero m t h = ap (λ (k : ℕ). value_after k t) (omega arith)
value_columns (suc i) m t h =
    let k : m < 10 ^ i * 10 = rw pow-suc at h in
    value_columns i (m / 10) (column m ∷ t) (omega arith) ∙ ap (λ (k : ℕ). value_after k t) (value_column m)

-- a value after i digits is below 10 ^ i
pub value_lt : (xs : List ℕ) (n i : ℕ) → n < 10 ^ i → value_after n xs < 10 ^ (i + length xs)
unfolding value_after
value_lt [] n i h = subst (λ (k : ℕ). n < 10 ^ k) (omega arith) h
value_lt (b ∷ bs) n i h =
    subst (λ (k : ℕ). value_after (n * 10 + digit b) bs < 10 ^ k) (omega arith)
    (value_lt bs (n * 10 + digit b) (suc i) (rw pow-suc (omega (arith, digit_lt b))))

-- ---- spellings
module _ (w n : ℕ) (some : 1 ≤ w) where
  pub length-spell : length (spell w n) ≡ w
  unfolding spell
  length-spell = length-columns (w - 1) (n / 10) _ ∙ omega arith

  -- a spelling has the value that it spells
  pub value_spell : n < 10 ^ w → value_after 0 (spell w n) ≡ n
  unfolding spell value_after
  value_spell h =
      let k : n < 10 ^ (w - 1) * 10 = rw (← pow-suc) (subst (λ (k : ℕ). n < 10 ^ k) (omega arith) h) in
      value_columns (w - 1) (n / 10) _ (omega arith) ∙ rw (digit_of_digit (n % 10) (omega arith)) (omega arith)

  -- what is written is what is read
  pub number_spell : n < 10 ^ w → number_in (spell w n) ≡ Some n
  unfolding number_in
  number_spell h = rw (length-spell, value_spell h, same_refl)

-- one spelling: what is read as n is n's spelling, and no other
pub number_is : (xs : List ℕ) (n : ℕ) → number_in xs ≡ Some n → xs ≡ spell (length xs) n
unfolding number_in
number_is xs n h = go (same (spell (length xs) (value_after 0 xs)) xs) refl h
  where
    go : (b : Bool) → same (spell (length xs) (value_after 0 xs)) xs ≡ b → cond b (Some (value_after 0 xs)) None ≡ Some n → xs ≡ spell (length xs) n
    go true e k = cc (same_true (spell (length xs) (value_after 0 xs)) xs e)
    go false e k = absurd (let z : ◌≡◌ {A = ℕ} 0 1 = cc in omega arith)

-- the same of a part that is read as n
pub number_part : (xs : List ℕ) (a w n : ℕ) → a + w ≤ length xs → number_in (part xs a w) ≡ Some n → part xs a w ≡ spell w n
number_part xs a w n h e = number_is (part xs a w) n e ∙ rw (part_length xs a w h)

pub one_spelling : (xs ys : List ℕ) (n : ℕ) → length xs ≡ length ys → number_in xs ≡ Some n → number_in ys ≡ Some n → xs ≡ ys
one_spelling xs ys n l p q = number_is xs n p ∙ rw l (sym (number_is ys n q))

-- ---- two numbers side by side
-- what is made of the two, or of columns of which one holds none
abbrev pub pair_then : {A : Type 0} → Option (ℕ × ℕ) → A → (ℕ → ℕ → A) → A
pair_then (Some (a, b)) otherwise f = f a b
pair_then None otherwise f = otherwise

-- two numbers that are read one after the other are their pair
pub pair_then_lem : {A : Type 0} (xs ys : List ℕ) (z : A) (f : ℕ → ℕ → A)
    → number_then (number_in xs) z (λ a. number_then (number_in ys) z (f a)) ≡ pair_then (pair_in xs ys) z f
unfolding pair_in
pair_then_lem xs ys z f = go (number_in xs) (number_in ys)
  where
    go : (m n : Option ℕ) → number_then m z (λ a. number_then n z (f a)) ≡ pair_then (number_then m None λ a. number_then n None λ b. Some (a, b)) z f
    go (Some a) (Some b) = refl
    go (Some a) None = refl
    go None n = refl

-- ---- what a space has and every digit, each column of a spelling has
module _ (P : ℕ → Type 0) (blank : P space) (ten : (d : ℕ) → d < 10 → P (zero_digit + d)) where
  each-column : (m : ℕ) → P (column m)
  each-column m = go (eqb m 0)
    where
      go : (b : Bool) → P (cond b space (zero_digit + m % 10))
      go true = blank
      go false = ten (m % 10) (omega arith)

  each-columns : (i m : ℕ) (t : List ℕ) → Each P t → Each P (columns i m t)
  unfolding columns
  each-columns zero m t b = b
  each-columns (suc i) m t b = each-columns i (m / 10) (column m ∷ t) (each-column m, b)

  each-spell : (w n : ℕ) → Each P (spell w n)
  unfolding spell
  each-spell w n = each-columns (w - 1) (n / 10) ((zero_digit + n % 10) ∷ []) (ten (n % 10) (omega arith), tt)

  pub each_read : (xs : List ℕ) (n : ℕ) → number_in xs ≡ Some n → Each P xs
  each_read xs n e = subst (Each P) (sym (number_is xs n e)) (each-spell (length xs) n)

pub bytes-spell : (w n : ℕ) → Bytes (spell w n)
bytes-spell = each-spell (λ c. c < 256) (omega arith) (λ d h. omega arith)
