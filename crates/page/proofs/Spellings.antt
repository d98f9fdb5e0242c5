-- The spelling of a number in three, four and eight columns, by the words that code makes of it.
use Prim.Native.Nat.{ℕ, ◌+◌, ◌*◌, ◌-◌, ◌/◌, ◌%◌, ◌<◌, ◌≤◌}
use native.Mathlib.Omega.{arith}
use mathlib.Core.Path.{◌≡◌, refl, sym, ap, ◌∙◌}
use mathlib.Core.List.{List, [], ◌∷◌, ◌++◌}
use lib.ListN.{length, take, drop, replicate, length-append, length-drop, length-replicate}
use lib.Seq.{take_all, length-take-le}
use borrow.Rule.Slice.PartMut.{put_mid}
use Rattle.base.specs.Part.{splice}
use Rattle.page.specs.Frame.{space}
use Rattle.page.specs.Column.{zero_digit, column, columns, spell}
use Rattle.page.specs.Word.{word_bytes}
use Rattle.page.proofs.Slices.{two_parts}
use Rattle.page.proofs.Column.{column-none, column-some, length-spell, spell_last, spell_spaces, spell_joined}
use Rattle.page.proofs.WordLaws.{four_bytes}

-- four columns of which each is known
four-columns : (n a b c d : ℕ) → a ≡ column (n / 10 / 10 / 10) → b ≡ column (n / 10 / 10) → c ≡ column (n / 10) → d ≡ zero_digit + n % 10 → a ∷ b ∷ c ∷ d ∷ [] ≡ spell 4 n
unfolding spell columns
four-columns n a b c d p q r s = λ i. p i ∷ q i ∷ r i ∷ s i ∷ []

-- a word of four such columns
module _ (n a b c d : ℕ) (p : a ≡ column (n / 10 / 10 / 10)) (q : b ≡ column (n / 10 / 10)) (r : c ≡ column (n / 10)) (s : d ≡ zero_digit + n % 10) where
  pub spelt_word : (w : ℕ) → w ≡ a + b * 0x100 + c * 0x10000 + d * 0x1000000 → a < 256 → b < 256 → c < 256 → d < 256 → word_bytes 4 w ≡ spell 4 n
  spelt_word w e g h k l = ap (word_bytes 4) e ∙ four_bytes a b c d g h k l ∙ four-columns n a b c d p q r s

-- the digits of a number as words, without what makes them characters
abbrev pub two : ℕ → ℕ
two n = n / 10 * 0x10000 + n % 10 * 0x1000000

abbrev pub three : ℕ → ℕ
three n = n / 100 * 0x100 + n % 100 / 10 * 0x10000 + n % 10 * 0x1000000

abbrev pub four : ℕ → ℕ
four n = n / 1000 + n % 1000 / 100 * 0x100 + n % 100 / 10 * 0x10000 + n % 10 * 0x1000000

-- there is room in a word for them as characters
pub four-room : (n : ℕ) → n < 10_000 → four n ≤ 0x9090909
four-room n h = go (n / 1000) (n % 1000 / 100) (n % 100 / 10) (n % 10) (omega arith) (omega arith) (omega arith) (omega arith)
  where
    go : (a b c d : ℕ) → a < 10 → b < 10 → c < 10 → d < 10 → a + b * 0x100 + c * 0x10000 + d * 0x1000000 ≤ 0x9090909
    go a b c d g h k l = omega arith

-- the digits of a number
module _ (n : ℕ) where
  tens : n % 100 / 10 ≡ n / 10 % 10
  tens = omega arith

  hundreds : n % 1000 / 100 ≡ n / 10 / 10 % 10
  hundreds = let e : n / 10 / 10 ≡ n / 100 = omega arith in rw e (omega arith)

  thousands : n % 10_000 / 1000 ≡ n / 10 / 10 / 10 % 10
  thousands = let e : n / 10 / 10 / 10 ≡ n / 1000 = omega arith in rw e (omega arith)

  pub all_four : n < 10_000 → n ≡ n % 10_000
  all_four h = omega arith

  -- the last four are the digits of what follows the others
  last_four : (n % 10_000 % 1000 ≡ n % 1000) × (n % 10_000 % 100 ≡ n % 100) × (n % 10_000 % 10 ≡ n % 10)
  last_four = (omega arith, omega arith, omega arith)

-- a number by how many digits it has
module _ (n : ℕ) where
  blank : (m : ℕ) → m ≡ 0 → 0x20 ≡ column m
  blank m e = sym (column-none m e)

  shown : (m k : ℕ) → k ≡ m % 10 → (m ≡ 0 → ⊥) → zero_digit + k ≡ column m
  shown m k e h = rw e (sym (column-some m h))

  abbrev m₁ : ℕ
  m₁ = n / 10

  abbrev m₂ : ℕ
  m₂ = n / 10 / 10

  abbrev m₃ : ℕ
  m₃ = n / 10 / 10 / 10

  -- how many digits are left
  few₂ : n < 1000 → n / 100 ≡ m₂ % 10
  few₂ h = omega arith

  few₃ : n < 1000 → m₃ ≡ 0
  few₃ h = omega arith

  some₁ : 10 ≤ n → m₁ ≡ 0 → ⊥
  some₁ h z = omega arith

  some₂ : 100 ≤ n → m₂ ≡ 0 → ⊥
  some₂ h z = omega arith

  some₃ : 1000 ≤ n → m₃ ≡ 0 → ⊥
  some₃ h z = omega arith

  first : (k : ℕ) → k < 10_000 → zero_digit + k / 1000 < 256
  first k h = omega arith

  later : (k : ℕ) → k < 10 → zero_digit + k < 256
  later k h = omega arith

  sums : (a b c d : ℕ)
      → a + b * 0x100 + c * 0x10000 + d * 0x1000000 + 0x30303030 ≡ (zero_digit + a) + (zero_digit + b) * 0x100 + (zero_digit + c) * 0x10000 + (zero_digit + d) * 0x1000000
  sums a b c d = omega arith

  pub one_digit : n < 10 → word_bytes 4 (0x30202020 + n * 0x1000000) ≡ spell 4 n
  one_digit h =
      spelt_word n 0x20 0x20 0x20 (zero_digit + n) (blank m₃ (omega arith)) (blank m₂ (omega arith)) (blank m₁ (omega arith)) (omega arith)
      (0x30202020 + n * 0x1000000) (omega arith) (omega arith) (omega arith) (omega arith) (omega arith)

  pub two_digits : 10 ≤ n → n < 100 → word_bytes 4 (two n + 0x30302020) ≡ spell 4 n
  two_digits g h =
      spelt_word n 0x20 0x20 (zero_digit + n / 10) (zero_digit + n % 10) (blank m₃ (omega arith)) (blank m₂ (omega arith))
      (shown m₁ (n / 10) (omega arith) (λ (z : m₁ ≡ 0). omega arith)) refl (two n + 0x30302020) (omega arith) (omega arith) (omega arith) (omega arith) (omega arith)

  pub three_digits_lem : 100 ≤ n → n < 1000 → word_bytes 4 (three n + 0x30303020) ≡ spell 4 n
  three_digits_lem g h =
      spelt_word n 0x20 (zero_digit + n / 100) (zero_digit + n % 100 / 10) (zero_digit + n % 10) (blank m₃ (few₃ h))
      (shown m₂ (n / 100) (few₂ h) (some₂ g)) (shown m₁ (n % 100 / 10) (tens n) (some₁ (omega arith))) refl
      (three n + 0x30303020) (omega arith) (omega arith) (omega arith) (omega arith) (omega arith)

  -- of four digits or more, the last four
  pub four_digits_lem : (k : ℕ) → 1000 ≤ n → k ≡ n % 10_000 → word_bytes 4 (four k + 0x30303030) ≡ spell 4 n
  four_digits_lem k g f =
      let d = last_four n in
      let a : k / 1000 ≡ m₃ % 10 = rw f (thousands n) in
      let b : k % 1000 / 100 ≡ m₂ % 10 = rw (f, d.0) (hundreds n) in
      let c : k % 100 / 10 ≡ m₁ % 10 = rw (f, d.1) (tens n) in
      let z : k % 10 ≡ n % 10 = rw (f, d.2) in
      let l : k < 10_000 = rw f (omega arith) in
      spelt_word n (zero_digit + k / 1000) (zero_digit + k % 1000 / 100) (zero_digit + k % 100 / 10) (zero_digit + k % 10)
      (shown m₃ (k / 1000) a (some₃ g)) (shown m₂ (k % 1000 / 100) b (some₂ (omega arith))) (shown m₁ (k % 100 / 10) c (some₁ (omega arith)))
      (ap (λ (i : ℕ). zero_digit + i) z) (four k + 0x30303030) (sums (k / 1000) (k % 1000 / 100) (k % 100 / 10) (k % 10)) (first k l) (later (k % 1000 / 100) (rw b (omega arith)))
      (later (k % 100 / 10) (rw c (omega arith))) (later (k % 10) (omega arith))

-- ---- three columns are the last of four
pub last_three : (n w : ℕ) → word_bytes 4 w ≡ spell 4 n → word_bytes 3 (w / 256) ≡ spell 3 n
unfolding word_bytes spell columns
last_three n w e = ap (drop 1) e

-- ---- eight columns are twice four, and twelve four and eight
module _ (n : ℕ) where
  pub high_spaces : n < 10_000 → word_bytes 4 0x20202020 ++ spell 4 n ≡ spell 8 n
  unfolding word_bytes
  high_spaces h = spell_spaces 4 4 n (omega arith) (omega arith)

  pub eight_spaces : (r b : ℕ) → word_bytes 8 r ≡ word_bytes 4 0x20202020 ++ word_bytes 4 b → word_bytes 4 b ≡ spell 4 n → n < 10_000 → word_bytes 8 r ≡ spell 8 n
  eight_spaces r b e q h = e ∙ ap (λ (l : List ℕ). word_bytes 4 0x20202020 ++ l) q ∙ high_spaces h

  pub eight_columns : (r a b : ℕ) → word_bytes 8 r ≡ word_bytes 4 a ++ word_bytes 4 b → word_bytes 4 a ≡ spell 4 (n / 10_000) → word_bytes 4 b ≡ spell 4 n → 10_000 ≤ n → word_bytes 8 r ≡ spell 8 n
  eight_columns r a b e p q h =
      e ∙ rw (p, q) (spell_joined 4 4 n (n / 10_000) (omega arith) (omega arith) refl (λ (z : n / 10_000 ≡ 0). omega arith))

  -- of nine digits or more, the last eight
  module _ (m : ℕ) (e : m ≡ n % 100_000_000) where
    upper_four : m / 10_000 ≡ n / 10_000 % 10_000
    upper_four = omega arith

    lower_four : m % 10_000 ≡ n % 10_000
    lower_four = omega arith

    enough : 100_000_000 ≤ n → (1000 ≤ n / 10_000) × (1000 ≤ n) × (10_000 ≤ n)
    enough h = (omega arith, omega arith, omega arith)

    pub eight_last : (r a b : ℕ) → word_bytes 8 r ≡ word_bytes 4 (a + 0x30303030) ++ word_bytes 4 (b + 0x30303030)
        → a ≡ four (m / 10_000) → b ≡ four (m % 10_000) → 100_000_000 ≤ n → word_bytes 8 r ≡ spell 8 n
    eight_last r a b w p q h =
        let o = enough h in
        let high = ap (λ (i : ℕ). word_bytes 4 (i + 0x30303030)) p ∙ four_digits_lem (n / 10_000) (m / 10_000) o.0 upper_four in
        let low = ap (λ (i : ℕ). word_bytes 4 (i + 0x30303030)) q ∙ four_digits_lem n (m % 10_000) o.1 lower_four in
        eight_columns r (a + 0x30303030) (b + 0x30303030) w high low o.2

  -- the last four of eight
  pub last_four_of : (r : ℕ) → word_bytes 8 r ≡ spell 8 n → word_bytes 4 (r / 0x100000000) ≡ spell 4 n
  unfolding word_bytes spell columns
  last_four_of r e = ap (word_bytes 4) (omega arith) ∙ ap (drop 4) e

  -- eight written after four spaces, and four more over these
  pub twelve_spaces : n < 100_000_000 → splice (replicate 12 space) 4 (spell 8 n) ≡ spell 12 n
  unfolding splice spell columns
  twelve_spaces h = spell_spaces 8 4 n (omega arith) (omega arith)

  pub twelve_columns : (m : ℕ) → m ≡ n / 100_000_000 → 100_000_000 ≤ n → splice (splice (replicate 12 space) 4 (spell 8 n)) 0 (spell 4 m) ≡ spell 12 n
  unfolding splice spell columns
  twelve_columns m e h = spell_joined 8 4 n m (omega arith) (omega arith) e (λ (z : m ≡ 0). omega arith)

-- ---- any other number of columns, by more of them
module _ (w n : ℕ) where
  pub last_of : (m k : ℕ) (xs : List ℕ) → xs ≡ spell m n → 1 ≤ w → w ≤ m → w ≤ k → take k (drop (m - w) xs) ≡ spell w n
  last_of m k xs e some most room =
      let f : w + (m - w) ≡ m = omega arith in
      let g : drop (m - w) xs ≡ spell w n = ap (drop (m - w)) (e ∙ ap (λ (i : ℕ). spell i n) (sym f)) ∙ spell_last w (m - w) n some in
      ap (take k) g ∙ take_all k (spell w n) (omega (arith, length-spell w n some))

  pub past_twelve : (x a b : List ℕ) → 12 < w → length x ≡ w → a ≡ replicate (length (take (w - 12) x)) space → b ≡ spell 12 n → n < 1_000_000_000_000
      → put_mid (w - 12) (length (a ++ drop (w - 12) x) - (w - 12)) (a ++ drop (w - 12) x) b ≡ spell w n
  past_twelve x a b more l e f h =
      let la : length (take (w - 12) x) ≡ w - 12 = length-take-le (w - 12) x (omega arith) in
      let ea : a ≡ replicate (w - 12) space = e ∙ ap (λ (i : ℕ). replicate i space) la in
      let lb : length a ≡ w - 12 = ap length ea ∙ length-replicate (w - 12) space in
      let k : length (a ++ drop (w - 12) x) - (w - 12) ≡ 12 = simp (length-append, length-drop) (omega (arith, lb)) in
      let j : 12 + (w - 12) ≡ w = omega arith in
      rw k
      (two_parts x a b (w - 12) 12 lb (ap length f ∙ length-spell 12 n (omega arith)) (omega arith)
      ∙ rw (ea, f) (spell_spaces 12 (w - 12) n (omega arith) (omega arith) ∙ ap (λ (i : ℕ). spell i n) j))
