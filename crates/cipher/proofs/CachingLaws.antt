-- Laws of counter-mode caching: what is cached is the same for all counters of one n / 256.
use mathlib.Core.Path.{◌≡◌, ap, ap₂, ◌∙◌, sym}
use mathlib.Core.List.{List, [], ◌∷◌, ◌++◌}
use Prim.Native.Nat.{ℕ, zero, suc, ◌/◌, ◌%◌, ◌^◌}
use native.Mathlib.Nat.{div-div-eq-div-mul, pow-succ'}
use native.Mathlib.Omega.{arith}
use lib.Bits.{xor_comm}
use lib.ListN.{get_or}
use Rattle.cipher.specs.Field.{◌⊕◌, ◌•◌}
use Rattle.cipher.specs.SBox.{s_box}
use Rattle.cipher.specs.Words.{word, xor_bytes, byte3, little_endian, big_endian}
use Rattle.cipher.specs.Cipher.{sub_bytes, shift_rows, mix_bytes, mix_columns, add_round_key, rounds}
use Rattle.cipher.specs.CounterMode.{counter_block}
use Rattle.cipher.specs.Table.{row0, row1, row2, row3}
use Rattle.cipher.specs.State.{state}
use Rattle.cipher.specs.declared.caching.Cache.{Cache}
use Rattle.cipher.specs.declared.columns.Columns.{Columns}
use Rattle.cipher.specs.Caching.{last_share, column_share, cached_column, cached_state, Serves}
use Rattle.cipher.proofs.Sums.{xor_bytes_swap, xor_bytes_twice}
use Rattle.cipher.proofs.WordLaws.{four_eq, words_eq}

-- ---- a sum that has x twice, with one, two and three others between
out1 : (p x q : List ℕ) → xor_bytes (xor_bytes (xor_bytes p x) q) x ≡ xor_bytes p q
out1 p x q = xor_bytes_swap (xor_bytes p x) q x ∙ ap (λ (l : List ℕ). xor_bytes l q) (xor_bytes_twice p x)

out2 : (p x q r : List ℕ) → xor_bytes (xor_bytes (xor_bytes (xor_bytes p x) q) r) x ≡ xor_bytes (xor_bytes p q) r
out2 p x q r = xor_bytes_swap (xor_bytes (xor_bytes p x) q) r x ∙ ap (λ (l : List ℕ). xor_bytes l r) (out1 p x q)

out3 : (p x q r s : List ℕ) → xor_bytes (xor_bytes (xor_bytes (xor_bytes (xor_bytes p x) q) r) s) x ≡ xor_bytes (xor_bytes (xor_bytes p q) r) s
out3 p x q r s = xor_bytes_swap (xor_bytes (xor_bytes (xor_bytes p x) q) r) s x ∙ ap (λ (l : List ℕ). xor_bytes l s) (out2 p x q r)

-- ---- a mixed column plus a key k, without the share of one row, does not depend on the byte of that row
module _ (k : List ℕ) where
  first_last : (a b c d : ℕ) → xor_bytes (xor_bytes (mix_bytes a b c d) k) (row0 a) ≡ xor_bytes (xor_bytes (xor_bytes (row1 b) (row2 c)) (row3 d)) k
  unfolding mix_bytes
  first_last a b c d =
      ap (λ (l : List ℕ). xor_bytes (xor_bytes (xor_bytes (xor_bytes l (row2 c)) (row3 d)) k) (row0 a))
      (four_eq (xor_comm (2 • a) (3 • b)) (xor_comm a (2 • b)) (xor_comm a b) (xor_comm (3 • a) b))
      ∙ out3 (row1 b) (row0 a) (row2 c) (row3 d) k

  same0 : (b c d a e : ℕ) → xor_bytes (xor_bytes (mix_bytes a b c d) k) (row0 a) ≡ xor_bytes (xor_bytes (mix_bytes e b c d) k) (row0 e)
  same0 b c d a e = first_last a b c d ∙ sym (first_last e b c d)

  same1 : (a c d b e : ℕ) → xor_bytes (xor_bytes (mix_bytes a b c d) k) (row1 b) ≡ xor_bytes (xor_bytes (mix_bytes a e c d) k) (row1 e)
  unfolding mix_bytes
  same1 a c d b e = out3 (row0 a) (row1 b) (row2 c) (row3 d) k ∙ sym (out3 (row0 a) (row1 e) (row2 c) (row3 d) k)

  same2 : (a b d c e : ℕ) → xor_bytes (xor_bytes (mix_bytes a b c d) k) (row2 c) ≡ xor_bytes (xor_bytes (mix_bytes a b e d) k) (row2 e)
  unfolding mix_bytes
  same2 a b d c e =
      let p = xor_bytes (row0 a) (row1 b) in
      out2 p (row2 c) (row3 d) k ∙ sym (out2 p (row2 e) (row3 d) k)

  same3 : (a b c d e : ℕ) → xor_bytes (xor_bytes (mix_bytes a b c d) k) (row3 d) ≡ xor_bytes (xor_bytes (mix_bytes a b c e) k) (row3 e)
  unfolding mix_bytes
  same3 a b c d e =
      let p = xor_bytes (xor_bytes (row0 a) (row1 b)) (row2 c) in
      out1 p (row3 d) k ∙ sym (out1 p (row3 e) k)

-- ---- byte 15 and column 0 of a state that the code has
module _ (s : Columns) {t : List ℕ} (e : state s ≡ t) where
  pub last_share_lem : row3 (s_box (byte3 s.c3)) ≡ last_share t
  unfolding state
  last_share_lem = ap last_share e

  pub column_0 : little_endian s.c0 ≡ word t 0
  unfolding state
  column_0 = ap (λ (l : List ℕ). word l 0) e

-- ---- the two rounds of a block
-- what is cached of a block
abbrev column_of : List ℕ → List ℕ → List ℕ
column_of w b = xor_bytes (word (rounds w 1 (add_round_key w 0 b)) 0) (last_share (add_round_key w 0 b))

abbrev rest_of : List ℕ → List ℕ → List ℕ
rest_of w b = xor_bytes (rounds w 2 (add_round_key w 0 b)) (column_share (word (rounds w 1 (add_round_key w 0 b)) 0))

-- a counter block of the last byte x and the bytes h before it
abbrev block : ℕ → ℕ → List ℕ
block h x = big_endian 15 h ++ (x ∷ [])

module _ (w : List ℕ) (h x y : ℕ) where
  column-same : column_of w (block h x) ≡ column_of w (block h y)
  unfolding big_endian rounds mix_columns shift_rows sub_bytes mix_bytes
  column-same =
      let s : ℕ → ℕ = λ i. s_box (get_or (add_round_key w 0 (block h x)) i 0) in
      same3 (word w 4) (s 0) (s 5) (s 10) (s 15) (s_box (y ⊕ get_or w 15 0))

  rest-same : rest_of w (block h x) ≡ rest_of w (block h y)
  unfolding big_endian rounds mix_columns shift_rows sub_bytes mix_bytes
  rest-same =
      let s : ℕ → ℕ = λ i. s_box (get_or (rounds w 1 (add_round_key w 0 (block h x))) i 0) in
      let t : ℕ → ℕ = λ i. s_box (get_or (rounds w 1 (add_round_key w 0 (block h y))) i 0) in
      words_eq (same0 (word w 8) (s 5) (s 10) (s 15) (s 0) (t 0)) (same3 (word w 9) (s 4) (s 9) (s 14) (s 3) (t 3))
      (same2 (word w 10) (s 8) (s 13) (s 7) (s 2) (t 2)) (same1 (word w 11) (s 12) (s 6) (s 11) (s 1) (t 1))

-- ---- the last byte of a counter
quotient : (k n : ℕ) → n / 256 ^ suc k ≡ n / 256 / 256 ^ k
quotient k n = ap (λ (d : ℕ). n / d) (pow-succ' 256 k) ∙ sym (div-div-eq-div-mul n 256 (256 ^ k))

big_endian_last : (k n : ℕ) → big_endian (suc k) n ≡ big_endian k (n / 256) ++ (n % 256 ∷ [])
unfolding big_endian
big_endian_last zero n = let e : n / 1 % 256 ≡ n % 256 = omega arith in ap (λ (b : ℕ). b ∷ []) e
big_endian_last (suc k) n =
    ap₂ (λ (b : ℕ) (l : List ℕ). b ∷ l) (ap (λ (q : ℕ). q % 256) (quotient k n)) (big_endian_last k n)

-- what is the same for all last bytes is the same for all counters of one n / 256
module _ (n m : ℕ) (e : n / 256 ≡ m / 256) where
  same_counters : (f : List ℕ → List ℕ) → ((h x y : ℕ) → f (block h x) ≡ f (block h y)) → f (counter_block n) ≡ f (counter_block m)
  same_counters f g =
      ap f (big_endian_last 15 n) ∙ g (n / 256) (n % 256) (m % 256) ∙ ap (λ (h : ℕ). f (block h (m % 256))) e ∙ sym (ap f (big_endian_last 15 m))

  cached_column-same : (w : List ℕ) → cached_column w n ≡ cached_column w m
  unfolding cached_column
  cached_column-same w = same_counters (column_of w) (column-same w)

  cached_state-same : (w : List ℕ) → cached_state w n ≡ cached_state w m
  unfolding cached_state
  cached_state-same w = same_counters (rest_of w) (rest-same w)

  -- a cache serves them all
  pub serves_same : (w : List ℕ) (cache : Cache) → Serves w n cache → Serves w m cache
  serves_same w cache p = record { column = p.column ∙ cached_column-same w; rest = p.rest ∙ cached_state-same w }
