-- Laws of the key schedule: its length, and a round key more, four words at a time.
use mathlib.Core.Path.{◌≡◌, refl, ap, ap₂, ◌∙◌, sym}
use mathlib.Core.List.{List, ◌++◌, append_assoc}
use Prim.Native.Nat.{ℕ, zero, suc, ◌+◌, ◌≤◌, ◌-◌, ◌*◌, ◌/◌, ◌%◌}
use native.Mathlib.Omega.{arith}
use native.Mathlib.Numerals.{add-one}
use borrow.Author.Tests.{eq-eqb, ne_eqb}
use lib.ListN.{length, take, length-append}
use lib.Seq.{take_at, length-take-le}
use Rattle.cipher.specs.Field.{◌⊕◌, xtime}
use Rattle.cipher.specs.Words.{four, word, xor_bytes, little_endian}
use Rattle.cipher.specs.Cipher.{round_key}
use Rattle.cipher.specs.KeyExpansion.{rot_word, sub_word, power, temp, schedule, next_round_key}
use Rattle.cipher.specs.State.{state}
use Rattle.cipher.specs.declared.columns.Columns.{Columns}
use Rattle.cipher.proofs.Sums.{length_xor}
use Rattle.cipher.proofs.WordLaws.{word_xor, words_eq, word_all, words_all, word-left, word-right}

pub power_more : (n : ℕ) → xtime (power n) ≡ power (n + 1)
unfolding power
power_more n = rw add-one

pub length-schedule : (n : ℕ) (key : List ℕ) → length (schedule n key) ≡ length key + 4 * n
unfolding schedule
length-schedule zero key = omega arith
length-schedule (suc n) key = length-append (schedule n key) _ ∙ omega (arith, length-schedule n key, length_xor (word (schedule n key) (n + 4 - 4)) (temp (schedule n key) (n + 4)))

-- ---- one word more: w[i] for i = n + 4
schedule_more : (n : ℕ) (key : List ℕ) → schedule (n + 1) key ≡ schedule n key ++ xor_bytes (word (schedule n key) n) (temp (schedule n key) (n + 4))
unfolding schedule
schedule_more n key =
    let e : n + 4 - 4 ≡ n = omega arith in
    rw (add-one n) (ap (λ (m : ℕ). schedule n key ++ xor_bytes (word (schedule n key) m) (temp (schedule n key) (n + 4))) e)

-- the first word of a round key, and the others
temp_first : (w : List ℕ) (m : ℕ) → temp w (4 * m + 4) ≡ xor_bytes (sub_word (rot_word (word w (4 * m + 3)))) (four (power m) 0 0 0)
unfolding temp
temp_first w m =
    let r : (4 * m + 4) % 4 ≡ 0 = omega arith in
    let i : 4 * m + 4 - 1 ≡ 4 * m + 3 = omega arith in
    let p : (4 * m + 4) / 4 - 1 ≡ m = omega arith in
    rw (eq-eqb _ _ r, i, p)

temp_other : (w : List ℕ) (n : ℕ) → ((n + 4) % 4 ≡ 0 → ⊥) → temp w (n + 4) ≡ word w (n + 3)
unfolding temp
temp_other w n h =
    let i : n + 4 - 1 ≡ n + 3 = omega arith in
    rw (ne_eqb _ _ h, i)

-- the word d is the last of W ++ d
word_last : (W d : List ℕ) (i : ℕ) → length W ≡ 4 * i → length d ≡ 4 → word (W ++ d) i ≡ d
word_last W d i e f =
    let z : i ≡ i + 0 = omega arith in
    ap (λ (m : ℕ). word (W ++ d) m) z ∙ word-right W d i 0 e ∙ word_all d f

-- W and the word d behind it are the schedule so far, and the next word is no first one
next_other : (key W d : List ℕ) (n k : ℕ) → k ≡ n + 1 → schedule n key ≡ W ++ d → length W ≡ 4 * (n + 3) → length d ≡ 4 → ((n + 4) % 4 ≡ 0 → ⊥)
    → schedule k key ≡ (W ++ d) ++ xor_bytes (word W n) d
next_other key W d n k s e l f h =
    ap (λ (i : ℕ). schedule i key) s
    ∙ schedule_more n key
    ∙ ap (λ (w : List ℕ). w ++ xor_bytes (word w n) (temp w (n + 4))) e
    ∙ ap₂ (λ (x y : List ℕ). (W ++ d) ++ xor_bytes x y) (word-left W d n (omega arith)) (temp_other (W ++ d) n h ∙ word_last W d (n + 3) l f)

-- ---- a round key more
-- the words d0 to d3 behind the first m + 1 round keys
module _ (key : List ℕ) (m : ℕ) (W d0 d1 d2 d3 : List ℕ) (size : length key ≡ 16) (e : schedule (4 * m) key ≡ W)
    (e0 : d0 ≡ xor_bytes (word W (4 * m)) (xor_bytes (sub_word (rot_word (word W (4 * m + 3)))) (four (power m) 0 0 0)))
    (e1 : d1 ≡ xor_bytes (word W (4 * m + 1)) d0) (e2 : d2 ≡ xor_bytes (word W (4 * m + 2)) d1) (e3 : d3 ≡ xor_bytes (word W (4 * m + 3)) d2) where
  four_more : schedule (4 * (m + 1)) key ≡ W ++ (d0 ++ d1 ++ d2 ++ d3)
  four_more =
      let l : length W ≡ 16 * m + 16 = ap length (sym e) ∙ length-schedule (4 * m) key ∙ omega arith in
      let l0 : length d0 ≡ 4 = ap length e0 in
      let l1 : length d1 ≡ 4 = ap length e1 ∙ length_xor (word W (4 * m + 1)) d0 in
      let l2 : length d2 ≡ 4 = ap length e2 ∙ length_xor (word W (4 * m + 2)) d1 in
      let s1 : schedule (4 * m + 1) key ≡ W ++ d0 =
      schedule_more (4 * m) key
      ∙ ap (λ (w : List ℕ). w ++ xor_bytes (word w (4 * m)) (temp w (4 * m + 4))) e
      ∙ ap (λ (x : List ℕ). W ++ x) (ap (xor_bytes (word W (4 * m))) (temp_first W m) ∙ sym e0) in
      let s2 : schedule (4 * m + 2) key ≡ (W ++ d0) ++ d1 =
      next_other key W d0 (4 * m + 1) (4 * m + 2) (omega arith) s1 (omega arith) l0 (λ h. omega arith)
      ∙ ap (λ (x : List ℕ). (W ++ d0) ++ x) (sym e1) in
      let s3 : schedule (4 * m + 3) key ≡ ((W ++ d0) ++ d1) ++ d2 =
      next_other key (W ++ d0) d1 (4 * m + 2) (4 * m + 3) (omega arith) s2 (length-append W d0 ∙ omega arith) l1 (λ h. omega arith)
      ∙ ap (λ (x : List ℕ). ((W ++ d0) ++ d1) ++ xor_bytes x d1) (word-left W d0 (4 * m + 2) (omega arith))
      ∙ ap (λ (x : List ℕ). ((W ++ d0) ++ d1) ++ x) (sym e2) in
      next_other key ((W ++ d0) ++ d1) d2 (4 * m + 3) (4 * (m + 1)) (omega arith) s3 (length-append (W ++ d0) d1 ∙ omega (arith, length-append W d0)) l2 (λ h. omega arith)
      ∙ ap (λ (x : List ℕ). (((W ++ d0) ++ d1) ++ d2) ++ xor_bytes x d2)
      (word-left (W ++ d0) d1 (4 * m + 3) (omega (arith, length-append W d0)) ∙ word-left W d0 (4 * m + 3) (omega arith))
      ∙ ap (λ (x : List ℕ). (((W ++ d0) ++ d1) ++ d2) ++ x) (sym e3)
      ∙ simp append_assoc

pub schedule_round : (key : List ℕ) (m : ℕ) → length key ≡ 16
    → schedule (4 * (m + 1)) key ≡ schedule (4 * m) key ++ next_round_key (power m) (round_key (schedule (4 * m) key) m)
unfolding next_round_key
schedule_round key m h = four_more key m (schedule (4 * m) key) _ _ _ _ h refl refl refl refl refl

-- the words of the next round key, from those of the last: t is what is added to the first
pub next_words : (k : Columns) (c t : ℕ) → little_endian t ≡ xor_bytes (sub_word (rot_word (little_endian k.c3))) (four c 0 0 0)
    → (n : Columns) → n.c0 ≡ k.c0 ⊕ t → n.c1 ≡ k.c1 ⊕ n.c0 → n.c2 ≡ k.c2 ⊕ n.c1 → n.c3 ≡ k.c3 ⊕ n.c2
    → state n ≡ next_round_key c (state k)
unfolding state next_round_key
next_words k c t e n e0 e1 e2 e3 =
    let f0 = ap little_endian e0 ∙ word_xor k.c0 t ∙ ap (xor_bytes (little_endian k.c0)) e in
    let f1 = ap little_endian e1 ∙ word_xor k.c1 n.c0 ∙ ap (xor_bytes (little_endian k.c1)) f0 in
    let f2 = ap little_endian e2 ∙ word_xor k.c2 n.c1 ∙ ap (xor_bytes (little_endian k.c2)) f1 in
    let f3 = ap little_endian e3 ∙ word_xor k.c3 n.c2 ∙ ap (xor_bytes (little_endian k.c3)) f2 in
    words_eq f0 f1 f2 f3

-- ---- the last round key of a schedule
pub round_key_last : (W k : List ℕ) (r : ℕ) → length W ≡ 16 * r → length k ≡ 16 → round_key (W ++ k) r ≡ k
round_key_last W k r e f =
    let l : length W ≡ 4 * (4 * r) = omega arith in
    let z : 4 * r ≡ 4 * r + 0 = omega arith in
    words_eq (ap (λ (i : ℕ). word (W ++ k) i) z ∙ word-right W k (4 * r) 0 l) (word-right W k (4 * r) 1 l) (word-right W k (4 * r) 2 l) (word-right W k (4 * r) 3 l)
    ∙ words_all k f

-- a round key written behind the first a bytes of w: y is what stands there then, and s what stands after
pub round_key_put : (W w k y r s : List ℕ) (a b : ℕ) → b ≡ a + 16 → a ≤ length w → take a w ≡ W → length k ≡ 16 → y ≡ k ++ r → take b (take a w ++ (y ++ s)) ≡ W ++ k
round_key_put W w k y r s a b g h e l f =
    ap₂ (λ (n : ℕ) (x : List ℕ). take n (take a w ++ (x ++ s))) g f
    ∙ ap (λ (x : List ℕ). take (a + 16) (take a w ++ x)) (append_assoc k r s)
    ∙ ap (take (a + 16)) (sym (append_assoc (take a w) k (r ++ s)))
    ∙ take_at (take a w ++ k) (r ++ s) (a + 16) (length-append (take a w) k ∙ omega (arith, length-take-le a w h))
    ∙ ap (λ (x : List ℕ). x ++ k) e
