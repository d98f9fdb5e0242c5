-- Laws of words: several bytes as one number, compared, taken from a list and written into one.
use Prim.Native.Nat.{ℕ, zero, suc, ◌+◌, ◌*◌, ◌/◌, ◌%◌, ◌^◌, ◌<◌, ◌≤◌}
use native.Mathlib.Omega.{arith}
use native.Mathlib.Nat.{pow-suc, zero-add, suc-add}
use mathlib.Core.Path.{◌≡◌, refl, sym, ap, ◌∙◌}
use mathlib.Core.Bool.{Bool, ◌&&◌}
use mathlib.Core.List.{List, [], ◌∷◌, ◌++◌, append_assoc}
use lib.ListN.{length, get_or, take, drop, length-append}
use lib.Seq.{drop-cons, drop-drop, take-nil, take_at, drop_at, length-take-le}
use lib.Dec.{eqb}
use lib.Bits.{bit_and, mask_lt}
use borrow.Author.Tests.{eqb-true, eq-eqb}
use Rattle.std.specs.Int.{w32, w64, to_le_bytes, from_le_bytes}
use Rattle.std.proofs.lemmas.Nat.{le_bytes_8}
use Rattle.base.specs.Part.{part, splice}
use Rattle.base.specs.Each.{same}
use Rattle.base.proofs.Choice.{and_assoc, both_ways}
use Rattle.base.proofs.Eachs.{same_true, same_refl}
use Rattle.page.specs.Word.{word_bytes}

cons_eq : {x y : ℕ} {xs ys : List ℕ} → x ≡ y → xs ≡ ys → x ∷ xs ≡ y ∷ ys
cons_eq p q = λ i. p i ∷ q i

-- ---- the number of some bytes
pub four_bytes : (a b c d : ℕ) → a < 256 → b < 256 → c < 256 → d < 256 → word_bytes 4 (a + b * 0x100 + c * 0x10000 + d * 0x1000000) ≡ a ∷ b ∷ c ∷ d ∷ []
unfolding word_bytes
four_bytes a b c d g h k l = cons_eq (omega arith) (cons_eq (omega arith) (cons_eq (omega arith) (cons_eq (omega arith) refl)))

-- the bytes of a number of four or eight, as the library gives them
pub four_le_bytes : (w : ℕ) → to_le_bytes w32 w ≡ word_bytes 4 w
unfolding word_bytes
four_le_bytes w = cons_eq (omega arith) (cons_eq (omega arith) (cons_eq (omega arith) (cons_eq (omega arith) refl)))

pub eight_le_bytes : (w : ℕ) → to_le_bytes w64 w ≡ word_bytes 8 w
unfolding word_bytes
eight_le_bytes w = cons_eq (omega arith) (cons_eq (omega arith) (cons_eq (omega arith) (cons_eq (omega arith) (cons_eq (omega arith) (cons_eq (omega arith) (cons_eq (omega arith) (cons_eq (omega arith) refl)))))))

-- eight bytes as a number, as the library makes it
pub bytes_of_eight : (xs : List ℕ) (v : ℕ) → length xs ≡ 8 → ((i : ℕ) → get_or xs i 0 < 256) → v ≡ from_le_bytes w64 xs → word_bytes 8 v ≡ xs
bytes_of_eight xs v l h e = sym (eight_le_bytes v) ∙ le_bytes_8 xs v l h e

-- the bytes of a number in two parts
pub bytes_joined : (n m k low high : ℕ) → k ≡ n + m → low < 256 ^ n → word_bytes k (low + high * 256 ^ n) ≡ word_bytes n low ++ word_bytes m high
unfolding word_bytes
bytes_joined zero m k low high e h = let f : k ≡ m = omega arith in rw f (ap (word_bytes m) (omega arith))
bytes_joined (suc n) m k low high e h =
    let f : k ≡ suc (n + m) = omega arith in
    let p = pow-suc 256 n in
    let q : low + high * 256 ^ suc n ≡ low + high * 256 ^ n * 256 = rw p (omega arith) in
    let r : (low + high * 256 ^ suc n) % 256 ≡ low % 256 = rw q (omega arith) in
    let s : (low + high * 256 ^ suc n) / 256 ≡ low / 256 + high * 256 ^ n = rw q (omega arith) in
    rw f (cons_eq r (ap (word_bytes (n + m)) s ∙ bytes_joined n m (n + m) (low / 256) high refl (omega (arith, p))))

-- the bytes of a number of eight, by its halves
pub half_lt : (w : ℕ) → bit_and w 0xffffffff < 0x100000000
half_lt w = mask_lt w 32

pub word-length : (n w : ℕ) → length (word_bytes n w) ≡ n
unfolding word_bytes
word-length zero w = refl
word-length (suc n) w = ap suc (word-length n (w / 256))

-- ---- numbers of n bytes are the same where their bytes are
pub word_is : (n v w : ℕ) → v < 256 ^ n → w < 256 ^ n → word_bytes n v ≡ word_bytes n w → v ≡ w
unfolding word_bytes
word_is zero v w g h e = omega arith
word_is (suc n) v w g h e =
    let p = pow-suc 256 n in
    let low : v % 256 ≡ w % 256 = ap (λ (l : List ℕ). get_or l 0 0) e in
    let high : v / 256 ≡ w / 256 = word_is n (v / 256) (w / 256) (omega (arith, p)) (omega (arith, p)) (ap (drop 1) e) in
    omega arith

pub words_decide : (n v w : ℕ) → v < 256 ^ n → w < 256 ^ n → eqb v w ≡ same (word_bytes n v) (word_bytes n w)
words_decide n v w g h =
    both_ways _ _ (λ t. rw (eqb-true v w t) (same_refl (word_bytes n w)))
    (λ t. eq-eqb v w (word_is n v w g h (same_true (word_bytes n v) (word_bytes n w) t)))

-- ---- elements of a list one after the other
module _ (xs : List ℕ) (at : ℕ) where
  next : (i j : ℕ) → j ≡ suc i → i < length xs → drop i xs ≡ get_or xs i 0 ∷ drop j xs
  next i j e h = drop-cons xs i 0 h ∙ rw e

  pub part_three : at + 3 ≤ length xs → part xs at 3 ≡ get_or xs at 0 ∷ get_or xs (at + 1) 0 ∷ get_or xs (at + 2) 0 ∷ []
  unfolding part
  part_three h =
      ap (take 3)
      (next at (at + 1) (omega arith) (omega arith)
      ∙ cons_eq refl
      (next (at + 1) (at + 2) (omega arith) (omega arith) ∙ cons_eq refl (next (at + 2) (at + 3) (omega arith) (omega arith))))

  pub part-four : at + 4 ≤ length xs → part xs at 4 ≡ get_or xs at 0 ∷ get_or xs (at + 1) 0 ∷ get_or xs (at + 2) 0 ∷ get_or xs (at + 3) 0 ∷ []
  unfolding part
  part-four h =
      ap (take 4)
      (next at (at + 1) (omega arith) (omega arith)
      ∙ cons_eq refl
      (next (at + 1) (at + 2) (omega arith) (omega arith)
      ∙ cons_eq refl
      (next (at + 2) (at + 3) (omega arith) (omega arith) ∙ cons_eq refl (next (at + 3) (at + 4) (omega arith) (omega arith)))))

-- ---- a part in two parts
take_join : (m n : ℕ) (ys : List ℕ) → take m ys ++ take n (drop m ys) ≡ take (m + n) ys
take_join zero n ys = rw (zero-add n)
take_join (suc m) n [] = rw (take-nil n, take-nil (suc m + n))
take_join (suc m) n (y ∷ ys) = rw (suc-add m n) (cons_eq refl (take_join m n ys))

pub part_join : (xs : List ℕ) (a m n : ℕ) → part xs a m ++ part xs (a + m) n ≡ part xs a (m + n)
unfolding part
part_join xs a m n = rw (← drop-drop m a xs) (take_join m n (drop a xs))

-- ---- a part written in two parts
pub splice_join : (xs : List ℕ) (a b : ℕ) (ys zs : List ℕ) → length ys ≡ b → a + b ≤ length xs → splice (splice xs a ys) (a + b) zs ≡ splice xs a (ys ++ zs)
unfolding splice
splice_join xs a b ys zs e h =
    let p = take a xs in
    let l : length p ≡ a = length-take-le a xs (omega arith) in
    let k : length (p ++ ys) ≡ a + b = simp length-append (omega arith) in
    rw (← append_assoc p ys (drop (length ys) (drop a xs)), take_at (p ++ ys) (drop (length ys) (drop a xs)) (a + b) k, drop_at (p ++ ys) (drop (length ys) (drop a xs)) (a + b) k)
    (simp append_assoc (ap (λ (t : List ℕ). p ++ (ys ++ (zs ++ t))) (drop-drop (length zs) (length ys) (drop a xs) ∙ ap (λ (m : ℕ). drop m (drop a xs)) (sym (length-append ys zs)))))

-- ---- lists compared in two parts
pub same-append : (a b c d : List ℕ) → length a ≡ length c → same (a ++ b) (c ++ d) ≡ same a c && same b d
unfolding same
same-append [] b [] d e = refl
same-append [] b (y ∷ ys) d e = absurd (omega arith)
same-append (x ∷ xs) b [] d e = absurd (omega arith)
same-append (x ∷ xs) b (y ∷ ys) d e = ap (λ (t : Bool). eqb x y && t) (same-append xs b ys d (omega arith)) ∙ and_assoc (eqb x y) (same xs ys) (same b d)
