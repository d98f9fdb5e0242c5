-- Parts of lists that are joined, and parts that are lent: what the borrow checker leaves of them.
use Prim.Native.Nat.{ℕ, zero, suc, ◌+◌, ◌-◌, ◌<◌, ◌≤◌}
use native.Mathlib.Omega.{arith}
use native.Mathlib.Decide.{dec_lt}
use mathlib.Core.Path.{◌≡◌, refl, sym, ap, ◌∙◌}
use mathlib.Core.List.{List, [], ◌∷◌, ◌++◌, append-nil}
use lib.ListN.{length, take, drop, get_or, get_or-eq_default, replicate, length-take, length-replicate, replicate-append-replicate, length-drop, drop_of_length-le, take-append-drop}
use lib.Seq.{take_at, drop_at, take_all, drop-append-add}
use borrow.Rule.Slice.PartMut.{put_mid}
use Rattle.base.specs.Part.{part, splice}
use Rattle.base.proofs.Parts.{put_next, part_at}

-- an element that is there does not go by the default
pub get_d_there : (xs : List ℕ) (i d e : ℕ) → i < length xs → get_or xs i d ≡ get_or xs i e
get_d_there [] i d e h = absurd (omega arith)
get_d_there (x ∷ xs) zero d e h = refl
get_d_there (x ∷ xs) (suc i) d e h = get_d_there xs i d e (omega arith)

-- ---- a part of lists that are joined
pub part_front : (p q : List ℕ) (n : ℕ) → length p ≡ n → part (p ++ q) 0 n ≡ p
unfolding part
part_front p q n e = take_at p q n e

pub part_all : (xs : List ℕ) (n : ℕ) → length xs ≡ n → part xs 0 n ≡ xs
unfolding part
part_all xs n e = take_all n xs (omega arith)

pub part_past : (p q : List ℕ) (i j n : ℕ) → length p ≡ i → part (p ++ q) (i + j) n ≡ part q j n
unfolding part
part_past p q i j n e = rw (← e, drop-append-add)

pub part_middle : (p q r : List ℕ) (i n : ℕ) → length p ≡ i → length q ≡ n → part (p ++ (q ++ r)) i n ≡ q
unfolding part
part_middle p q r i n e f = rw (drop_at p (q ++ r) i e) (take_at q r n f)

pub part_back : (p q : List ℕ) (i n : ℕ) → length p ≡ i → length q ≡ n → part (p ++ q) i n ≡ q
unfolding part
part_back p q i n e f = rw (drop_at p q i e) (take_all n q (omega arith))

pub part-replicate : (m i n v : ℕ) → i + n ≤ m → part (replicate m v) i n ≡ replicate n v
part-replicate m i n v h =
    let k : m ≡ i + (n + (m - (i + n))) = omega arith in
    rw k
    (rw (← replicate-append-replicate i (n + (m - (i + n))) v, ← replicate-append-replicate n (m - (i + n)) v)
    (part_middle (replicate i v) (replicate n v) (replicate (m - (i + n)) v) i n (length-replicate i v) (length-replicate n v)))

-- another list in the place of the middle one
pub splice_middle : (p q r ys : List ℕ) (i : ℕ) → length p ≡ i → length q ≡ length ys → splice (p ++ (q ++ r)) i ys ≡ p ++ (ys ++ r)
unfolding splice
splice_middle p q r ys i e f = rw (take_at p (q ++ r) i e, drop_at p (q ++ r) i e, drop_at q r (length ys) f)

-- a list in two parts
pub part_halves : (xs : List ℕ) (i j : ℕ) → length xs ≡ i + j → part xs 0 i ++ part xs i j ≡ xs
unfolding part
part_halves xs i j e = rw (take_all j (drop i xs) (simp length-drop (omega arith))) (take-append-drop i xs)

-- ---- a part that was lent for reading
pub lent-part : (xs : List ℕ) (a n : ℕ) → take ((a + n) - a) (drop a xs) ≡ part xs a n
unfolding part
lent-part xs a n = let k : (a + n) - a ≡ n = omega arith in rw k

-- ---- two parts that fill a list, written one after the other
module _ (x a b : List ℕ) (i j : ℕ) (la : length a ≡ i) (lb : length b ≡ j) where
  pub two_parts : length x ≡ i + j → put_mid i j (a ++ drop i x) b ≡ a ++ b
  two_parts h =
      rw (put_next a (drop i x) b i j la, drop_of_length-le (drop i x) {i = j} (simp length-drop (omega arith))) (append-nil (a ++ b))

-- a list written over the end of one value throughout
pub last_written : (m n v : ℕ) (ys : List ℕ) → n ≤ m → length ys ≡ n → put_mid (m - n) (m - (m - n)) (replicate m v) ys ≡ replicate (m - n) v ++ ys
last_written m n v ys h l =
    let i = m - n in
    let e : replicate m v ≡ replicate i v ++ replicate n v = ap (λ (k : ℕ). replicate k v) (omega arith) ∙ sym (replicate-append-replicate i n v) in
    let z : drop (m - i) (replicate n v) ≡ [] = drop_of_length-le (replicate n v) {i = m - i} (omega (arith, length-replicate n v)) in
    ap (λ (xs : List ℕ). put_mid i (m - i) xs ys) e
    ∙ put_next (replicate i v) (replicate n v) ys i (m - i) (length-replicate i v)
    ∙ rw z (append-nil (replicate i v ++ ys))

-- and one written over the start
pub first_written : (m n v : ℕ) (ys : List ℕ) → n ≤ m → length ys ≡ n → put_mid 0 n (replicate m v) ys ≡ ys ++ replicate (m - n) v
first_written m n v ys h l =
    let e : replicate m v ≡ replicate n v ++ replicate (m - n) v = ap (λ (k : ℕ). replicate k v) (omega arith) ∙ sym (replicate-append-replicate n (m - n) v) in
    put_next [] (replicate m v) ys 0 n refl
    ∙ ap (λ (xs : List ℕ). ys ++ xs) (ap (drop n) e ∙ drop_at (replicate n v) (replicate (m - n) v) n (length-replicate n v))

-- bytes after one byte throughout are bytes, and before it
pub fits_after : (k v : ℕ) (ys : List ℕ) → v < 256 → ((i : ℕ) → get_or ys i 0 < 256) → (i : ℕ) → get_or (replicate k v ++ ys) i 0 < 256
fits_after zero v ys h f i = f i
fits_after (suc k) v ys h f zero = h
fits_after (suc k) v ys h f (suc i) = fits_after k v ys h f i

pub fits_before : (k v : ℕ) (ys : List ℕ) → v < 256 → ((i : ℕ) → get_or ys i 0 < 256) → (i : ℕ) → get_or (ys ++ replicate k v) i 0 < 256
fits_before k v [] h f i = rw (← append-nil (replicate k v)) (fits_after k v [] h f i)
fits_before k v (y ∷ ys) h f zero = f zero
fits_before k v (y ∷ ys) h f (suc i) = fits_before k v ys h (λ j. f (suc j)) i

pub fits_part : (xs : List ℕ) (a n : ℕ) → ((i : ℕ) → get_or xs i 0 < 256) → (i : ℕ) → get_or (part xs a n) i 0 < 256
unfolding part
fits_part xs a n f i =
    elim (dec_lt i n) [
      | yes h ↦ rw (part_at xs a n i 0 h) (f (a + i))
      | no h ↦ let l : length (part xs a n) ≤ i = simp length-take (omega arith) in rw (get_or-eq_default (part xs a n) 0 l) (omega arith)
    ]
