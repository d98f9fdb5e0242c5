-- The laws of a part of a list and of a list with a part replaced.
use Prim.Native.Nat.{ℕ, zero, suc, ◌+◌, ◌-◌, ◌<◌, ◌≤◌}
use native.Mathlib.Omega.{arith}
use native.Mathlib.Numerals.{add-one}
use native.Mathlib.Nat.{zero-add, suc-add}
use mathlib.Core.Path.{◌≡◌, refl, sym, ap, subst, ◌∙◌}
use mathlib.Core.List.{List, [], ◌∷◌, ◌++◌, append_assoc, append-nil}
use lib.ListN.{length, get_or, take, drop, set, replicate, length-replicate, length-append, length-take, length-drop, take-append-drop}
use borrow.Rule.Slice.PartMut.{put_mid}
use lib.Seq.{drop-cons, set_at, take-suc, drop-length, take-nil, take_at, drop_at, take-append_seam, drop-append_seam, take-append-le, drop-append-le, take-append-add, drop-append-add, length-take-le, drop-drop, take-take, get_or-take, get_or-drop}
use Rattle.base.specs.Part.{part, splice}

module _ {A : Type 0} where
  -- ---- a part
  pub part_length : (xs : List A) (a n : ℕ) → a + n ≤ length xs → length (part xs a n) ≡ n
  unfolding part
  part_length xs a n h = simp (length-take, length-drop) (omega arith)

  pub part_at : (xs : List A) (a n i : ℕ) (d : A) → i < n → get_or (part xs a n) i d ≡ get_or xs (a + i) d
  unfolding part
  part_at xs a n i d h = rw (get_or-take, get_or-drop)

  drop-take : (a n : ℕ) (xs : List A) → drop a (take (a + n) xs) ≡ take n (drop a xs)
  drop-take zero n xs = rw zero-add
  drop-take (suc a) n [] = rw (take-nil, take-nil)
  drop-take (suc a) n (x ∷ xs) = rw suc-add (drop-take a n xs)

  pub part-part : (xs : List A) (a n b m : ℕ) → b + m ≤ n → part (part xs a n) b m ≡ part xs (a + b) m
  unfolding part
  part-part xs a n b m h =
      let k : n ≡ b + (n - b) = omega arith in
      rw k (rw (drop-take b (n - b) (drop a xs)) (rw (take-take m (n - b) _ (omega arith), drop-drop)))

  -- a part that ends before a goes by the first a elements, and one that starts after b by those from b on
  part-take : (xs : List A) (a b n : ℕ) → b + n ≤ a → part (take a xs) b n ≡ part xs b n
  unfolding part
  part-take xs a b n h =
      let k : a ≡ b + (a - b) = omega arith in
      rw k (rw (drop-take b (a - b) xs) (take-take n (a - b) _ (omega arith)))

  part-drop : (xs : List A) (a b n : ℕ) → a ≤ b → part (drop a xs) (b - a) n ≡ part xs b n
  unfolding part
  part-drop xs a b n h =
      let k : a + (b - a) ≡ b = omega arith in
      rw (drop-drop, k)

  -- ---- a part replaced
  module _ (xs : List A) (a : ℕ) (ys : List A) (fits : a + length ys ≤ length xs) where
    pub splice-length : length (splice xs a ys) ≡ length xs
    unfolding splice
    splice-length = simp (length-append, length-take, length-drop) (omega arith)

    pub take-splice : take a (splice xs a ys) ≡ take a xs
    unfolding splice
    take-splice = take_at (take a xs) _ a (length-take-le a xs (omega arith))

    pub drop-splice : drop a (splice xs a ys) ≡ ys ++ drop (length ys) (drop a xs)
    unfolding splice
    drop-splice = drop_at (take a xs) _ a (length-take-le a xs (omega arith))

    pub drop_splice_past : drop (a + length ys) (splice xs a ys) ≡ drop (a + length ys) xs
    drop_splice_past =
        sym (drop-drop (length ys) a (splice xs a ys)) ∙ rw (drop-splice, drop-append_seam, drop-drop)

    pub part-splice : part (splice xs a ys) a (length ys) ≡ ys
    unfolding part
    part-splice = rw (drop-splice, take-append_seam)

    pub part-splice-before : (b n : ℕ) → b + n ≤ a → part (splice xs a ys) b n ≡ part xs b n
    part-splice-before b n h = sym (part-take (splice xs a ys) a b n h) ∙ rw take-splice (part-take xs a b n h)

    pub part-splice-after : (b n : ℕ) → a + length ys ≤ b → part (splice xs a ys) b n ≡ part xs b n
    part-splice-after b n h =
        sym (part-drop (splice xs a ys) (a + length ys) b n h) ∙ rw drop_splice_past (part-drop xs (a + length ys) b n h)

    -- the last of two at one place stands
    pub splice_over : (zs : List A) → length zs ≡ length ys → splice (splice xs a ys) a zs ≡ splice xs a zs
    unfolding splice
    splice_over zs h = ap (λ (t : List A). t ++ (zs ++ drop (length zs) (drop a (splice xs a ys)))) take-splice ∙ rw (h, drop-splice, drop-append_seam)

  pub splice-part : (xs : List A) (a n : ℕ) → a + n ≤ length xs → splice xs a (part xs a n) ≡ xs
  unfolding splice part
  splice-part xs a n h =
      rw (length-take-le n (drop a xs) (simp length-drop (omega arith)), take-append-drop, take-append-drop)

  -- ---- in one of two lists that are joined
  pub splice-left : (xs zs : List A) (a : ℕ) (ys : List A) → a + length ys ≤ length xs → splice (xs ++ zs) a ys ≡ splice xs a ys ++ zs
  unfolding splice
  splice-left xs zs a ys h =
      rw (take-append-le a xs zs (omega arith), drop-append-le a xs zs (omega arith), drop-append-le (length ys) (drop a xs) zs (simp length-drop (omega arith)))
      (simp append_assoc)

  pub splice-right : (xs zs : List A) (a : ℕ) (ys : List A) → splice (xs ++ zs) (length xs + a) ys ≡ xs ++ splice zs a ys
  unfolding splice
  splice-right xs zs a ys = rw (take-append-add, drop-append-add) (simp append_assoc)

  pub splice_at : (xs zs : List A) (a : ℕ) (ys : List A) → length xs ≡ a → splice (xs ++ zs) a ys ≡ xs ++ splice zs 0 ys
  splice_at xs zs a ys e = let k : a ≡ length xs + 0 = omega arith in rw k (splice-right xs zs 0 ys)

  -- two at places apart may change places
  pub splice-apart : (xs : List A) (a : ℕ) (ys : List A) (b : ℕ) (zs : List A) → a + length ys ≤ b → b + length zs ≤ length xs
      → splice (splice xs a ys) b zs ≡ splice (splice xs b zs) a ys
  splice-apart xs a ys b zs h k =
      let l : length (take b xs) ≡ b = length-take-le b xs (omega arith) in
      go (take b xs) (drop b xs) (take-append-drop b xs) l
    where
      go : (p q : List A) → p ++ q ≡ xs → length p ≡ b → splice (splice xs a ys) b zs ≡ splice (splice xs b zs) a ys
      go p q e l =
          let f : a + length ys ≤ length p = omega arith in
          rw (← e) (rw (splice-left p q a ys f, splice_at (splice p a ys) q b zs (splice-length p a ys f ∙ l), splice_at p q b zs l, splice-left p (splice q 0 zs) a ys f))

  -- ---- within a part
  pub part_whole_lem : (xs : List A) (a n : ℕ) → take a xs ++ (part xs a n ++ drop n (drop a xs)) ≡ xs
  unfolding part
  part_whole_lem xs a n = rw (take-append-drop, take-append-drop)

  pub splice_all : (xs ys : List A) → length ys ≡ length xs → splice xs 0 ys ≡ ys
  unfolding splice
  splice_all xs ys e = rw (e, drop-length) (append-nil ys)

  module _ (xs : List A) (a n b : ℕ) (ys : List A) (fits : a + n ≤ length xs) (inside : b + length ys ≤ n) where
    pub splice-within : splice xs a (splice (part xs a n) b ys) ≡ splice xs (a + b) ys
    splice-within = go (take a xs) (part xs a n) (drop n (drop a xs)) (part_whole_lem xs a n) (length-take-le a xs (omega arith)) (part_length xs a n fits)
      where
        go : (p q r : List A) → p ++ (q ++ r) ≡ xs → length p ≡ a → length q ≡ n → splice xs a (splice q b ys) ≡ splice xs (a + b) ys
        go p q r e l m =
            let i : b + length ys ≤ length q = omega arith in
            let s : length (splice q b ys) ≡ length q = splice-length q b ys i in
            rw (← e, ← l)
            (rw (
              splice_at p (q ++ r) (length p) (splice q b ys) refl,
              splice-right p (q ++ r) b ys,
              splice-left q r b ys i,
              splice-left q r 0 (splice q b ys) (omega arith),
              splice_all q (splice q b ys) s,
            ))

    pub part-splice-within : part (splice xs (a + b) ys) a n ≡ splice (part xs a n) b ys
    part-splice-within =
        let l : length (splice (part xs a n) b ys) ≡ n = splice-length (part xs a n) b ys (rw (part_length xs a n fits) inside) ∙ part_length xs a n fits in
        rw (← splice-within) (subst (λ (k : ℕ). part (splice xs a (splice (part xs a n) b ys)) a k ≡ splice (part xs a n) b ys) l (part-splice xs a _ (rw l fits)))

  -- ---- a copy from the front, one store a turn
  pub copy_more : (s d : List A) (i : ℕ) (z : A) → i < length s → i < length d → set (take i s ++ drop i d) i (get_or s i z) ≡ take (i + 1) s ++ drop (i + 1) d
  copy_more s d i z h k =
      let l : length (take i s) ≡ i = length-take-le i s (omega arith) in
      rw (drop-cons d i z k) (rw (set_at (take i s) (get_or d i z) (drop (suc i) d) (get_or s i z) i l, add-one, take-suc s i z h) (simp append_assoc))

  -- ---- a part that was lent, written and is back: what the borrow checker leaves, as a splice
  module _ (xs : List A) (a n : ℕ) (fits : a + n ≤ length xs) where
    pub mid_length : length (take ((a + n) - a) (drop a xs)) ≡ n
    mid_length = simp (length-take, length-drop) (omega arith)

    pub lent : (zs ys : List A) → zs ≡ ys → length ys ≡ n → put_mid a ((a + n) - a) xs zs ≡ splice xs a ys
    unfolding splice
    lent zs ys e l =
        let k : (a + n) - a ≡ length ys = omega arith in
        rw (e, k)

    pub lent_fill : (zs : List A) (v : A) → zs ≡ replicate (length (take ((a + n) - a) (drop a xs))) v → put_mid a ((a + n) - a) xs zs ≡ splice xs a (replicate n v)
    lent_fill zs v e = lent zs (replicate n v) (e ∙ ap (λ (k : ℕ). replicate k v) mid_length) (length-replicate n v)

  -- the next of the parts that are written from the front: what stood there before does not matter
  pub put_next : (p q ys : List A) (a k : ℕ) → length p ≡ a → put_mid a k (p ++ q) ys ≡ (p ++ ys) ++ drop k q
  put_next p q ys a k e = rw (take_at p q a e, drop_at p q a e) (simp append_assoc)
