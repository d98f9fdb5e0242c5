-- Headers compared in parts of eight, four and two bytes: with another that differs only in its part, and with the fields of a node.
use Prim.Native.Nat.{ℕ, suc, ◌+◌, ◌/◌, ◌^◌, ◌<◌, ◌≤◌}
use native.Mathlib.Omega.{arith}
use mathlib.Core.Path.{◌≡◌, refl, sym, ap, ◌∙◌}
use mathlib.Core.Bool.{Bool, true, false, cond, ◌&&◌}
use mathlib.Core.List.{List, ◌++◌}
use lib.ListN.{length, get_or, take, drop}
use lib.Seq.{take_all}
use lib.Dec.{eqb, leb}
use borrow.Author.Tests.{eqb-true, eq-eqb, leb-true, le-leb}
use Rattle.base.specs.Part.{part, splice}
use Rattle.base.specs.Each.{same}
use Rattle.base.proofs.Choice.{and-true, and_intro, and_assoc, and-passed, true-false, both_ways}
use Rattle.base.proofs.Parts.{part_length, part-part, part-splice, part-splice-before, part-splice-after}
use Rattle.base.proofs.Eachs.{same_true, same_refl}
use Rattle.page.specs.Frame.{header_size, payload_size, page_size, colon_space}
use Rattle.page.specs.Column.{spell, columns, value_after, number_in, number_then}
use Rattle.page.specs.Word.{word_bytes}
use Rattle.page.specs.Header.{node_letter, node_frame, in_range, header_bytes, header_of, node_with, node_spelt, second_right, with_part, header_like}
use Rattle.std.specs.Prelude.{Option, Some, None}
use Rattle.page.specs.declared.Frame.{Frame}
use Rattle.page.proofs.Slices.{part_all, part_front, part_back}
use Rattle.page.proofs.Column.{value_lt, length-spell, number_spell, number_part}
use Rattle.page.specs.Plan.{file_plan}
use Rattle.page.proofs.Plans.{place_at_lem, plan_below}
use Rattle.page.proofs.Ranges.{node_range, in_range-fits}
use Rattle.page.proofs.HeaderLaws.{Spelt, spelt_header, header_spelt, four_spaces, small_spaces, header_is, length-header}
use Rattle.page.specs.Form.{closed, form_of, whole_node, whole_like}
use Rattle.page.specs.declared.Form.TheVariants.{Whole}
use Rattle.page.proofs.FormLaws.{whole_is}
use Rattle.page.proofs.HeaderTests.{and-failed, put_part_lem, spelling_decides, whole_decides, whole_node_decides}
use Rattle.page.proofs.Spellings.{last_three}
use Rattle.page.proofs.WordLaws.{part_join, word-length, words_decide, same-append}

-- ---- a header in parts
module _ (xs : List ℕ) (l : length xs ≡ header_size) where
  pub header_joined : xs ≡ part xs 0 8 ++ (part xs 8 4 ++ (part xs 12 4 ++ (part xs 16 8 ++ (part xs 24 4 ++ part xs 28 2))))
  header_joined =
      sym
      (rw (part_join xs 24 4 2, part_join xs 16 8 6, part_join xs 12 4 14, part_join xs 8 4 18, part_join xs 0 8 22) (part_all xs 30 l))

-- two headers, part by part
abbrev pub parts_same : List ℕ → List ℕ → Bool
parts_same xs ys =
    same (part xs 0 8) (part ys 0 8) && same (part xs 8 4) (part ys 8 4) && same (part xs 12 4) (part ys 12 4) && same (part xs 16 8) (part ys 16 8) && same (part xs 24 4) (part ys 24 4) && same (part xs 28 2) (part ys 28 2)

pub parts_decide : (xs ys : List ℕ) → length xs ≡ header_size → length ys ≡ header_size → parts_same xs ys ≡ same xs ys
parts_decide xs ys l m = both_ways _ _ joined apart
  where
    joined : parts_same xs ys ≡ true → same xs ys ≡ true
    joined t =
        let e = and-true _ (same (part xs 28 2) (part ys 28 2)) t in
        let d = and-true _ (same (part xs 24 4) (part ys 24 4)) e.0 in
        let c = and-true _ (same (part xs 16 8) (part ys 16 8)) d.0 in
        let b = and-true _ (same (part xs 12 4) (part ys 12 4)) c.0 in
        let a = and-true (same (part xs 0 8) (part ys 0 8)) (same (part xs 8 4) (part ys 8 4)) b.0 in
        let p = same_true (part xs 0 8) (part ys 0 8) a.0 in
        let q = same_true (part xs 8 4) (part ys 8 4) a.1 in
        let r = same_true (part xs 12 4) (part ys 12 4) b.1 in
        let s = same_true (part xs 16 8) (part ys 16 8) c.1 in
        let u = same_true (part xs 24 4) (part ys 24 4) d.1 in
        let v = same_true (part xs 28 2) (part ys 28 2) e.1 in
        let z : xs ≡ ys = header_joined xs l ∙ (λ i. p i ++ (q i ++ (r i ++ (s i ++ (u i ++ v i))))) ∙ sym (header_joined ys m) in
        rw z (same_refl ys)

    apart : same xs ys ≡ true → parts_same xs ys ≡ true
    apart t =
        let z = same_true xs ys t in
        rw z
        (and_intro _ _
        (and_intro _ _
        (and_intro _ _
        (and_intro _ _ (and_intro _ _ (same_refl (part ys 0 8)) (same_refl (part ys 8 4))) (same_refl (part ys 12 4)))
        (same_refl (part ys 16 8)))
        (same_refl (part ys 24 4)))
        (same_refl (part ys 28 2)))

-- ---- a header that is another but for its part
module _ (xs first : List ℕ) (n : ℕ) (f : Frame) (l : length xs ≡ header_size) (m : length first ≡ header_size) (e : header_of first ≡ Some f) (r : in_range (with_part n f) ≡ true) where
  abbrev ys : List ℕ
  ys = header_bytes (with_part n f)

  spliced : ys ≡ splice first 12 (spell 4 n)
  spliced = sym (rw (header_is first f m e) (put_part_lem f n))

  width : length (spell 4 n) ≡ 4
  width = length-spell 4 n (omega arith)

  before : (b k : ℕ) → b + k ≤ 12 → part ys b k ≡ part first b k
  before b k h = ap (λ (t : List ℕ). part t b k) spliced ∙ part-splice-before first 12 (spell 4 n) (omega (arith, width)) b k h

  after : (b k : ℕ) → 16 ≤ b → part ys b k ≡ part first b k
  after b k h = ap (λ (t : List ℕ). part t b k) spliced ∙ part-splice-after first 12 (spell 4 n) (omega (arith, width)) b k (omega (arith, width))

  between : part ys 12 4 ≡ spell 4 n
  between =
      ap (λ (t : List ℕ). part t 12 4) spliced
      ∙ ap (λ (k : ℕ). part (splice first 12 (spell 4 n)) 12 k) (sym width)
      ∙ part-splice first 12 (spell 4 n) (omega (arith, width))

  pub like_decides : same (part xs 0 8) (part first 0 8) && same (part xs 8 4) (part first 8 4) && same (part xs 12 4) (spell 4 n) && same (part xs 16 8) (part first 16 8) && same (part xs 24 4) (part first 24 4) && same (part xs 28 2) (part first 28 2) ≡ header_like (header_of first) n (header_of xs)
  like_decides =
      rw (e, ← before 0 8 (omega arith), ← before 8 4 (omega arith), ← between, ← after 16 8 (omega arith), ← after 24 4 (omega arith), ← after 28 2 (omega arith))
      (parts_decide xs ys l (length-header (with_part n f)) ∙ spelling_decides xs (with_part n f) l r)

-- ---- the same of whole pages
pub whole_like_decides : (first page : List ℕ) (n : ℕ) (f : Frame) → form_of first ≡ Whole f → header_like (header_of (part first 0 header_size)) n (header_of (part page 0 header_size)) && closed page ≡ whole_like (form_of first) n (form_of page)
whole_like_decides first page n f e = rw ((whole_is first f e).0, e) (whole_decides page (with_part n f))

-- ---- the columns of a file, which follow one byte of a word
-- all but the first byte
bytes_after : (n w : ℕ) (xs : List ℕ) (at : ℕ) → word_bytes (suc n) w ≡ part xs at (suc n) → word_bytes n (w / 256) ≡ part xs (at + 1) n
unfolding word_bytes part
bytes_after n w xs at e =
    sym (take_all n (word_bytes n (w / 256)) (omega (arith, word-length n (w / 256))))
    ∙ ap (λ (l : List ℕ). take n (drop 1 l)) e
    ∙ part-part xs at (suc n) 1 n (omega arith)

pub file_decides : (xs : List ℕ) (v text file : ℕ) → word_bytes 4 v ≡ part xs 8 4 → word_bytes 4 text ≡ spell 4 file
    → v < 256 ^ 4 → text < 256 ^ 4 → eqb (v / 256) (text / 256) ≡ same (part xs 9 3) (spell 3 file)
file_decides xs v text file e t g h =
    words_decide 3 (v / 256) (text / 256) (omega arith) (omega arith)
    ∙ (λ i. same (bytes_after 3 v xs 8 e i) (last_three file text t i))

-- ---- the columns of a file and an offset, apart
module _ (xs : List ℕ) (file offset p : ℕ) (l : length xs ≡ header_size) where
  place-apart : same (part xs 9 7) (spell 3 file ++ spell 4 offset) ≡ same (part xs 9 3) (spell 3 file) && same (part xs 12 4) (spell 4 offset)
  place-apart =
      ap (λ (t : List ℕ). same t (spell 3 file ++ spell 4 offset)) (sym (part_join xs 9 3 4))
      ∙ same-append (part xs 9 3) (part xs 12 4) (spell 3 file) (spell 4 offset)
      (part_length xs 9 3 (omega arith) ∙ sym (length-spell 3 file (omega arith)))

  -- file, and offset with key position
  abbrev pub named : Bool
  named = same (part xs 9 3) (spell 3 file) && (same (part xs 12 4) (spell 4 offset) && same (part xs 16 4) (spell 4 p))

  named_apart : (k : Bool) → k && same (part xs 9 7) (spell 3 file ++ spell 4 offset) && same (part xs 16 4) (spell 4 p) ≡ k && named
  named_apart k =
      let f = same (part xs 9 3) (spell 3 file) in
      let o = same (part xs 12 4) (spell 4 offset) in
      let q = same (part xs 16 4) (spell 4 p) in
      sym (and_assoc k (same (part xs 9 7) (spell 3 file ++ spell 4 offset)) q)
      ∙ ap (λ (b : Bool). k && b) (ap (λ (b : Bool). b && q) place-apart ∙ sym (and_assoc f o q))

  -- without them there is no such node, and with them the other tests decide
  pub unnamed_node : named ≡ false → false ≡ node_spelt file offset p xs
  unnamed_node e = sym (rw (named_apart (eqb (get_or xs 0 0) node_letter), e, and-failed (eqb (get_or xs 0 0) node_letter)))

  pub named_node : named ≡ true → eqb (get_or xs 0 0) node_letter && same (part xs 28 2) colon_space && number_then (number_in (part xs 1 8)) false (leb 1) ≡ node_spelt file offset p xs
  named_node e = sym (rw (named_apart (eqb (get_or xs 0 0) node_letter), e, and-passed (eqb (get_or xs 0 0) node_letter)))

-- ---- a node of given fields, whatever its sequence and its second number
-- the number of eight columns is a sequence
number_value : (xs : List ℕ) (n : ℕ) → number_in xs ≡ Some n → value_after 0 xs ≡ n
unfolding number_in
number_value xs n e = go (same (spell (length xs) (value_after 0 xs)) xs) e
  where
    go : (b : Bool) → cond b (Some (value_after 0 xs)) None ≡ Some n → value_after 0 xs ≡ n
    go true t = cc
    go false t = absurd (let z : ◌≡◌ {A = ℕ} 0 1 = cc in omega arith)

from_one : (m : Option ℕ) → number_then m false (leb 1) ≡ true → (n : ℕ) × (m ≡ Some n) × (1 ≤ n)
from_one (Some n) e = (n, refl, leb-true 1 n e)
from_one None e = absurd (true-false e refl)

-- a second number that a node may have; 224 is one
pub longest-right : second_right (word_bytes 8 0x3432322020202020) ≡ true
unfolding number_in value_after spell columns same word_bytes
longest-right = refl

-- a number so small has spaces in the first four columns
pub unspaced_wrong : (xs : List ℕ) → length xs ≡ header_size → same (part xs 20 4) four_spaces ≡ false → second_right (part xs 20 8) ≡ false
unspaced_wrong xs l e = go (number_in (part xs 20 8)) refl
  where
    go : (m : Option ℕ) → number_in (part xs 20 8) ≡ m → number_then m false (λ n. leb n payload_size) ≡ false
    go None q = refl
    go (Some n) q = at_most (leb n payload_size) refl
      where
        at_most : (b : Bool) → leb n payload_size ≡ b → leb n payload_size ≡ false
        at_most false f = f
        at_most true f = absurd (true-false (rw (small_spaces xs n l (omega (arith, leb-true n payload_size f)) q) (same_refl four_spaces)) e)

second_held : (m : Option ℕ) → number_then m false (λ n. leb n payload_size) ≡ true → (n : ℕ) × (m ≡ Some n) × (n ≤ payload_size)
second_held (Some n) e = (n, refl, leb-true n payload_size e)
second_held None e = absurd (true-false e refl)

module _ (xs : List ℕ) (file offset p : ℕ) (l : length xs ≡ header_size) where
  abbrev h : Frame
  h = node_frame 1 file offset p 0

  found : in_range h ≡ true → node_spelt file offset p xs && second_right (part xs 20 8) ≡ true → node_with file offset p (header_of xs) ≡ true
  found r t =
      let c = and-true (node_spelt file offset p xs) (second_right (part xs 20 8)) t in
      let a = and-true _ (number_then (number_in (part xs 1 8)) false (leb 1)) c.0 in
      let b = and-true _ (same (part xs 28 2) colon_space) a.0 in
      let d = and-true _ (same (part xs 16 4) (spell 4 p)) b.0 in
      let e = and-true (eqb (get_or xs 0 0) node_letter) (same (part xs 9 7) (spell 3 file ++ spell 4 offset)) d.0 in
      let n = from_one (number_in (part xs 1 8)) a.1 in
      let k = second_held (number_in (part xs 20 8)) c.1 in
      let w = in_range-fits h r in
      let place = same_true _ _ e.1 in
      let width : length (part xs 1 8) ≡ 8 = part_length xs 1 8 (omega arith) in
      let small : n.0 < 10 ^ 8 = rw (number_value (part xs 1 8) n.0 n.1, width) at (value_lt (part xs 1 8) 0 0 (omega arith)) in
      let range = (node_range h refl).0 r in
      let f : Frame = node_frame n.0 file offset p k.0 in
      let s : Spelt xs f = record {
        kind = eqb-true _ _ e.0;
        number = n.1;
        unit = ap number_in (sym (part-part xs 9 7 0 3 (omega arith)) ∙ ap (λ (t : List ℕ). part t 0 3) place ∙ part_front (spell 3 file) (spell 4 offset) 3 (length-spell 3 file (omega arith))) ∙ number_spell 3 file (omega arith) w.unit;
        part' = ap number_in (sym (part-part xs 9 7 3 4 (omega arith)) ∙ ap (λ (t : List ℕ). part t 3 4) place ∙ part_back (spell 3 file) (spell 4 offset) 3 4 (length-spell 3 file (omega arith)) (length-spell 4 offset (omega arith))) ∙ number_spell 4 offset (omega arith) w.part;
        key = ap number_in (same_true _ _ d.1) ∙ number_spell 4 p (omega arith) w.key;
        second = k.1;
        colon = b.1;
        ranges = (node_range f refl).1 (record {
          from_one = n.2;
          number = omega arith;
          file = range.file;
          offset = range.offset;
          position = range.position;
          second = k.2;
        });
      } in
      rw (spelt_header xs f s) (rw (eq-eqb file file refl, eq-eqb offset offset refl, eq-eqb p p refl))

  with_fields : (m : Option Frame) → header_of xs ≡ m → node_with file offset p m ≡ true → node_spelt file offset p xs && second_right (part xs 20 8) ≡ true
  with_fields None e t = absurd (true-false t refl)
  with_fields (Some f) e t =
      let a = and-true _ (eqb f.key p) t in
      let b = and-true _ (eqb f.part offset) a.0 in
      let c = and-true (eqb f.kind node_letter) (eqb f.unit file) b.0 in
      let kind = eqb-true _ _ c.0 in
      let s = header_spelt xs f e in
      let range = (node_range f kind).0 s.ranges in
      let place : part xs 9 7 ≡ spell 3 file ++ spell 4 offset =
      sym (part_join xs 9 3 4)
      ∙ (λ i. (number_part xs 9 3 f.unit (omega arith) s.unit ∙ ap (spell 3) (eqb-true _ _ c.1)) i ++ (number_part xs 12 4 f.part (omega arith) s.part' ∙ ap (spell 4) (eqb-true _ _ b.1)) i) in
      let key : part xs 16 4 ≡ spell 4 p = number_part xs 16 4 f.key (omega arith) s.key ∙ ap (spell 4) (eqb-true _ _ a.1) in
      let second : second_right (part xs 20 8) ≡ true = rw s.second (le-leb f.second payload_size range.second) in
      and_intro (node_spelt file offset p xs) _
      (and_intro _ _
      (and_intro _ _ (and_intro _ _ (and_intro _ _ (eq-eqb _ _ (s.kind ∙ kind)) (rw place (same_refl (spell 3 file ++ spell 4 offset)))) (rw key (same_refl (spell 4 p)))) s.colon)
      (rw s.number (le-leb 1 f.number range.from_one)))
      second

  pub node_decides : in_range h ≡ true → node_spelt file offset p xs && second_right (part xs 20 8) ≡ node_with file offset p (header_of xs)
  node_decides r = both_ways _ _ (found r) (with_fields (header_of xs) refl)

  -- its numbers have at most three digits
  pub node_small : in_range h ≡ true → (offset < 1000) × (p < 1000)
  node_small r =
      let range = (node_range h refl).0 r in
      let below = plan_below file offset _ (place_at_lem file_plan file offset range.offset) in
      (omega arith, omega (arith, range.position))

-- ---- a whole node: its header but the second number, the closing, and that number
exchanged : (a b c : Bool) → (a && b) && c ≡ (a && c) && b
exchanged false b c = refl
exchanged true false c = sym (and-failed c)
exchanged true true c = sym (and-passed c)

pub whole_node-parts : (page : List ℕ) (file offset p : ℕ) → length page ≡ page_size → in_range (node_frame 1 file offset p 0) ≡ true
    → (node_spelt file offset p (part page 0 header_size) && closed page) && second_right (part (part page 0 header_size) 20 8) ≡ whole_node file offset p (form_of page)
whole_node-parts page file offset p l r =
    let xs = part page 0 header_size in
    exchanged (node_spelt file offset p xs) (closed page) (second_right (part xs 20 8))
    ∙ ap (λ (b : Bool). b && closed page) (node_decides xs file offset p (part_length page 0 header_size (omega arith)) r)
    ∙ whole_node_decides page file offset p
