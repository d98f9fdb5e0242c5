-- Laws of headers: what is written is what is read, and a header has one spelling.
use Prim.Native.Nat.{ℕ, ◌+◌, ◌<◌}
use native.Mathlib.Omega.{arith}
use mathlib.Core.Path.{◌≡◌, refl, sym, ap, ◌∙◌}
use mathlib.Core.Bool.{Bool, true, false, cond, ◌&&◌}
use mathlib.Core.List.{List, [], ◌∷◌, ◌++◌, append_assoc, append-nil}
use lib.ListN.{length, get_or, drop, set, replicate, length-append, length-drop, drop_of_length-le, take-append-drop}
use lib.Seq.{drop-drop, drop-cons}
use borrow.Rule.Slice.PartMut.{put_mid}
use Rattle.base.specs.Part.{part, splice}
use Rattle.base.specs.Each.{Bytes, same}
use Rattle.base.proofs.Parts.{put_next, part-part}
use Rattle.base.proofs.Choice.{and-true, true-false}
use Rattle.base.proofs.Eachs.{same_true, same_refl, each_append}
use Rattle.page.specs.Frame.{header_size, colon_space, space}
use Rattle.page.specs.Column.{spell, number_in, number_then, pair_in}
use Rattle.page.specs.Word.{word_bytes}
use Rattle.page.specs.Header.{in_range, header_bytes, is_kind, is_event_letter, header_of}
use Rattle.std.specs.Prelude.{Option, Some, None}
use Rattle.std.specs.Bool.{then_some}
use Rattle.page.specs.declared.Frame.{Frame}
use Rattle.page.proofs.Slices.{part_front, part_past, part_back}
use Rattle.page.proofs.Column.{length-spell, number_spell, number_part, pair_then, pair_then_lem, bytes-spell}
use Rattle.page.proofs.Counted.{number_spaces}
use Rattle.page.proofs.Spellings.{high_spaces}
use Rattle.page.proofs.WordLaws.{part-four, part_join}
use Rattle.page.proofs.Ranges.{other_kind, event-second, in_range-fits}

-- ---- an option by a test
pub then_if : {A : Type 0} (b : Bool) (x : A) → then_some b x ≡ cond b (Some x) None
then_if true x = refl
then_if false x = refl

-- ---- lengths
module _ (f : Frame) where
  ln : length (spell 8 f.number) ≡ 8
  ln = length-spell 8 f.number (omega arith)

  lu : length (spell 3 f.unit) ≡ 3
  lu = length-spell 3 f.unit (omega arith)

  lp : length (spell 4 f.part) ≡ 4
  lp = length-spell 4 f.part (omega arith)

  lk : length (spell 4 f.key) ≡ 4
  lk = length-spell 4 f.key (omega arith)

  ls : length (spell 8 f.second) ≡ 8
  ls = length-spell 8 f.second (omega arith)

  pub length-header : length (header_bytes f) ≡ header_size
  unfolding header_bytes
  length-header = simp length-append (omega (arith, ln, lu, lp, lk, ls))

-- ---- the fields of a header written one after the other
splice_next : (p q ys : List ℕ) (a : ℕ) → length p ≡ a → splice (p ++ q) a ys ≡ (p ++ ys) ++ drop (length ys) q
unfolding splice
splice_next p q ys a h = put_next p q ys a (length ys) h

regroup : (b c d e f g : List ℕ) → (((((b ++ c) ++ d) ++ e) ++ f) ++ g) ++ [] ≡ b ++ (c ++ (d ++ (e ++ (f ++ g))))
regroup b c d e f g = simp (append_assoc, append-nil)

module _ (x : List ℕ) (k : ℕ) (b c d e f g : List ℕ) (h : length x ≡ 1 + length b + length c + length d + length e + length f + length g) where
  fields_written : (i2 i3 i4 i5 i6 i7 : ℕ) → i2 ≡ 1 + length b → i3 ≡ i2 + length c → i4 ≡ i3 + length d → i5 ≡ i4 + length e
      → i6 ≡ i5 + length f → i7 ≡ length g
      → set (put_mid i6 i7 (splice (splice (splice (splice (splice x 1 b) i2 c) i3 d) i4 e) i5 f) g) 0 k
      ≡ k ∷ (b ++ (c ++ (d ++ (e ++ (f ++ g)))))
  fields_written i2 i3 i4 i5 i6 i7 h2 h3 h4 h5 h6 h7 = go x h
    where
      go : (x : List ℕ) → length x ≡ 1 + length b + length c + length d + length e + length f + length g
          → set (put_mid i6 i7 (splice (splice (splice (splice (splice x 1 b) i2 c) i3 d) i4 e) i5 f) g) 0 k
          ≡ k ∷ (b ++ (c ++ (d ++ (e ++ (f ++ g)))))
      go [] h = absurd (omega arith)
      go (y ∷ ys) h =
          rw (
            splice_next (y ∷ []) ys b 1 refl,
            splice_next (y ∷ b) (drop (length b) ys) c i2 (omega arith),
            splice_next (y ∷ (b ++ c)) _ d i3 (simp length-append (omega arith)),
            splice_next (y ∷ ((b ++ c) ++ d)) _ e i4 (simp length-append (omega arith)),
            splice_next (y ∷ (((b ++ c) ++ d) ++ e)) _ f i5 (simp length-append (omega arith)),
            put_next (y ∷ ((((b ++ c) ++ d) ++ e) ++ f)) _ g i6 i7 (simp length-append (omega arith)),
            drop_of_length-le (drop (length f) (drop (length e) (drop (length d) (drop (length c) (drop (length b) ys))))) {i = i7} (simp length-drop (omega arith)),
          )
          (ap (λ (t : List ℕ). k ∷ t) (regroup b c d e f g))

-- the numbers of f written into x, each at its columns
abbrev numbers_in : List ℕ → Frame → List ℕ
numbers_in x f =
    let number = splice x 1 (spell 8 f.number) in
    let unit = splice number 9 (spell 3 f.unit) in
    let part' = splice unit 12 (spell 4 f.part) in
    let key = splice part' 16 (spell 4 f.key) in
    splice key 20 (spell 8 f.second)

pub header_written : (x : List ℕ) (f : Frame) → length x ≡ header_size → set (put_mid 28 2 (numbers_in x f) colon_space) 0 f.kind ≡ header_bytes f
unfolding header_bytes
header_written x f h =
    let b = ln f in
    let c = lu f in
    let d = lp f in
    let e = lk f in
    let g = ls f in
    fields_written x f.kind (spell 8 f.number) (spell 3 f.unit) (spell 4 f.part) (spell 4 f.key) (spell 8 f.second) colon_space
    (omega arith) 9 12 16 20 28 2 (omega arith) (omega arith) (omega arith) (omega arith) (omega arith) refl

-- ---- the fields of a header read again
-- what a header's columns hold, from the second number back to the first
abbrev with_second : List ℕ → ℕ → ℕ → ℕ → ℕ → ℕ → Option Frame
with_second xs number unit part' key second =
    let f : Frame = record { kind = get_or xs 0 0; number = number; unit = unit; part = part'; key = key; second = second } in
    cond (same (part xs 28 2) colon_space && in_range f) (Some f) None

abbrev with_key : List ℕ → ℕ → ℕ → ℕ → ℕ → Option Frame
with_key xs number unit part' key = number_then (number_in (part xs 20 8)) None (with_second xs number unit part' key)

abbrev with_part : List ℕ → ℕ → ℕ → ℕ → Option Frame
with_part xs number unit part' = number_then (number_in (part xs 16 4)) None (with_key xs number unit part')

abbrev with_unit : List ℕ → ℕ → ℕ → Option Frame
with_unit xs number unit = number_then (number_in (part xs 12 4)) None (with_part xs number unit)

abbrev with_number : List ℕ → ℕ → Option Frame
with_number xs number = number_then (number_in (part xs 9 3)) None (with_unit xs number)

then_is : (n : Option ℕ) (g : ℕ → Option Frame) (f : Frame) → number_then n None g ≡ Some f → (k : ℕ) × (n ≡ Some k) × (g k ≡ Some f)
then_is (Some k) g f e = (k, refl, e)
then_is None g f e = absurd (let z : ◌≡◌ {A = ℕ} 0 1 = cc in omega arith)

then_invalid : (n : Option ℕ) (g : ℕ → Option Frame) → ((k : ℕ) → g k ≡ None) → number_then n None g ≡ None
then_invalid (Some k) g h = h k
then_invalid None g h = refl

cond_is : (b : Bool) (g f : Frame) → cond b (Some g) None ≡ Some f → (b ≡ true) × (g ≡ f)
cond_is true g f e = (refl, cc)
cond_is false g f e = absurd (let z : ◌≡◌ {A = ℕ} 0 1 = cc in omega arith)

-- ---- bytes are the header f exactly where each field is spelt and in range
pub record Spelt (xs : List ℕ) (f : Frame) : Type 0 where
  pub kind : get_or xs 0 0 ≡ f.kind
  pub number : number_in (part xs 1 8) ≡ Some f.number
  pub unit : number_in (part xs 9 3) ≡ Some f.unit
  pub part' : number_in (part xs 12 4) ≡ Some f.part
  pub key : number_in (part xs 16 4) ≡ Some f.key
  pub second : number_in (part xs 20 8) ≡ Some f.second
  pub colon : same (part xs 28 2) colon_space ≡ true
  pub ranges : in_range f ≡ true

pub spelt_header : (xs : List ℕ) (f : Frame) → Spelt xs f → header_of xs ≡ Some f
unfolding header_of
spelt_header xs f s = rw (s.number, s.unit, s.part', s.key, s.second, s.colon, s.kind, s.ranges)

pub header_spelt : (xs : List ℕ) (f : Frame) → header_of xs ≡ Some f → Spelt xs f
unfolding header_of
header_spelt xs f e =
    let a = then_is (number_in (part xs 1 8)) (with_number xs) f e in
    let b = then_is (number_in (part xs 9 3)) (with_unit xs a.0) f a.2 in
    let c = then_is (number_in (part xs 12 4)) (with_part xs a.0 b.0) f b.2 in
    let d = then_is (number_in (part xs 16 4)) (with_key xs a.0 b.0 c.0) f c.2 in
    let g = then_is (number_in (part xs 20 8)) (with_second xs a.0 b.0 c.0 d.0) f d.2 in
    let h : Frame = record { kind = get_or xs 0 0; number = a.0; unit = b.0; part = c.0; key = d.0; second = g.0 } in
    let i = cond_is (same (part xs 28 2) colon_space && in_range h) h f g.2 in
    let t = and-true (same (part xs 28 2) colon_space) (in_range h) i.0 in
    let q = i.1 in
    record {
      kind = ap (λ (f : Frame). f.kind) q;
      number = a.1 ∙ ap (λ (f : Frame). Some f.number) q;
      unit = b.1 ∙ ap (λ (f : Frame). Some f.unit) q;
      part' = c.1 ∙ ap (λ (f : Frame). Some f.part) q;
      key = d.1 ∙ ap (λ (f : Frame). Some f.key) q;
      second = g.1 ∙ ap (λ (f : Frame). Some f.second) q;
      colon = t.0;
      ranges = rw q at t.1;
    }

-- ---- what is no header, by the kind letter or the end alone
invalid_by : (xs : List ℕ) → ((n u p k s : ℕ) → with_second xs n u p k s ≡ None) → header_of xs ≡ None
unfolding header_of
invalid_by xs h =
    then_invalid (number_in (part xs 1 8)) (with_number xs) λ n.
    then_invalid (number_in (part xs 9 3)) (with_unit xs n) λ u.
    then_invalid (number_in (part xs 12 4)) (with_part xs n u) λ p.
    then_invalid (number_in (part xs 16 4)) (with_key xs n u p) λ k.
    then_invalid (number_in (part xs 20 8)) (with_second xs n u p k) (h n u p k)

pub no_kind : (xs : List ℕ) → is_kind (get_or xs 0 0) ≡ false → header_of xs ≡ None
no_kind xs h =
    invalid_by xs λ n u p k s.
    let f : Frame = record { kind = get_or xs 0 0; number = n; unit = u; part = p; key = k; second = s } in
    rw (other_kind f h) (neither (same (part xs 28 2) colon_space) (Some f))
  where
    neither : (b : Bool) (h : Option Frame) → cond (b && false) h None ≡ None
    neither true h = refl
    neither false h = refl

pub no_colon : (xs : List ℕ) → same (part xs 28 2) colon_space ≡ false → header_of xs ≡ None
no_colon xs h = invalid_by xs λ n u p k s. rw h

-- ---- a second number of at most four digits: spaces stand in the first four of its columns, and the others hold it
abbrev pub four_spaces : List ℕ
four_spaces = replicate 4 space

pub small_spaces : (xs : List ℕ) (n : ℕ) → length xs ≡ header_size → n < 10_000 → number_in (part xs 20 8) ≡ Some n → part xs 20 4 ≡ four_spaces
unfolding word_bytes
small_spaces xs n l h e =
    sym (part-part xs 20 8 0 4 (omega arith))
    ∙ ap (λ (t : List ℕ). part t 0 4) (number_part xs 20 8 n (omega arith) e ∙ sym (high_spaces n h))
    ∙ part_front four_spaces (spell 4 n) 4 refl

pub last_columns : (xs : List ℕ) → length xs ≡ header_size → part xs 20 4 ≡ four_spaces → number_in (part xs 20 8) ≡ number_in (part xs 24 4)
last_columns xs l e =
    ap number_in (sym (part_join xs 20 4 4) ∙ ap (λ (t : List ℕ). t ++ part xs 24 4) e)
    ∙ rw (part-four xs 24 (omega arith)) (number_spaces 4 _ _)

-- ---- the header of a node or a cut-off: its second number is small
pub no_second : (xs : List ℕ) → length xs ≡ header_size → is_event_letter (get_or xs 0 0) ≡ true → same (part xs 20 4) four_spaces ≡ false
    → header_of xs ≡ None
no_second xs l k e = go (header_of xs) refl
  where
    go : (h : Option Frame) → header_of xs ≡ h → h ≡ None
    go None q = refl
    go (Some f) q =
        let s = header_spelt xs f q in
        let few = event-second f (rw s.kind at k) s.ranges in
        absurd (true-false (rw (small_spaces xs f.second l (omega arith) s.second) (same_refl four_spaces)) e)

-- its numbers but the first are read by pairs, the second number by its last four columns
abbrev event_with : List ℕ → ℕ → ℕ → ℕ → ℕ → ℕ → Option Frame
event_with xs number unit part' key second =
    let f : Frame = record { kind = get_or xs 0 0; number = number; unit = unit; part = part'; key = key; second = second } in
    cond (in_range f) (Some f) None

abbrev pub event_header : List ℕ → Option Frame
event_header xs =
    number_then (number_in (part xs 1 8)) None λ number.
    pair_then (pair_in (part xs 9 3) (part xs 12 4)) None λ unit part'.
    pair_then (pair_in (part xs 16 4) (part xs 24 4)) None (event_with xs number unit part')

pub event-read : (xs : List ℕ) → length xs ≡ header_size → same (part xs 20 4) four_spaces ≡ true → same (part xs 28 2) colon_space ≡ true → header_of xs ≡ event_header xs
unfolding header_of
event-read xs l s t =
    rw (last_columns xs l (same_true (part xs 20 4) four_spaces s), t)
    (λ i.
    number_then (number_in (part xs 1 8)) None λ number.
    pair_then_lem (part xs 9 3) (part xs 12 4) None (λ unit part'. pair_then_lem (part xs 16 4) (part xs 24 4) None (event_with xs number unit part') i) i)

-- ---- what is written is what is read
module _ (k : ℕ) (a b c d e g : List ℕ) (la : length a ≡ 8) (lb : length b ≡ 3) (lc : length c ≡ 4) (ld : length d ≡ 4) (le : length e ≡ 8) (lg : length g ≡ 2) where
  fields_found : (xs : List ℕ) → xs ≡ k ∷ (a ++ (b ++ (c ++ (d ++ (e ++ g)))))
      → (part xs 1 8 ≡ a) × (part xs 9 3 ≡ b) × (part xs 12 4 ≡ c) × (part xs 16 4 ≡ d) × (part xs 20 8 ≡ e) × (part xs 28 2 ≡ g)
  fields_found xs h =
      let rest : (n w : ℕ) → part xs (1 + n) w ≡ part (a ++ (b ++ (c ++ (d ++ (e ++ g))))) n w = λ n w. rw h (part_past (k ∷ []) _ 1 n w refl) in (
        rest 0 8 ∙ part_front a _ 8 la,
        rest 8 3 ∙ part_past a _ 8 0 3 la ∙ part_front b _ 3 lb,
        rest 11 4 ∙ part_past a _ 8 3 4 la ∙ part_past b _ 3 0 4 lb ∙ part_front c _ 4 lc,
        rest 15 4 ∙ part_past a _ 8 7 4 la ∙ part_past b _ 3 4 4 lb ∙ part_past c _ 4 0 4 lc ∙ part_front d _ 4 ld,
        rest 19 8 ∙ part_past a _ 8 11 8 la ∙ part_past b _ 3 8 8 lb ∙ part_past c _ 4 4 8 lc ∙ part_past d _ 4 0 8 ld ∙ part_front e _ 8 le,
        rest 27 2 ∙ part_past a _ 8 19 2 la ∙ part_past b _ 3 16 2 lb ∙ part_past c _ 4 12 2 lc ∙ part_past d _ 4 8 2 ld ∙ part_past e _ 8 0 2 le ∙ part_back [] g 0 2 refl lg,
      )

abbrev Byte : ℕ → Type 0
Byte x = x < 256

module _ (f : Frame) where
  pub header-kind : get_or (header_bytes f) 0 0 ≡ f.kind
  unfolding header_bytes
  header-kind = refl

  pub bytes-header : in_range f ≡ true → Bytes (header_bytes f)
  unfolding header_bytes
  bytes-header e = (
    (in_range-fits f e).kind,
    each_append Byte (spell 8 f.number) _ (bytes-spell 8 f.number)
        (each_append Byte (spell 3 f.unit) _ (bytes-spell 3 f.unit)
        (each_append Byte (spell 4 f.part) _ (bytes-spell 4 f.part)
        (each_append Byte (spell 4 f.key) _ (bytes-spell 4 f.key)
        (each_append Byte (spell 8 f.second) colon_space (bytes-spell 8 f.second) (omega arith, (omega arith, tt)))))),
  )

  pub written_spelt : in_range f ≡ true → Spelt (header_bytes f) f
  unfolding header_bytes
  written_spelt e =
      let w = in_range-fits f e in
      let p = fields_found f.kind (spell 8 f.number) (spell 3 f.unit) (spell 4 f.part) (spell 4 f.key) (spell 8 f.second) colon_space
      (ln f) (lu f) (lp f) (lk f) (ls f) refl (header_bytes f) refl in
      record {
        kind = refl;
        number = ap number_in p.0 ∙ number_spell 8 f.number (omega arith) w.number;
        unit = ap number_in p.1 ∙ number_spell 3 f.unit (omega arith) w.unit;
        part' = ap number_in p.2 ∙ number_spell 4 f.part (omega arith) w.part;
        key = ap number_in p.3 ∙ number_spell 4 f.key (omega arith) w.key;
        second = ap number_in p.4 ∙ number_spell 8 f.second (omega arith) w.second;
        colon = rw p.5 (same_refl colon_space);
        ranges = e;
      }

  pub header_read : in_range f ≡ true → header_of (header_bytes f) ≡ Some f
  header_read e = spelt_header (header_bytes f) f (written_spelt e)

-- ---- one spelling
split_part : (xs : List ℕ) (a n : ℕ) → drop a xs ≡ part xs a n ++ drop (a + n) xs
unfolding part
split_part xs a n = sym (rw (← drop-drop n a xs) (take-append-drop n (drop a xs)))

pub spelt_bytes : (xs : List ℕ) (f : Frame) → length xs ≡ header_size → Spelt xs f → xs ≡ header_bytes f
unfolding header_bytes
spelt_bytes xs f h s =
    drop-cons xs 0 0 (omega arith)
    ∙ rw (
      split_part xs 1 8,
      split_part xs 9 3,
      split_part xs 12 4,
      split_part xs 16 4,
      split_part xs 20 8,
      split_part xs 28 2,
      drop_of_length-le xs {i = 30} (omega arith),
      s.kind,
      number_part xs 1 8 f.number (omega arith) s.number,
      number_part xs 9 3 f.unit (omega arith) s.unit,
      number_part xs 12 4 f.part (omega arith) s.part',
      number_part xs 16 4 f.key (omega arith) s.key,
      number_part xs 20 8 f.second (omega arith) s.second,
      same_true (part xs 28 2) colon_space s.colon,
    )

pub header_is : (xs : List ℕ) (f : Frame) → length xs ≡ header_size → header_of xs ≡ Some f → xs ≡ header_bytes f
header_is xs f h e = spelt_bytes xs f h (header_spelt xs f e)

pub header_range : (xs : List ℕ) (f : Frame) → header_of xs ≡ Some f → in_range f ≡ true
header_range xs f e = (header_spelt xs f e).ranges

pub one_header : (xs ys : List ℕ) (f : Frame) → length xs ≡ header_size → length ys ≡ header_size → header_of xs ≡ Some f → header_of ys ≡ Some f → xs ≡ ys
one_header xs ys f h k p q = header_is xs f h p ∙ sym (header_is ys f k q)
