-- Tests of headers and pages against fields that they must have: by comparing bytes.
use Prim.Native.Nat.{ℕ, ◌≤◌}
use native.Mathlib.Omega.{arith}
use mathlib.Core.Path.{◌≡◌, refl, sym, ap, ◌∙◌}
use mathlib.Core.Bool.{Bool, true, false, ◌&&◌}
use mathlib.Core.List.{List, ◌∷◌, ◌++◌, append_assoc}
use lib.ListN.{length, length-append}
use lib.Dec.{eqb}
use borrow.Author.Tests.{eqb-true, eq-eqb}
use Rattle.base.specs.Part.{part, splice}
use Rattle.base.specs.Each.{same}
use Rattle.base.proofs.Choice.{and-true, and-passed, true-false, both_ways}
use Rattle.base.proofs.Eachs.{same_true, same_refl}
use Rattle.page.specs.Frame.{header_size, colon_space, closing}
use Rattle.page.specs.Column.{spell}
use Rattle.page.specs.Header.{in_range, header_bytes, header_of, same_frame, header_with, node_with, with_part}
use Rattle.page.specs.Page.{page_bytes, page_like}
use Rattle.page.specs.Form.{is_empty, closed, form_of, whole_with, whole_node}
use Rattle.page.specs.declared.Frame.{Frame}
use Rattle.std.specs.Prelude.{Option, Some, None}
use Rattle.page.specs.declared.Form.{Form}
use Rattle.page.specs.declared.Form.TheVariants.{Empty, Whole, Torn, Spoilt}
use Rattle.page.proofs.Slices.{splice_middle}
use Rattle.page.proofs.Column.{length-spell}
use Rattle.page.proofs.HeaderLaws.{header_read, header_is}
use Rattle.page.proofs.FormLaws.{form_from, form_from_lem}

-- ---- headers field by field
frame_is : (f h : Frame) → f.kind ≡ h.kind → f.number ≡ h.number → f.unit ≡ h.unit → f.part ≡ h.part → f.key ≡ h.key → f.second ≡ h.second → f ≡ h
frame_is f h a b c d k l = λ i. record { kind = a i; number = b i; unit = c i; part = d i; key = k i; second = l i }

pub same_frame_lem : (f h : Frame) → same_frame f h ≡ true → f ≡ h
same_frame_lem f h e =
    let a = and-true _ (eqb f.second h.second) e in
    let b = and-true _ (eqb f.key h.key) a.0 in
    let c = and-true _ (eqb f.part h.part) b.0 in
    let d = and-true _ (eqb f.unit h.unit) c.0 in
    let g = and-true (eqb f.kind h.kind) (eqb f.number h.number) d.0 in
    frame_is f h (eqb-true _ _ g.0) (eqb-true _ _ g.1) (eqb-true _ _ d.1) (eqb-true _ _ c.1) (eqb-true _ _ b.1) (eqb-true _ _ a.1)

pub frame_same : (f h : Frame) → f ≡ h → same_frame f h ≡ true
frame_same f h e =
    rw e
    (rw (
      eq-eqb h.kind h.kind refl,
      eq-eqb h.number h.number refl,
      eq-eqb h.unit h.unit refl,
      eq-eqb h.part h.part refl,
      eq-eqb h.key h.key refl,
      eq-eqb h.second h.second refl,
    ))

pub whole_with_lem : (h : Frame) (m : Form) → whole_with h m ≡ true → m ≡ Whole h
whole_with_lem h Empty e = absurd (true-false e refl)
whole_with_lem h (Whole f) e = ap Whole (same_frame_lem f h e)
whole_with_lem h (Torn f) e = absurd (true-false e refl)
whole_with_lem h Spoilt e = absurd (true-false e refl)

pub with_whole : (h : Frame) (m : Form) → m ≡ Whole h → whole_with h m ≡ true
with_whole h m e = rw e (frame_same h h refl)

-- ---- a field put into a header's bytes
module _ (f : Frame) (n : ℕ) where
  before_unit : length (f.kind ∷ spell 8 f.number) ≡ 9
  before_unit = omega (arith, length-spell 8 f.number (omega arith))

  before-part : length (f.kind ∷ (spell 8 f.number ++ spell 3 f.unit)) ≡ 12
  before-part = simp length-append (omega (arith, before_unit, length-spell 3 f.unit (omega arith)))

  widths : (w a b : ℕ) → 1 ≤ w → length (spell w a) ≡ length (spell w b)
  widths w a b h = length-spell w a h ∙ sym (length-spell w b h)

  pub put_part_lem : splice (header_bytes f) 12 (spell 4 n) ≡ header_bytes (with_part n f)
  unfolding header_bytes
  put_part_lem =
      let tail = spell 4 f.key ++ (spell 8 f.second ++ colon_space) in
      let p = f.kind ∷ (spell 8 f.number ++ spell 3 f.unit) in
      let split : (q : List ℕ) → f.kind ∷ (spell 8 f.number ++ (spell 3 f.unit ++ (q ++ tail))) ≡ p ++ (q ++ tail) =
      λ q. ap (λ (t : List ℕ). f.kind ∷ t) (sym (append_assoc (spell 8 f.number) (spell 3 f.unit) (q ++ tail))) in
      ap (λ (t : List ℕ). splice t 12 (spell 4 n)) (split (spell 4 f.part))
      ∙ splice_middle p (spell 4 f.part) tail (spell 4 n) 12 before-part (widths 4 f.part n (omega arith))
      ∙ sym (split (spell 4 n))

-- a page of a header with another part
pub page_like_lem : (f : Frame) (n : ℕ) (payload : List ℕ) → page_like (header_bytes f) n payload ≡ page_bytes (with_part n f) payload
unfolding page_like page_bytes
page_like_lem f n payload = ap (λ (xs : List ℕ). xs ++ (payload ++ closing)) (put_part_lem f n)

-- ---- a given header, by its spelling
header_with_lem : (h : Frame) (m : Option Frame) → header_with h m ≡ true → m ≡ Some h
header_with_lem h (Some f) e = ap Some (same_frame_lem f h e)
header_with_lem h None e = absurd (true-false e refl)

pub spelling_decides : (xs : List ℕ) (f : Frame) → length xs ≡ header_size → in_range f ≡ true → same xs (header_bytes f) ≡ header_with f (header_of xs)
spelling_decides xs f l r =
    both_ways _ _
    (λ t. let q : header_of xs ≡ Some f = ap header_of (same_true xs (header_bytes f) t) ∙ header_read f r in rw q (frame_same f f refl))
    (λ t. rw (header_is xs f l (header_with_lem f (header_of xs) t)) (same_refl (header_bytes f)))

-- ---- whole pages
pub and-failed : (a : Bool) → a && false ≡ false
and-failed true = refl
and-failed false = refl

-- a test of the header that holds of no other than a header, and the closing
module _ (test : Option Frame → Bool) (none : test None ≡ false) where
  abbrev test_whole : Form → Bool
  test_whole Empty = false
  test_whole (Whole f) = test (Some f)
  test_whole (Torn f) = false
  test_whole Spoilt = false

  by_closing : (h : Option Frame) (c e : Bool) → test h && c ≡ test_whole (form_from h c e)
  by_closing (Some g) true e = and-passed (test (Some g))
  by_closing (Some g) false e = and-failed (test (Some g))
  by_closing None c true = rw none
  by_closing None c false = rw none

  closing_decides : (page : List ℕ) → test (header_of (part page 0 header_size)) && closed page ≡ test_whole (form_of page)
  closing_decides page = rw (form_from_lem page) (by_closing (header_of (part page 0 header_size)) (closed page) (is_empty page))

module _ (page : List ℕ) where
  pub whole_decides : (f : Frame) → header_with f (header_of (part page 0 header_size)) && closed page ≡ whole_with f (form_of page)
  whole_decides f = closing_decides (header_with f) refl page ∙ go (form_of page)
    where
      go : (m : Form) → test_whole (header_with f) refl m ≡ whole_with f m
      go Empty = refl
      go (Whole g) = refl
      go (Torn g) = refl
      go Spoilt = refl

  pub whole_node_decides : (file offset p : ℕ) → node_with file offset p (header_of (part page 0 header_size)) && closed page ≡ whole_node file offset p (form_of page)
  whole_node_decides file offset p = closing_decides (node_with file offset p) refl page ∙ go (form_of page)
    where
      go : (m : Form) → test_whole (node_with file offset p) refl m ≡ whole_node file offset p m
      go Empty = refl
      go (Whole g) = refl
      go (Torn g) = refl
      go Spoilt = refl
