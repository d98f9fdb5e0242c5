-- Laws of page forms: the form of a page that was programmed whole or in part, and what a form says of a page's bytes.
use Prim.Native.Nat.{ℕ, ◌+◌, ◌<◌, ◌≤◌}
use native.Mathlib.Omega.{arith}
use native.Mathlib.Decide.{dec_lt, ℕ_discrete}
use mathlib.Core.Path.{◌≡◌, refl, sym, ap, ◌∙◌}
use mathlib.Core.Logic.{◌⊎◌, inl, inr, ◌↔◌}
use mathlib.Core.Bool.{Bool, true, false, cond, ◌&&◌}
use mathlib.Core.List.{List, [], ◌∷◌, ◌++◌}
use lib.ListN.{length, get_or, replicate, length-replicate}
use lib.Dec.{eqb, ltb}
use borrow.Author.Tests.{eqb-true, eq-eqb, ne_eqb, lt-ltb, le-ltb}
use Rattle.base.specs.Part.{part}
use Rattle.base.specs.Each.{same, all_are}
use Rattle.base.proofs.Choice.{and-true, true-false}
use Rattle.base.proofs.Parts.{part-part, part_length}
use Rattle.base.proofs.Eachs.{same_true, same_refl, same_false, all_are-true, all_are-replicate}
use Rattle.page.specs.Frame.{header_size, payload_size, closing_size, page_size, closing_at, erased, closing, space}
use Rattle.page.specs.Column.{number_in}
use Rattle.std.specs.Prelude.{Option, Some, None}
use Rattle.page.specs.Header.{node_letter, cut_off_letter, keys_letter, commit_letter, node_frame, cut_off_frame, keys_frame, commit_frame, in_range, header_bytes, is_event_letter, header_of}
use Rattle.page.specs.Form.{is_empty, closed, form_by, form_of}
use Rattle.page.specs.Page.{page_bytes, enciphered, node_page, cut_off_page, keys_page, commit_page, payload_of, cut_page}
use Rattle.page.specs.declared.Frame.{Frame}
use Rattle.page.specs.declared.Form.{Form}
use Rattle.page.specs.declared.Form.TheVariants.{Empty, Whole, Torn, Spoilt}
use Rattle.page.proofs.Slices.{part-replicate, part_halves}
use Rattle.page.proofs.Ranges.{NodeRange, CutOffRange, KeysRange, CommitRange, node_range, cut_off_range, keys_range, commit_range, kinds}
use Rattle.page.proofs.HeaderLaws.{header_spelt, small_spaces, last_columns, header_read, header_is, header_range, no_kind, no_colon}
use Rattle.page.proofs.Pages.{enciphered-length, page-length, header_back, closing_back, cut-length, cut-whole, cut-before, cut-after}

-- ---- a form goes by the header, by whether the page is closed and whether it is empty
abbrev pub form_from : Option Frame → Bool → Bool → Form
form_from (Some f) closed empty = cond closed (Whole f) (Torn f)
form_from None closed empty = cond empty Empty Spoilt

pub form_from_lem : (page : List ℕ) → form_of page ≡ form_from (header_of (part page 0 header_size)) (closed page) (is_empty page)
unfolding form_of
form_from_lem page = go (header_of (part page 0 header_size))
  where
    go : (h : Option Frame) → form_by h page ≡ form_from h (closed page) (is_empty page)
    go (Some f) = refl
    go None = refl

from_whole : (h : Option Frame) (c e : Bool) (f : Frame) → form_from h c e ≡ Whole f → (h ≡ Some f) × (c ≡ true)
from_whole (Some g) true e f t = (cc, refl)
from_whole (Some g) false e f t = absurd (let z : ◌≡◌ {A = ℕ} 0 1 = cc in omega arith)
from_whole None c true f t = absurd (let z : ◌≡◌ {A = ℕ} 0 1 = cc in omega arith)
from_whole None c false f t = absurd (let z : ◌≡◌ {A = ℕ} 0 1 = cc in omega arith)

from_torn : (h : Option Frame) (c e : Bool) (f : Frame) → form_from h c e ≡ Torn f → (h ≡ Some f) × (c ≡ false)
from_torn (Some g) true e f t = absurd (let z : ◌≡◌ {A = ℕ} 0 1 = cc in omega arith)
from_torn (Some g) false e f t = (cc, refl)
from_torn None c true f t = absurd (let z : ◌≡◌ {A = ℕ} 0 1 = cc in omega arith)
from_torn None c false f t = absurd (let z : ◌≡◌ {A = ℕ} 0 1 = cc in omega arith)

from_empty : (h : Option Frame) (c e : Bool) → form_from h c e ≡ Empty → e ≡ true
from_empty (Some g) true e t = absurd (let z : ◌≡◌ {A = ℕ} 0 1 = cc in omega arith)
from_empty (Some g) false e t = absurd (let z : ◌≡◌ {A = ℕ} 0 1 = cc in omega arith)
from_empty None c true t = refl
from_empty None c false t = absurd (let z : ◌≡◌ {A = ℕ} 0 1 = cc in omega arith)

-- pages with the same header, the same closing and emptiness have the same form
pub form_agree : (p q : List ℕ) → part p 0 header_size ≡ part q 0 header_size → closed p ≡ closed q → is_empty p ≡ is_empty q → form_of p ≡ form_of q
form_agree p q h c e = form_from_lem p ∙ rw (h, c, e) (sym (form_from_lem q))

-- ---- what a form says of a page's bytes
module _ (page : List ℕ) (f : Frame) where
  pub whole_is : form_of page ≡ Whole f → (header_of (part page 0 header_size) ≡ Some f) × (closed page ≡ true)
  whole_is e = from_whole (header_of (part page 0 header_size)) (closed page) (is_empty page) f (sym (form_from_lem page) ∙ e)

  pub torn_is : form_of page ≡ Torn f → (header_of (part page 0 header_size) ≡ Some f) × (closed page ≡ false)
  torn_is e = from_torn (header_of (part page 0 header_size)) (closed page) (is_empty page) f (sym (form_from_lem page) ∙ e)

  pub is_whole : header_of (part page 0 header_size) ≡ Some f → closed page ≡ true → form_of page ≡ Whole f
  is_whole h c = form_from_lem page ∙ rw (h, c)

  pub is_torn : header_of (part page 0 header_size) ≡ Some f → closed page ≡ false → form_of page ≡ Torn f
  is_torn h c = form_from_lem page ∙ rw (h, c)

  -- its header is that of f, and f is in range
  pub whole_range : form_of page ≡ Whole f → in_range f ≡ true
  whole_range e = header_range (part page 0 header_size) f (whole_is e).0

  pub torn_range : form_of page ≡ Torn f → in_range f ≡ true
  torn_range e = header_range (part page 0 header_size) f (torn_is e).0

  module _ (l : length page ≡ page_size) where
    pub whole-header : form_of page ≡ Whole f → part page 0 header_size ≡ header_bytes f
    whole-header e = header_is (part page 0 header_size) f (part_length page 0 header_size (omega arith)) (whole_is e).0

    pub torn-header : form_of page ≡ Torn f → part page 0 header_size ≡ header_bytes f
    torn-header e = header_is (part page 0 header_size) f (part_length page 0 header_size (omega arith)) (torn_is e).0

    -- a whole page is its header, its payload and the closing
    pub whole-bytes : form_of page ≡ Whole f → page ≡ page_bytes f (payload_of page)
    unfolding page_bytes payload_of closed
    whole-bytes e =
        let n : ℕ = payload_size + closing_size in
        let back = part page header_size n in
        let two : back ≡ part page header_size payload_size ++ closing =
        sym (part_halves back payload_size closing_size (part_length page header_size n (omega arith)))
        ∙ rw (
          part-part page header_size n 0 payload_size (omega arith),
          part-part page header_size n payload_size closing_size (omega arith),
          same_true (part page closing_at closing_size) closing (whole_is e).1,
        ) in
        sym (part_halves page header_size n l) ∙ rw (whole-header e, two)

-- ---- the second number of a whole node: its last four columns hold it
module _ (page : List ℕ) (f : Frame) (l : length page ≡ page_size) (whole : form_of page ≡ Whole f) (node : f.kind ≡ node_letter) where
  node-second : (number_in (part page 24 4) ≡ Some f.second) × (f.second ≤ payload_size)
  node-second =
      let xs = part page 0 header_size in
      let n : length xs ≡ header_size = part_length page 0 header_size (omega arith) in
      let s = header_spelt xs f (whole_is page f whole).0 in
      let few = ((node_range f node).0 s.ranges).second in
      (ap number_in (sym (part-part page 0 header_size 24 4 (omega arith))) ∙ sym (last_columns xs n (small_spaces xs f.second n (omega arith) s.second)) ∙ s.second, few)

  pub whole-second : (n : ℕ) → number_in (part page 24 4) ≡ Some n → (n ≡ f.second) × (n ≤ payload_size)
  whole-second n e =
      let q : Some n ≡ Some f.second = sym e ∙ node-second.0 in
      let z : n ≡ f.second = cc in
      (z, omega (arith, node-second.1))

  pub no_misspelt : number_in (part page 24 4) ≡ None → ⊥
  no_misspelt e = let q : None ≡ Some f.second = sym e ∙ node-second.0 in let z : ◌≡◌ {A = ℕ} 0 1 = cc in omega arith

-- ---- empty pages
pub empty_part : (page : List ℕ) (a n : ℕ) → is_empty page ≡ true → a + n ≤ length page → part page a n ≡ replicate n erased
unfolding is_empty
empty_part page a n e h = rw (all_are-true erased page e) (part-replicate (length page) a n erased h)

-- an erased byte starts no header
pub empty_header : (page : List ℕ) → is_empty page ≡ true → header_of (part page 0 header_size) ≡ None
unfolding is_empty all_are part
empty_header [] e = no_kind [] refl
empty_header (x ∷ xs) e =
    let b = eqb-true x erased (and-true (eqb x erased) (all_are erased xs) e).0 in
    no_kind (part (x ∷ xs) 0 header_size) (rw b)

pub empty_form : (page : List ℕ) → (form_of page ≡ Empty) ↔ (is_empty page ≡ true)
empty_form page = (
  λ e. from_empty (header_of (part page 0 header_size)) (closed page) (is_empty page) (sym (form_from_lem page) ∙ e),
  λ e. form_from_lem page ∙ rw (empty_header page e, e),
)

-- a page that begins with the letter of a node or a cut-off is not empty, so that without a header it is spoilt
event_used : (page : List ℕ) → is_event_letter (get_or page 0 0) ≡ true → is_empty page ≡ false
unfolding is_empty all_are
event_used [] h = absurd (true-false h refl)
event_used (x ∷ xs) h = go (eqb x erased) refl
  where
    go : (b : Bool) → eqb x erased ≡ b → b && all_are erased xs ≡ false
    go true e = absurd (true-false (rw (eqb-true x erased e) at h) refl)
    go false e = refl

pub event_spoilt : (page : List ℕ) → is_event_letter (get_or page 0 0) ≡ true → header_of (part page 0 header_size) ≡ None → form_of page ≡ Spoilt
event_spoilt page h e = form_from_lem page ∙ rw (e, event_used page h)

-- ---- the form of what a program leaves
-- a letter is no erased byte
kind_written : (f : Frame) → in_range f ≡ true → f.kind ≡ erased → ⊥
kind_written f e h = go (kinds f e)
  where
    go : (f.kind ≡ node_letter) ⊎ (f.kind ≡ cut_off_letter) ⊎ (f.kind ≡ keys_letter) ⊎ (f.kind ≡ commit_letter) → ⊥
    go (inl k) = omega arith
    go (inr (inl k)) = omega arith
    go (inr (inr (inl k))) = omega arith
    go (inr (inr (inr k))) = omega arith

-- two bytes whose last is erased are no others
last_erased_lem : (xs : List ℕ) (a x y : ℕ) → part xs (a + 1) 1 ≡ erased ∷ [] → (y ≡ erased → ⊥) → same (part xs a 2) (x ∷ (y ∷ [])) ≡ false
unfolding part
last_erased_lem xs a x y h d =
    same_false (part xs a 2) (x ∷ (y ∷ [])) λ e.
    d (sym (ap (λ (l : List ℕ). get_or l 0 0) (sym h ∙ sym (part-part xs a 2 1 1 (omega arith)) ∙ ap (λ (l : List ℕ). part l 1 1) e)))

-- where no byte was written the page is empty
pub cut-none : (page : List ℕ) → cut_page 0 page ≡ replicate page_size erased
unfolding cut_page
cut-none page = refl

form_none : (page : List ℕ) → form_of (cut_page 0 page) ≡ Empty
unfolding is_empty
form_none page = (empty_form (cut_page 0 page)).1 (rw (cut-none page) (all_are-replicate erased page_size))

-- the form of a page of f after its first k bytes
abbrev pub cut_form : ℕ → Frame → Form
cut_form k f = cond (eqb k 0) Empty (cond (ltb k header_size) Spoilt (cond (ltb k page_size) (Torn f) (Whole f)))

module _ (k : ℕ) (f : Frame) where
  pub cut_empty : k ≡ 0 → cut_form k f ≡ Empty
  cut_empty z = rw (eq-eqb k 0 z)

  pub cut_spoilt : 0 < k → k < header_size → cut_form k f ≡ Spoilt
  cut_spoilt a b = rw (ne_eqb k 0 (λ z. omega arith), lt-ltb k header_size b)

  pub cut-torn : header_size ≤ k → k < page_size → cut_form k f ≡ Torn f
  cut-torn a b = rw (ne_eqb k 0 (λ z. omega arith), le-ltb k header_size a, lt-ltb k page_size b)

  pub cut_all : page_size ≤ k → cut_form k f ≡ Whole f
  cut_all a = rw (ne_eqb k 0 (λ z. omega arith), le-ltb k header_size (omega arith), le-ltb k page_size a)

module _ (f : Frame) (payload : List ℕ) (ranges : in_range f ≡ true) (l : length payload ≡ payload_size) where
  pub form_page : form_of (page_bytes f payload) ≡ Whole f
  unfolding closed
  form_page = is_whole (page_bytes f payload) f (rw (header_back f payload l) (header_read f ranges)) (rw (closing_back f payload l) (same_refl closing))

  cut-header : (k : ℕ) → 0 < k → k < header_size → form_of (cut_page k (page_bytes f payload)) ≡ Spoilt
  cut-header k a b = form_from_lem cut ∙ rw (no_header, not_empty (is_empty cut) refl)
    where
      p : List ℕ
      p = page_bytes f payload

      cut : List ℕ
      cut = cut_page k p

      m : length p ≡ page_size
      m = page-length f payload l

      no_header : header_of (part cut 0 header_size) ≡ None
      no_header =
          no_colon (part cut 0 header_size)
          (rw (part-part cut 0 header_size 28 2 (omega arith)) (last_erased_lem cut 28 0x3a 0x20 (cut-after k p m 29 1 (omega arith) (omega arith)) (λ e. omega arith)))

      first : part p 0 1 ≡ f.kind ∷ []
      first = unfold page_bytes header_bytes part in refl

      not_empty : (e : Bool) → is_empty cut ≡ e → e ≡ false
      not_empty false q = refl
      not_empty true q =
          let n = cut-length k p m in
          absurd (kind_written f ranges (ap (λ (t : List ℕ). get_or t 0 0) (sym first ∙ sym (cut-before k p m 0 1 a (omega arith)) ∙ empty_part cut 0 1 q (omega arith))))

  cut-payload : (k : ℕ) → header_size ≤ k → k < page_size → form_of (cut_page k (page_bytes f payload)) ≡ Torn f
  unfolding closed
  cut-payload k a b =
      let p = page_bytes f payload in
      let m = page-length f payload l in
      is_torn (cut_page k p) f
      (rw (cut-before k p m 0 header_size (omega arith) (omega arith), header_back f payload l) (header_read f ranges))
      (last_erased_lem (cut_page k p) closing_at 0x0d 0x0a (cut-after k p m 255 1 (omega arith) (omega arith)) (λ e. omega arith))

  pub form_cut : (k : ℕ) → form_of (cut_page k (page_bytes f payload)) ≡ cut_form k f
  form_cut k =
      elim (ℕ_discrete k 0) [
        | yes z ↦ rw (cut_empty k f z, z) (form_none (page_bytes f payload))
        | no z ↦ elim (dec_lt k header_size) [
          | yes a ↦ rw (cut_spoilt k f (omega arith) a) (cut-header k (omega arith) a)
          | no a ↦ elim (dec_lt k page_size) [
            | yes b ↦ rw (cut-torn k f (omega arith) b) (cut-payload k (omega arith) b)
            | no b ↦ rw (cut_all k f (omega arith), cut-whole k (page_bytes f payload) (page-length f payload l) (omega arith)) form_page
          ]
        ]
      ]

-- ---- the pages of each kind
pub form_node : (k sequence file offset position second : ℕ) (key bytes : List ℕ) → NodeRange (node_frame sequence file offset position second) → length bytes ≡ payload_size
    → form_of (cut_page k (node_page sequence file offset position second key bytes)) ≡ cut_form k (node_frame sequence file offset position second)
unfolding node_page
form_node k sequence file offset position second key bytes r l =
    let f = node_frame sequence file offset position second in
    form_cut f (enciphered key bytes) ((node_range f refl).1 r) (enciphered-length key bytes ∙ l) k

pub form_cut_off : (k sequence file offset : ℕ) → CutOffRange (cut_off_frame sequence file offset)
    → form_of (cut_page k (cut_off_page sequence file offset)) ≡ cut_form k (cut_off_frame sequence file offset)
unfolding cut_off_page
form_cut_off k sequence file offset r =
    let f = cut_off_frame sequence file offset in
    form_cut f (replicate payload_size space) ((cut_off_range f refl).1 r) (length-replicate payload_size space) k

pub form_keys : (k epoch block i : ℕ) (keys : List ℕ) → KeysRange (keys_frame epoch block i) → length keys ≡ payload_size
    → form_of (cut_page k (keys_page epoch block i keys)) ≡ cut_form k (keys_frame epoch block i)
unfolding keys_page
form_keys k epoch block i keys r l =
    let f = keys_frame epoch block i in
    form_cut f keys ((keys_range f refl).1 r) l k

pub form_commit : (k epoch i covered : ℕ) (payload : List ℕ) → CommitRange (commit_frame epoch i covered) → length payload ≡ payload_size
    → form_of (cut_page k (commit_page epoch i covered payload)) ≡ cut_form k (commit_frame epoch i covered)
unfolding commit_page
form_commit k epoch i covered payload r l =
    let f = commit_frame epoch i covered in
    form_cut f payload ((commit_range f refl).1 r) l k
