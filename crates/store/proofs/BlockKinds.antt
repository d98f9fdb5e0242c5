-- Whole key blocks and whole commit blocks, page by page; a data block is none of them; a block's kind goes by its bytes.
use Prim.Native.Nat.{ℕ, ◌+◌, ◌-◌, ◌*◌, ◌/◌, ◌%◌, ◌<◌, ◌≤◌}
use native.Mathlib.Omega.{arith}
use mathlib.Core.Path.{◌≡◌, refl, sym, ap, ◌∙◌}
use mathlib.Core.Logic.{◌⊎◌, inl, inr, ⊎_elim}
use mathlib.Core.Bool.{Bool, true, false, cond, not, ◌&&◌, ◌||◌, and-true as and-true-right}
use native.Mathlib.Decide.{dec_lt}
use mathlib.Core.List.{List, [], ◌∷◌}
use lib.Dec.{eqb, leb}
use lib.ListN.{length, get_or, drop_of_length-le, length-take, length-drop}
use lib.Seq.{take-nil}
use borrow.Author.Tests.{eqb-true, leb-true, ne_eqb}
use Rattle.base.specs.Part.{part}
use Rattle.base.specs.Each.{all_are}
use Rattle.base.specs.Search.{all_from}
use Rattle.base.proofs.Choice.{cond-ap, cond_same, and-true, and_intro, true-false}
use Rattle.base.proofs.Parts.{part_at}
use Rattle.base.proofs.Searches.{all_holds, all_intro, all_agree, any_agree, any_all_fail}
use Rattle.base.proofs.Eachs.{same_true}
use Rattle.page.specs.Frame.{payload_size, page_size, header_size, closing_at, closing_size, closing, erased}
use Rattle.page.specs.Header.{node_letter, cut_off_letter, keys_letter, commit_letter, last_number, last_position, last_key_block, last_key_page, last_part, within, in_plan, node_ranges, cut_off_ranges, keys_ranges, commit_ranges, keys_frame, commit_frame, in_range, header_of, is_event_letter}
use Rattle.page.specs.Form.{is_empty, closed, form_by, form_of}
use Rattle.page.specs.Entry.{parts, valid_payload}
use Rattle.page.specs.Page.{payload_of}
use Rattle.page.specs.declared.Frame.{Frame}
use Rattle.std.specs.Prelude.{Option, Some, None}
use Rattle.page.specs.declared.Form.{Form}
use Rattle.page.specs.declared.Form.TheVariants.{Empty, Whole, Torn, Spoilt}
use Rattle.page.proofs.Ranges.{keys_range as keys_fields, commit_range as commit_fields}
use Rattle.page.proofs.HeaderLaws.{header_spelt}
pub use Rattle.page.proofs.HeaderTests.{same_frame_lem, frame_same, whole_with_lem, with_whole}
use Rattle.image.specs.Size.{block_size, pages_in_block, blocks}
use Rattle.image.specs.Look.{page_at, form_at, page_empty}
use Rattle.store.specs.Kind.{page_in, whole_with, key_block_whole, commit_block_whole, is_block_letter, kind_of_first, kind_of, headed, is_chosen, is_data, has_events}
use Rattle.store.specs.Find.{is_open}
use Rattle.store.specs.declared.Numbers.{Numbers}
use Rattle.store.specs.declared.Kind.{Kind}
use Rattle.store.specs.declared.Kind.TheVariants.{Keys, Commit, Other}

-- ---- headers: what they say of their bytes
header_is : (xs : List ℕ) (f : Frame) → header_of xs ≡ Some f → (f.kind ≡ get_or xs 0 0) × (in_range f ≡ true)
header_is xs f e = let s = header_spelt xs f e in (sym s.kind, s.ranges)

-- ---- forms
-- the header of a form
abbrev header_in : Form → Option Frame
header_in Empty = None
header_in (Whole f) = Some f
header_in (Torn f) = Some f
header_in Spoilt = None

header_in_lem : (h : Option Frame) (page : List ℕ) → header_in (form_by h page) ≡ h
header_in_lem (Some f) page = cond-ap header_in (closed page) (Whole f) (Torn f) ∙ cond_same (closed page) (Some f)
header_in_lem None page = cond-ap header_in (is_empty page) Empty Spoilt ∙ cond_same (is_empty page) None

form_in_range : (img : List ℕ) (g : ℕ) (f : Frame) → header_in (form_at img g) ≡ Some f → in_range f ≡ true
unfolding form_at form_of
form_in_range img g f e = (header_is (part (page_at img g) 0 header_size) f (sym (header_in_lem _ (page_at img g)) ∙ e)).1

-- the letter of a whole or torn page is its first byte
first_byte : (img : List ℕ) (g : ℕ) → get_or (part (page_at img g) 0 header_size) 0 0 ≡ get_or img (g * page_size) 0
unfolding page_at
first_byte img g =
    part_at (page_at img g) 0 header_size 0 0 (omega arith)
    ∙ part_at img (g * page_size) page_size 0 0 (omega arith)
    ∙ ap (λ (a : ℕ). get_or img a 0) (omega arith)

pub whole-letter : (img : List ℕ) (g : ℕ) (f : Frame) → form_at img g ≡ Whole f → f.kind ≡ get_or img (g * page_size) 0
unfolding form_at form_of
whole-letter img g f e = (header_is (part (page_at img g) 0 header_size) f (sym (header_in_lem _ (page_at img g)) ∙ ap header_in e)).0 ∙ first_byte img g

pub torn-letter : (img : List ℕ) (g : ℕ) (f : Frame) → form_at img g ≡ Torn f → f.kind ≡ get_or img (g * page_size) 0
unfolding form_at form_of
torn-letter img g f e = (header_is (part (page_at img g) 0 header_size) f (sym (header_in_lem _ (page_at img g)) ∙ ap header_in e)).0 ∙ first_byte img g

pub headed-letter : (img : List ℕ) (g : ℕ) → headed (form_at img g) ≡ true → is_event_letter (get_or img (g * page_size) 0) ≡ true
unfolding form_at form_of
headed-letter img g = go (header_of (part (page_at img g) 0 header_size)) refl
  where
    go : (h : Option Frame) → header_of (part (page_at img g) 0 header_size) ≡ h → headed (form_by h (page_at img g)) ≡ true → is_event_letter (get_or img (g * page_size) 0) ≡ true
    go (Some f) q e =
        let k = (header_is (part (page_at img g) 0 header_size) f q).0 ∙ first_byte img g in
        let both = cond-ap headed (closed (page_at img g)) (Whole f) (Torn f) ∙ cond_same (closed (page_at img g)) (is_event_letter f.kind) in
        rw (← k) (sym both ∙ e)
    go None q e =
        absurd (true-false e (cond-ap headed (is_empty (page_at img g)) Empty Spoilt ∙ cond_same (is_empty (page_at img g)) false))

-- so a page that begins with another byte is none
pub unheaded : (img : List ℕ) (g : ℕ) → is_event_letter (get_or img (g * page_size) 0) ≡ false → headed (form_at img g) ≡ false
unheaded img g e = go (headed (form_at img g)) refl
  where
    go : (t : Bool) → headed (form_at img g) ≡ t → t ≡ false
    go true h = absurd (true-false (headed-letter img g h) e)
    go false h = refl

-- the fields of a whole or torn page are in range
pub whole_in_range : (img : List ℕ) (g : ℕ) (f : Frame) → form_at img g ≡ Whole f → in_range f ≡ true
whole_in_range img g f e = form_in_range img g f (ap header_in e)

pub torn-in_range : (img : List ℕ) (g : ℕ) (f : Frame) → form_at img g ≡ Torn f → in_range f ≡ true
torn-in_range img g f e = form_in_range img g f (ap header_in e)

-- the sequence or epoch of any kind is 1 to 99,999,999
of_four : (a b c d : Bool) → a && b && c && d ≡ true → a ≡ true
of_four true b c d e = refl
of_four false b c d e = e

of_five : (a b c d f : Bool) → a && b && c && d && f ≡ true → a ≡ true
of_five true b c d f e = refl
of_five false b c d f e = e

pub number_range : (f : Frame) → in_range f ≡ true → (1 ≤ f.number) × (f.number ≤ last_number)
unfolding in_range
number_range f = go (eqb f.kind node_letter) (eqb f.kind cut_off_letter) (eqb f.kind keys_letter) (eqb f.kind commit_letter)
  where
    from_test : within 1 last_number f.number ≡ true → (1 ≤ f.number) × (f.number ≤ last_number)
    from_test e = let a = and-true (leb 1 f.number) (leb f.number last_number) e in (leb-true _ _ a.0, leb-true _ _ a.1)

    go : (n d k c : Bool) → cond n (node_ranges f) (cond d (cut_off_ranges f) (cond k (keys_ranges f) (cond c (commit_ranges f) false))) ≡ true
        → (1 ≤ f.number) × (f.number ≤ last_number)
    go true d k c e = from_test (of_four (within 1 last_number f.number) (in_plan f) (leb f.key last_position) (leb f.second payload_size) e)
    go false true k c e = from_test (of_four (within 1 last_number f.number) (in_plan f) (eqb f.key 0) (eqb f.second 0) e)
    go false false true c e =
        from_test (of_five (within 1 last_number f.number) (leb f.unit last_key_block) (leb f.part last_key_page) (eqb f.key 0) (eqb f.second 0) e)
    go false false false true e =
        from_test (of_five (within 1 last_number f.number) (eqb f.unit 0) (leb f.part last_part) (eqb f.key 0) (leb f.second last_number) e)
    go false false false false e = absurd (true-false e refl)

-- and a whole page stands in the image
form_closed : (h : Option Frame) (page : List ℕ) (f : Frame) → form_by h page ≡ Whole f → closed page ≡ true
form_closed (Some h) page f e = go (closed page) e
  where
    go : (b : Bool) → cond b (Whole h) (Torn h) ≡ Whole f → b ≡ true
    go true e = refl
    go false e = absurd (let z : ◌≡◌ {A = ℕ} 0 1 = cc in omega arith)
form_closed None page f e =
    let h = header_in_lem None page in
    let i = ap header_in e in
    absurd (let z : ◌≡◌ {A = ℕ} 0 1 = cc in omega arith)

pub whole_inside : (img : List ℕ) (g : ℕ) (f : Frame) → form_at img g ≡ Whole f → g * page_size + page_size ≤ length img
unfolding form_at form_of closed page_at part
whole_inside img g f e =
    let page = page_at img g in
    let c : part page closing_at closing_size ≡ closing = same_true (part page closing_at closing_size) closing (form_closed (header_of (part page 0 header_size)) page f e) in
    let l : length (part page closing_at closing_size) ≡ closing_size = ap length c in
    omega (arith, simp (length-take, length-drop) at l)

-- an empty page has no header: its first byte is no kind letter
no_kind : (f : Frame) → (f.kind ≡ node_letter → ⊥) → (f.kind ≡ cut_off_letter → ⊥) → (f.kind ≡ keys_letter → ⊥) → (f.kind ≡ commit_letter → ⊥) → in_range f ≡ false
unfolding in_range
no_kind f n d k c = rw (ne_eqb _ _ n, ne_eqb _ _ d, ne_eqb _ _ k, ne_eqb _ _ c)

empty_first : (page : List ℕ) → is_empty page ≡ true → (get_or (part page 0 header_size) 0 0 ≡ erased) ⊎ (get_or (part page 0 header_size) 0 0 ≡ 0)
unfolding is_empty all_are part
empty_first [] e = inr refl
empty_first (x ∷ xs) e = inl (eqb-true x erased (and-true (eqb x erased) (all_are erased xs) e).0)

empty_header : (page : List ℕ) (h : Option Frame) → is_empty page ≡ true → header_of (part page 0 header_size) ≡ h → h ≡ None
empty_header page None e q = refl
empty_header page (Some f) e q =
    let i = header_is (part page 0 header_size) f q in
    absurd
    (⊎_elim
    (λ z. true-false i.1 (no_kind f (λ y. omega arith) (λ y. omega arith) (λ y. omega arith) (λ y. omega arith)))
    (λ z. true-false i.1 (no_kind f (λ y. omega arith) (λ y. omega arith) (λ y. omega arith) (λ y. omega arith)))
    (empty_first page e))

pub empty_form : (img : List ℕ) (g : ℕ) → page_empty img g ≡ true → form_at img g ≡ Empty
unfolding form_at form_of page_empty
empty_form img g e =
    rw (empty_header (page_at img g) (header_of (part (page_at img g) 0 header_size)) e refl, e)

pub form_empty : (img : List ℕ) (g : ℕ) → form_at img g ≡ Empty → page_empty img g ≡ true
unfolding form_at form_of page_empty
form_empty img g e = go (header_of (part (page_at img g) 0 header_size)) e
  where
    by_test : (b : Bool) → cond b Empty Spoilt ≡ Empty → b ≡ true
    by_test true e = refl
    by_test false e = absurd (let z : ◌≡◌ {A = ℕ} 0 1 = cc in omega arith)

    go : (h : Option Frame) → form_by h (page_at img g) ≡ Empty → is_empty (page_at img g) ≡ true
    go (Some f) e = absurd (let q = header_in_lem (Some f) (page_at img g) in let z : ◌≡◌ {A = ℕ} 0 1 = cc (ap header_in e) in omega arith)
    go None e = by_test (is_empty (page_at img g)) e

-- ---- the headers that a block's pages must have, by that of its page 0
pub keys_ranged : (img : List ℕ) (g e q i : ℕ) → whole_with (keys_frame e q 0) (form_at img g) ≡ true → i < pages_in_block → in_range (keys_frame e q i) ≡ true
keys_ranged img g e q i w h =
    let r = (keys_fields (keys_frame e q 0) refl).0 (whole_in_range img g (keys_frame e q 0) (whole_with_lem (keys_frame e q 0) (form_at img g) w)) in
    (keys_fields (keys_frame e q i) refl).1 (record { from_one = r.from_one; number = r.number; block = r.block; page = omega arith; key = refl; second = refl })

pub commit_ranged : (img : List ℕ) (g e s i : ℕ) → whole_with (commit_frame e 0 s) (form_at img g) ≡ true → i < parts → in_range (commit_frame e i s) ≡ true
commit_ranged img g e s i w h =
    let r = (commit_fields (commit_frame e 0 s) refl).0 (whole_in_range img g (commit_frame e 0 s) (whole_with_lem (commit_frame e 0 s) (form_at img g) w)) in
    (commit_fields (commit_frame e i s) refl).1 (record { from_one = r.from_one; number = r.number; unit = refl; part = omega arith; key = refl; covered = r.covered })

-- ---- whole key blocks and whole commit blocks
-- every page is whole, and the one that its number says, of one key block and epoch
pub record KeyBlock (img : List ℕ) (b q e : ℕ) : Type 0 where
  pub pages : (i : ℕ) → i < pages_in_block → form_at img (page_in b i) ≡ Whole (keys_frame e q i)

-- the parts stand in order, of one epoch and covered sequence, valid, and the pages behind them are empty
pub record CommitBlock (img : List ℕ) (b e s : ℕ) : Type 0 where
  pub pages : (i : ℕ) → i < parts → form_at img (page_in b i) ≡ Whole (commit_frame e i s)
  pub valid : (i : ℕ) → i < parts → valid_payload i (payload_of (page_at img (page_in b i))) ≡ true
  pub rest : (i : ℕ) → parts ≤ i → i < pages_in_block → page_empty img (page_in b i) ≡ true

module _ (img : List ℕ) (b : ℕ) where
  pub key_block_lem : (q e : ℕ) → key_block_whole img b q e ≡ true → KeyBlock img b q e
  unfolding key_block_whole
  key_block_lem q e t =
      record { pages = λ i h. whole_with_lem (keys_frame e q i) _ (all_holds _ pages_in_block 0 i t (omega arith) (omega arith)) }

  pub key_block_whole_lem : (q e : ℕ) → KeyBlock img b q e → key_block_whole img b q e ≡ true
  unfolding key_block_whole
  key_block_whole_lem q e k = all_intro _ pages_in_block 0 (λ i h l. with_whole (keys_frame e q i) _ (k.pages i (omega arith)))

  pub commit_block : (e s : ℕ) → commit_block_whole img b e s ≡ true → CommitBlock img b e s
  unfolding commit_block_whole
  commit_block e s t =
      let a = and-true (all_from (λ i. whole_with (commit_frame e i s) (form_at img (page_in b i)) && valid_payload i (payload_of (page_at img (page_in b i)))) parts 0) _ t in
      let part_whole_lem : (i : ℕ) → i < parts → (whole_with (commit_frame e i s) (form_at img (page_in b i)) ≡ true) × (valid_payload i (payload_of (page_at img (page_in b i))) ≡ true)
      = λ i h. and-true _ _ (all_holds _ parts 0 i a.0 (omega arith) (omega arith)) in
      record {
        pages = λ i h. whole_with_lem (commit_frame e i s) _ (part_whole_lem i h).0;
        valid = λ i h. (part_whole_lem i h).1;
        rest = λ i h l. all_holds _ (pages_in_block - parts) parts i a.1 h (omega arith);
      }

  pub commit_block_whole_lem : (e s : ℕ) → CommitBlock img b e s → commit_block_whole img b e s ≡ true
  unfolding commit_block_whole
  commit_block_whole_lem e s c =
      and_intro _ _
      (all_intro _ parts 0 (λ i h l. and_intro _ _ (with_whole (commit_frame e i s) _ (c.pages i (omega arith))) (c.valid i (omega arith))))
      (all_intro _ (pages_in_block - parts) parts (λ i h l. c.rest i h (omega arith)))

-- ---- a block's kind
-- the two tests of a header of page 0
abbrev as_keys : List ℕ → ℕ → Frame → Bool
as_keys img b f = eqb f.kind keys_letter && key_block_whole img b f.unit f.number

abbrev as_commit : List ℕ → ℕ → Frame → Bool
as_commit img b f = eqb f.kind commit_letter && commit_block_whole img b f.number f.second

by_keys : (t c : Bool) (f : Frame) (q e : ℕ) → cond t (Keys f.unit f.number) (cond c (Commit f.number f.second) Other) ≡ Keys q e
    → (t ≡ true) × (f.unit ≡ q) × (f.number ≡ e)
by_keys true c f q e k = (refl, cc, cc)
by_keys false true f q e k = absurd (let z : ◌≡◌ {A = ℕ} 0 1 = cc in omega arith)
by_keys false false f q e k = absurd (let z : ◌≡◌ {A = ℕ} 0 1 = cc in omega arith)

by_commit : (t c : Bool) (f : Frame) (e s : ℕ) → cond t (Keys f.unit f.number) (cond c (Commit f.number f.second) Other) ≡ Commit e s
    → (c ≡ true) × (f.number ≡ e) × (f.second ≡ s)
by_commit true c f e s k = absurd (let z : ◌≡◌ {A = ℕ} 0 1 = cc in omega arith)
by_commit false true f e s k = (refl, cc, cc)
by_commit false false f e s k = absurd (let z : ◌≡◌ {A = ℕ} 0 1 = cc in omega arith)

module _ (img : List ℕ) (b : ℕ) where
  pub kind-keys : (q e : ℕ) → kind_of img b ≡ Keys q e → KeyBlock img b q e
  unfolding kind_of
  kind-keys q e = go (form_at img (page_in b 0))
    where
      go : (m : Form) → kind_of_first img b m ≡ Keys q e → KeyBlock img b q e
      go Empty k = absurd (let z : ◌≡◌ {A = ℕ} 0 1 = cc in omega arith)
      go (Whole f) k =
          let a = by_keys (as_keys img b f) (as_commit img b f) f q e k in
          rw (a.1, a.2) at (key_block_lem img b f.unit f.number (and-true (eqb f.kind keys_letter) (key_block_whole img b f.unit f.number) a.0).1)
      go (Torn f) k = absurd (let z : ◌≡◌ {A = ℕ} 0 1 = cc in omega arith)
      go Spoilt k = absurd (let z : ◌≡◌ {A = ℕ} 0 1 = cc in omega arith)

  pub keys-kind : (q e : ℕ) → KeyBlock img b q e → kind_of img b ≡ Keys q e
  unfolding kind_of
  keys-kind q e k = rw (k.pages 0 (omega arith), key_block_whole_lem img b q e k)

  pub kind-commit : (e s : ℕ) → kind_of img b ≡ Commit e s → CommitBlock img b e s
  unfolding kind_of
  kind-commit e s = go (form_at img (page_in b 0))
    where
      go : (m : Form) → kind_of_first img b m ≡ Commit e s → CommitBlock img b e s
      go Empty k = absurd (let z : ◌≡◌ {A = ℕ} 0 1 = cc in omega arith)
      go (Whole f) k =
          let a = by_commit (as_keys img b f) (as_commit img b f) f e s k in
          rw (a.1, a.2) at (commit_block img b f.number f.second (and-true (eqb f.kind commit_letter) (commit_block_whole img b f.number f.second) a.0).1)
      go (Torn f) k = absurd (let z : ◌≡◌ {A = ℕ} 0 1 = cc in omega arith)
      go Spoilt k = absurd (let z : ◌≡◌ {A = ℕ} 0 1 = cc in omega arith)

  pub commit-kind : (e s : ℕ) → CommitBlock img b e s → kind_of img b ≡ Commit e s
  unfolding kind_of
  commit-kind e s c = rw (c.pages 0 (omega arith), commit_block_whole_lem img b e s c)

  -- block numbers, epochs and covered sequences are in range
  pub keys_range : (q e : ℕ) → kind_of img b ≡ Keys q e → (q ≤ last_key_block) × (1 ≤ e) × (e ≤ last_number)
  unfolding in_range
  keys_range q e k =
      let r = whole_in_range img (page_in b 0) (keys_frame e q 0) ((kind-keys q e k).pages 0 (omega arith)) in
      let a = and-true (leb 1 e && leb e last_number && leb q last_key_block) true (and-true _ true (and-true _ true r).0).0 in
      let c = and-true (leb 1 e && leb e last_number) (leb q last_key_block) a.0 in
      let d = and-true (leb 1 e) (leb e last_number) c.0 in
      (leb-true _ _ c.1, leb-true _ _ d.0, leb-true _ _ d.1)

  pub commit_range : (e s : ℕ) → kind_of img b ≡ Commit e s → (1 ≤ e) × (e ≤ last_number) × (s ≤ last_number)
  unfolding in_range
  commit_range e s k =
      let r = whole_in_range img (page_in b 0) (commit_frame e 0 s) ((kind-commit e s k).pages 0 (omega arith)) in
      let a = and-true _ (leb s last_number) r in
      let c = and-true (leb 1 e && leb e last_number) true (and-true _ true (and-true _ true a.0).0).0 in
      let d = and-true (leb 1 e) (leb e last_number) c.0 in
      (leb-true _ _ d.0, leb-true _ _ d.1, leb-true _ _ a.1)

  -- the block stands in the image
  pub keys_inside : (q e : ℕ) → kind_of img b ≡ Keys q e → b < blocks img
  keys_inside q e k =
      omega (arith, whole_inside img (page_in b last_key_page) (keys_frame e q last_key_page) ((kind-keys q e k).pages last_key_page (omega arith)))

  pub commit_inside_lem : (e s : ℕ) → length img % block_size ≡ 0 → kind_of img b ≡ Commit e s → b < blocks img
  commit_inside_lem e s full k = omega (arith, whole_inside img (page_in b 0) (commit_frame e 0 s) ((kind-commit e s k).pages 0 (omega arith)))

-- a block whose first page is empty is no whole block
pub kind_unbegun : (img : List ℕ) (b : ℕ) → page_empty img (page_in b 0) ≡ true → kind_of img b ≡ Other
unfolding kind_of
kind_unbegun img b e = rw (empty_form img (page_in b 0) e)

-- nor is one that begins with another letter than K and C
pub kind_unlettered : (img : List ℕ) (b : ℕ) → is_block_letter (get_or img (b * block_size) 0) ≡ false → kind_of img b ≡ Other
unfolding kind_of
kind_unlettered img b e = go (form_at img (page_in b 0)) refl
  where
    neither : (a c p q : Bool) (k l : Kind) → a || c ≡ false → cond (a && p) k (cond (c && q) l Other) ≡ Other
    neither true c p q k l e = absurd (true-false refl e)
    neither false true p q k l e = absurd (true-false refl e)
    neither false false p q k l e = refl

    go : (m : Form) → form_at img (page_in b 0) ≡ m → kind_of_first img b m ≡ Other
    go Empty q = refl
    go (Whole f) q =
        let a : page_in b 0 * page_size ≡ b * block_size = omega arith in
        let k : f.kind ≡ get_or img (b * block_size) 0 = whole-letter img (page_in b 0) f q ∙ ap (λ (i : ℕ). get_or img i 0) a in
        neither (eqb f.kind keys_letter) (eqb f.kind commit_letter) _ _ _ _ (ap is_block_letter k ∙ e)
    go (Torn f) q = refl
    go Spoilt q = refl

-- ---- data blocks
-- a whole key or commit block has no whole or torn N or D page
pub chosen_is_no_data : (img : List ℕ) (b : ℕ) → (kind_of img b ≡ Other → ⊥) → has_events img b ≡ false
chosen_is_no_data img b h = any_all_fail _ pages_in_block 0 (λ i l m. go (kind_of img b) refl i (omega arith))
  where
    go : (k : Kind) → kind_of img b ≡ k → (i : ℕ) → i < pages_in_block → headed (form_at img (page_in b i)) ≡ false
    go (Keys q e) k i l = rw ((kind-keys img b q e k).pages i l)
    go (Commit e s) k i l =
        elim (dec_lt i parts) [
          | yes m ↦ rw ((kind-commit img b e s k).pages i m)
          | no m ↦ rw (empty_form img (page_in b i) ((kind-commit img b e s k).rest i (omega arith) l))
        ]
    go Other k i l = absurd (h k)

-- so a data block is of no other kind
pub data_is_other : (img : List ℕ) (r : Numbers) (b : ℕ) → is_data img r b ≡ true → kind_of img b ≡ Other
unfolding is_data
data_is_other img r b e = go (kind_of img b) refl
  where
    not_both : (kind_of img b ≡ Other → ⊥) → ⊥
    not_both h = true-false (and-true _ (not (is_chosen r b)) e).0 (chosen_is_no_data img b h)

    go : (k : Kind) → kind_of img b ≡ k → kind_of img b ≡ Other
    go (Keys q n) k = absurd (not_both (λ o. let z : ◌≡◌ {A = ℕ} 0 1 = cc in omega arith))
    go (Commit n s) k = absurd (not_both (λ o. let z : ◌≡◌ {A = ℕ} 0 1 = cc in omega arith))
    go Other k = k

-- and "is no chosen block" excludes nothing where the chosen blocks are whole
pub data_has_events : (img : List ℕ) (r : Numbers) (b : ℕ) → (kind_of img r.keys0 ≡ Other → ⊥) → (kind_of img r.keys1 ≡ Other → ⊥) → (kind_of img r.commit ≡ Other → ⊥)
    → is_data img r b ≡ has_events img b
unfolding is_data
data_has_events img r b k0 k1 kc = go (eqb b r.keys0) refl (eqb b r.keys1) refl (eqb b r.commit) refl
  where
    none : (c : ℕ) → eqb b c ≡ true → (kind_of img c ≡ Other → ⊥) → (t : Bool) → has_events img b && t ≡ has_events img b
    none c e h t = let q : b ≡ c = eqb-true b c e in rw (q, chosen_is_no_data img c h)

    go : (x : Bool) → eqb b r.keys0 ≡ x → (y : Bool) → eqb b r.keys1 ≡ y → (z : Bool) → eqb b r.commit ≡ z
        → has_events img b && not (x || y || z) ≡ has_events img b
    go true e y f z g = none r.keys0 e k0 _
    go false e true f z g = none r.keys1 f k1 _
    go false e false f true g = none r.commit g kc _
    go false e false f false g = and-true-right (has_events img b)

-- ---- a page belongs to one block
pub page_block : (b i : ℕ) → i < pages_in_block → (page_in b i / pages_in_block ≡ b) × (page_in b i % pages_in_block ≡ i)
page_block b i h = (omega arith, omega arith)

pub page_in_lem : (g : ℕ) → page_in (g / pages_in_block) (g % pages_in_block) ≡ g
page_in_lem g = omega arith

pub page_unique : (b c i j : ℕ) → i < pages_in_block → j < pages_in_block → page_in b i ≡ page_in c j → (b ≡ c) × (i ≡ j)
page_unique b c i j h k e = (omega arith, omega arith)

-- ---- outside the image there is nothing
pub page_outside : (img : List ℕ) (g : ℕ) → length img ≤ g * page_size → page_at img g ≡ []
unfolding page_at part
page_outside img g h = rw (drop_of_length-le img h, take-nil)

pub page_outside_empty : (img : List ℕ) (g : ℕ) → length img ≤ g * page_size → page_empty img g ≡ true
unfolding page_empty is_empty all_are
page_outside_empty img g h = rw (page_outside img g h)

pub kind_outside : (img : List ℕ) (b : ℕ) → length img ≤ b * block_size → kind_of img b ≡ Other
kind_outside img b h = kind_unbegun img b (page_outside_empty img (page_in b 0) (omega arith))

pub data_outside : (img : List ℕ) (r : Numbers) (b : ℕ) → length img ≤ b * block_size → is_data img r b ≡ false
unfolding is_data
data_outside img r b h =
    rw (any_all_fail (λ i. headed (form_at img (page_in b i))) pages_in_block 0 (λ i l m. rw (empty_form img (page_in b i) (page_outside_empty img (page_in b i) (omega arith)))))

-- ---- kinds go by the bytes of the block
abbrev pub SameBlock : List ℕ → List ℕ → ℕ → Type 0
SameBlock img img' b = (i : ℕ) → i < pages_in_block → page_at img (page_in b i) ≡ page_at img' (page_in b i)

module _ (img img' : List ℕ) (b : ℕ) (alike : SameBlock img img' b) where
  pub form_agree : (i : ℕ) → i < pages_in_block → form_at img (page_in b i) ≡ form_at img' (page_in b i)
  unfolding form_at
  form_agree i h = ap form_of (alike i h)

  pub page_empty_agree : (i : ℕ) → i < pages_in_block → page_empty img (page_in b i) ≡ page_empty img' (page_in b i)
  unfolding page_empty
  page_empty_agree i h = ap is_empty (alike i h)

  keys_agree : (q e : ℕ) → key_block_whole img b q e ≡ key_block_whole img' b q e
  unfolding key_block_whole
  keys_agree q e = all_agree _ _ pages_in_block 0 (λ i h l. ap (whole_with (keys_frame e q i)) (form_agree i (omega arith)))

  commit_agree : (e s : ℕ) → commit_block_whole img b e s ≡ commit_block_whole img' b e s
  unfolding commit_block_whole
  commit_agree e s =
      rw (
        all_agree (λ i. whole_with (commit_frame e i s) (form_at img (page_in b i)) && valid_payload i (payload_of (page_at img (page_in b i)))) (λ i. whole_with (commit_frame e i s) (form_at img' (page_in b i)) && valid_payload i (payload_of (page_at img' (page_in b i)))) parts 0
            (λ i h l. rw (form_agree i (omega arith), alike i (omega arith))),
        all_agree (λ i. page_empty img (page_in b i)) (λ i. page_empty img' (page_in b i)) (pages_in_block - parts) parts (λ i h l. page_empty_agree i (omega arith)),
      )

  pub kind_agree : kind_of img b ≡ kind_of img' b
  unfolding kind_of
  kind_agree = rw (form_agree 0 (omega arith)) (go (form_at img' (page_in b 0)))
    where
      go : (m : Form) → kind_of_first img b m ≡ kind_of_first img' b m
      go Empty = refl
      go (Whole f) = rw (keys_agree f.unit f.number, commit_agree f.number f.second)
      go (Torn f) = refl
      go Spoilt = refl

  pub data_agree : (r : Numbers) → is_data img r b ≡ is_data img' r b
  unfolding is_data
  data_agree r =
      ap (λ (t : Bool). t && not (is_chosen r b)) (any_agree _ _ pages_in_block 0 (λ i h l. ap headed (form_agree i (omega arith))))

-- for page g of the block
pub open_agree : (img img' : List ℕ) (r : Numbers) (g : ℕ) → SameBlock img img' (g / pages_in_block) → is_open img r g ≡ is_open img' r g
unfolding is_open
open_agree img img' r g alike =
    rw (
      data_agree img img' (g / pages_in_block) alike r,
      all_agree (page_empty img) (page_empty img') (pages_in_block - g % pages_in_block) g
          (λ j h l.
          let e : page_in (g / pages_in_block) (j % pages_in_block) ≡ j = omega arith in
          rw e at (page_empty_agree img img' (g / pages_in_block) alike (j % pages_in_block) (omega arith))),
    )
