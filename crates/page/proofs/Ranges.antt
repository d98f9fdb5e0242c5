-- Laws of the ranges of a header's fields: what each kind's ranges say, and that there is no fifth kind.
use Prim.Native.Nat.{ℕ, ◌+◌, ◌^◌, ◌<◌, ◌≤◌}
use native.Mathlib.Omega.{arith}
use mathlib.Core.Path.{◌≡◌, refl}
use mathlib.Core.Logic.{◌⊎◌, inl, inr, ◌↔◌}
use mathlib.Core.Bool.{Bool, true, false, cond, ◌&&◌, ◌||◌}
use lib.Dec.{eqb, leb, ltb}
use borrow.Author.Tests.{eqb-true, eq-eqb, leb-true, le-leb, ltb-true, lt-ltb}
use Rattle.base.proofs.Choice.{and-true, and_intro, true-false}
use Rattle.page.specs.Frame.{payload_size}
use Rattle.page.specs.Plan.{file_plan, last_file, places, count_of, start_of}
use Rattle.page.specs.Header.{node_letter, cut_off_letter, keys_letter, commit_letter, last_number, last_position, last_key_block, last_key_page, last_part, within, node_frame, cut_off_frame, keys_frame, commit_frame, in_plan, node_ranges, cut_off_ranges, keys_ranges, commit_ranges, in_range, is_kind, is_event_letter, with_number}
use Rattle.page.specs.declared.Frame.{Frame}
use Rattle.page.proofs.Plans.{place_at_lem, plan_below}

-- ---- the ranges of each kind, as facts
pub record NodeRange (f : Frame) : Type 0 where
  pub from_one : 1 ≤ f.number
  pub number : f.number ≤ last_number
  pub file : f.unit ≤ last_file
  pub offset : f.part < count_of file_plan f.unit
  pub position : f.key ≤ last_position
  pub second : f.second ≤ payload_size

pub record CutOffRange (f : Frame) : Type 0 where
  pub from_one : 1 ≤ f.number
  pub number : f.number ≤ last_number
  pub file : f.unit ≤ last_file
  pub offset : f.part < count_of file_plan f.unit
  pub key : f.key ≡ 0
  pub second : f.second ≡ 0

pub record KeysRange (f : Frame) : Type 0 where
  pub from_one : 1 ≤ f.number
  pub number : f.number ≤ last_number
  pub block : f.unit ≤ last_key_block
  pub page : f.part ≤ last_key_page
  pub key : f.key ≡ 0
  pub second : f.second ≡ 0

pub record CommitRange (f : Frame) : Type 0 where
  pub from_one : 1 ≤ f.number
  pub number : f.number ≤ last_number
  pub unit : f.unit ≡ 0
  pub part : f.part ≤ last_part
  pub key : f.key ≡ 0
  pub covered : f.second ≤ last_number

-- ---- tests and facts
pub within-true : (low high n : ℕ) → within low high n ≡ true → (low ≤ n) × (n ≤ high)
within-true low high n e =
    let b = and-true (leb low n) (leb n high) e in
    (leb-true low n b.0, leb-true n high b.1)

pub within_intro : (low high n : ℕ) → low ≤ n → n ≤ high → within low high n ≡ true
within_intro low high n h k = and_intro (leb low n) (leb n high) (le-leb low n h) (le-leb n high k)

plan_true : (f : Frame) → in_plan f ≡ true → (f.unit ≤ last_file) × (f.part < count_of file_plan f.unit)
plan_true f e =
    let b = and-true (leb f.unit last_file) (ltb f.part (count_of file_plan f.unit)) e in
    (leb-true f.unit last_file b.0, ltb-true f.part (count_of file_plan f.unit) b.1)

plan_intro : (f : Frame) → f.unit ≤ last_file → f.part < count_of file_plan f.unit → in_plan f ≡ true
plan_intro f h k =
    and_intro (leb f.unit last_file) (ltb f.part (count_of file_plan f.unit)) (le-leb f.unit last_file h) (lt-ltb f.part (count_of file_plan f.unit) k)

and4 : (a b c d : Bool) → a && b && c && d ≡ true → (a ≡ true) × (b ≡ true) × (c ≡ true) × (d ≡ true)
and4 true true true d e = (refl, refl, refl, e)
and4 true true false d e = absurd (true-false e refl)
and4 true false c d e = absurd (true-false e refl)
and4 false b c d e = absurd (true-false e refl)

and5 : (a b c d g : Bool) → a && b && c && d && g ≡ true → (a ≡ true) × (b ≡ true) × (c ≡ true) × (d ≡ true) × (g ≡ true)
and5 a b c d g e =
    let l = and-true (a && b && c && d) g e in
    let m = and4 a b c d l.0 in
    (m.0, m.1, m.2, m.3, l.1)

-- ---- each kind is in range exactly where its fields are
module _ (f : Frame) where
  pub node_range : f.kind ≡ node_letter → (in_range f ≡ true) ↔ NodeRange f
  unfolding in_range
  node_range k = (λ e. to (rw k at e), λ r. rw k (from r))
    where
      to : node_ranges f ≡ true → NodeRange f
      to e =
          let t = and4 (within 1 last_number f.number) (in_plan f) (leb f.key last_position) (leb f.second payload_size) e in
          let n = within-true 1 last_number f.number t.0 in
          let p = plan_true f t.1 in
          record {
            from_one = n.0;
            number = n.1;
            file = p.0;
            offset = p.1;
            position = leb-true f.key last_position t.2;
            second = leb-true f.second payload_size t.3;
          }

      from : NodeRange f → node_ranges f ≡ true
      from r =
          rw (
            within_intro 1 last_number f.number r.from_one r.number,
            plan_intro f r.file r.offset,
            le-leb f.key last_position r.position,
            le-leb f.second payload_size r.second,
          )

  pub cut_off_range : f.kind ≡ cut_off_letter → (in_range f ≡ true) ↔ CutOffRange f
  unfolding in_range
  cut_off_range k = (λ e. to (rw k at e), λ r. rw k (from r))
    where
      to : cut_off_ranges f ≡ true → CutOffRange f
      to e =
          let t = and4 (within 1 last_number f.number) (in_plan f) (eqb f.key 0) (eqb f.second 0) e in
          let n = within-true 1 last_number f.number t.0 in
          let p = plan_true f t.1 in
          record {
            from_one = n.0;
            number = n.1;
            file = p.0;
            offset = p.1;
            key = eqb-true f.key 0 t.2;
            second = eqb-true f.second 0 t.3;
          }

      from : CutOffRange f → cut_off_ranges f ≡ true
      from r =
          rw (
            within_intro 1 last_number f.number r.from_one r.number,
            plan_intro f r.file r.offset,
            eq-eqb f.key 0 r.key,
            eq-eqb f.second 0 r.second,
          )

  pub keys_range : f.kind ≡ keys_letter → (in_range f ≡ true) ↔ KeysRange f
  unfolding in_range
  keys_range k = (λ e. to (rw k at e), λ r. rw k (from r))
    where
      to : keys_ranges f ≡ true → KeysRange f
      to e =
          let t = and5 (within 1 last_number f.number) (leb f.unit last_key_block) (leb f.part last_key_page) (eqb f.key 0) (eqb f.second 0) e in
          let n = within-true 1 last_number f.number t.0 in
          record {
            from_one = n.0;
            number = n.1;
            block = leb-true f.unit last_key_block t.1;
            page = leb-true f.part last_key_page t.2;
            key = eqb-true f.key 0 t.3;
            second = eqb-true f.second 0 t.4;
          }

      from : KeysRange f → keys_ranges f ≡ true
      from r =
          rw (
            within_intro 1 last_number f.number r.from_one r.number,
            le-leb f.unit last_key_block r.block,
            le-leb f.part last_key_page r.page,
            eq-eqb f.key 0 r.key,
            eq-eqb f.second 0 r.second,
          )

  pub commit_range : f.kind ≡ commit_letter → (in_range f ≡ true) ↔ CommitRange f
  unfolding in_range
  commit_range k = (λ e. to (rw k at e), λ r. rw k (from r))
    where
      to : commit_ranges f ≡ true → CommitRange f
      to e =
          let t = and5 (within 1 last_number f.number) (eqb f.unit 0) (leb f.part last_part) (eqb f.key 0) (leb f.second last_number) e in
          let n = within-true 1 last_number f.number t.0 in
          record {
            from_one = n.0;
            number = n.1;
            unit = eqb-true f.unit 0 t.1;
            part = leb-true f.part last_part t.2;
            key = eqb-true f.key 0 t.3;
            covered = leb-true f.second last_number t.4;
          }

      from : CommitRange f → commit_ranges f ≡ true
      from r =
          rw (
            within_intro 1 last_number f.number r.from_one r.number,
            eq-eqb f.unit 0 r.unit,
            le-leb f.part last_part r.part,
            eq-eqb f.key 0 r.key,
            le-leb f.second last_number r.covered,
          )

  -- ---- four kinds
  -- a header of any other kind is out of range
  pub other_kind : is_kind f.kind ≡ false → in_range f ≡ false
  unfolding in_range
  other_kind = go (eqb f.kind node_letter) (eqb f.kind cut_off_letter) (eqb f.kind keys_letter) (eqb f.kind commit_letter)
    where
      go : (a b c d : Bool) → a || b || c || d ≡ false → cond a (node_ranges f) (cond b (cut_off_ranges f) (cond c (keys_ranges f) (cond d (commit_ranges f) false))) ≡ false
      go true b c d e = absurd (true-false refl e)
      go false true c d e = absurd (true-false refl e)
      go false false true d e = absurd (true-false refl e)
      go false false false true e = absurd (true-false refl e)
      go false false false false e = refl

  pub kinds : in_range f ≡ true → (f.kind ≡ node_letter) ⊎ (f.kind ≡ cut_off_letter) ⊎ (f.kind ≡ keys_letter) ⊎ (f.kind ≡ commit_letter)
  unfolding in_range
  kinds = go (eqb f.kind node_letter) (eqb f.kind cut_off_letter) (eqb f.kind keys_letter) (eqb f.kind commit_letter) refl refl refl refl
    where
      go : (a b c d : Bool) → eqb f.kind node_letter ≡ a → eqb f.kind cut_off_letter ≡ b → eqb f.kind keys_letter ≡ c → eqb f.kind commit_letter ≡ d
          → cond a (node_ranges f) (cond b (cut_off_ranges f) (cond c (keys_ranges f) (cond d (commit_ranges f) false))) ≡ true
          → (f.kind ≡ node_letter) ⊎ (f.kind ≡ cut_off_letter) ⊎ (f.kind ≡ keys_letter) ⊎ (f.kind ≡ commit_letter)
      go true b c d p q r s e = inl (eqb-true f.kind node_letter p)
      go false true c d p q r s e = inr (inl (eqb-true f.kind cut_off_letter q))
      go false false true d p q r s e = inr (inr (inl (eqb-true f.kind keys_letter r)))
      go false false false true p q r s e = inr (inr (inr (eqb-true f.kind commit_letter s)))
      go false false false false p q r s e = absurd (true-false e refl)

  -- the second number of a node is at most 224, that of a cut-off is 0
  pub event-second : is_event_letter f.kind ≡ true → in_range f ≡ true → f.second ≤ payload_size
  event-second h e = go (kinds e)
    where
      go : (f.kind ≡ node_letter) ⊎ (f.kind ≡ cut_off_letter) ⊎ (f.kind ≡ keys_letter) ⊎ (f.kind ≡ commit_letter) → f.second ≤ payload_size
      go (inl k) = ((node_range k).0 e).second
      go (inr (inl k)) = let r = (cut_off_range k).0 e in omega (arith, r.second)
      go (inr (inr (inl k))) = absurd (true-false (rw k at h) refl)
      go (inr (inr (inr k))) = absurd (true-false (rw k at h) refl)

  -- a header in range is that of its kind and fields
  pub node_is : f.kind ≡ node_letter → in_range f ≡ true → f ≡ node_frame f.number f.unit f.part f.key f.second
  node_is k e = λ i. record { kind = k i; number = f.number; unit = f.unit; part = f.part; key = f.key; second = f.second }

  pub cut_off_is : f.kind ≡ cut_off_letter → in_range f ≡ true → f ≡ cut_off_frame f.number f.unit f.part
  cut_off_is k e =
      let r = (cut_off_range k).0 e in
      λ i. record { kind = k i; number = f.number; unit = f.unit; part = f.part; key = r.key i; second = r.second i }

  pub keys_is : f.kind ≡ keys_letter → in_range f ≡ true → f ≡ keys_frame f.number f.unit f.part
  keys_is k e =
      let r = (keys_range k).0 e in
      λ i. record { kind = k i; number = f.number; unit = f.unit; part = f.part; key = r.key i; second = r.second i }

  pub commit_is : f.kind ≡ commit_letter → in_range f ≡ true → f ≡ commit_frame f.number f.part f.second
  commit_is k e =
      let r = (commit_range k).0 e in
      λ i. record { kind = k i; number = f.number; unit = r.unit i; part = f.part; key = r.key i; second = f.second }

-- ---- a field in range fits its columns, and its kind letter is a byte
pub record Fits (f : Frame) : Type 0 where
  pub kind : f.kind < 256
  pub number : f.number < 10 ^ 8
  pub unit : f.unit < 10 ^ 3
  pub part : f.part < 10 ^ 4
  pub key : f.key < 10 ^ 4
  pub second : f.second < 10 ^ 8

offset_small : (file offset : ℕ) → offset < count_of file_plan file → offset < places
offset_small file offset h = omega (arith, plan_below file offset (start_of file_plan file + offset) (place_at_lem file_plan file offset h))

pub in_range-fits : (f : Frame) → in_range f ≡ true → Fits f
in_range-fits f e = go (kinds f e)
  where
    go : (f.kind ≡ node_letter) ⊎ (f.kind ≡ cut_off_letter) ⊎ (f.kind ≡ keys_letter) ⊎ (f.kind ≡ commit_letter) → Fits f
    go (inl k) =
        let r = (node_range f k).0 e in
        let o = offset_small f.unit f.part r.offset in
        omega arith
    go (inr (inl k)) =
        let r = (cut_off_range f k).0 e in
        let o = offset_small f.unit f.part r.offset in
        omega arith
    go (inr (inr (inl k))) =
        let r = (keys_range f k).0 e in
        omega arith
    go (inr (inr (inr k))) =
        let r = (commit_range f k).0 e in
        omega arith

-- a node's header with another sequence
pub renumbered_range : (f : Frame) (n : ℕ) → f.kind ≡ node_letter → in_range f ≡ true → 1 ≤ n → n ≤ last_number → in_range (with_number n f) ≡ true
renumbered_range f n k e low high =
    let r = (node_range f k).0 e in
    (node_range (with_number n f) k).1 (record { from_one = low; number = high; file = r.file; offset = r.offset; position = r.position; second = r.second })
