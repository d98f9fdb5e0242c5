-- What decides a place at mount: of the events above the covered sequence the highest, on a tie that of the higher page; without any, the entry of the commit. And the map that mount makes of that.
use Prim.Native.Nat.{ℕ, suc, ◌+◌, ◌<◌, ◌≤◌}
use native.Mathlib.Omega.{arith}
use native.Mathlib.Nat.{zero-add}
use mathlib.Core.Path.{◌≡◌, refl, sym, ap, subst, ◌∙◌}
use mathlib.Core.Logic.{◌⊎◌, inl, inr}
use mathlib.Core.Bool.{Bool, true, false, cond, not, ◌&&◌, ◌||◌}
use mathlib.Core.List.{List, ◌++◌}
use lib.Dec.{eqb, leb, ltb}
use lib.ListN.{length, get_or, length-append, get_or-append}
use lib.Seq.{get_or-append-add}
use borrow.Author.Tests.{ltb-true, ltb-false, leb-true, leb-false, eqb-true, eqb-false}
use Rattle.base.specs.Search.{all_from}
use Rattle.base.specs.Fold.{list_from}
use Rattle.base.proofs.Choice.{and-true, cond-ap, cond_same, true-false}
use Rattle.base.proofs.Searches.{below_suc, all_agree}
use Rattle.base.proofs.Folds.{fold_agree, fold_up, length-list_from, list_from_at, list_from_agree}
use Rattle.page.specs.Plan.{file_plan, places, place_of}
use Rattle.page.specs.Header.{node_letter, cut_off_letter}
use Rattle.page.specs.Entry.{none}
use Rattle.page.specs.declared.Frame.{Frame}
use Rattle.page.specs.declared.Form.{Form}
use Rattle.page.specs.declared.Form.TheVariants.{Empty, Whole, Torn, Spoilt}
use Rattle.page.specs.declared.Entry.{Entry}
use Rattle.page.specs.declared.Entry.TheVariants.{At, Vacant as NoEntry, Misspelt}
use Rattle.image.specs.Size.{pages}
use Rattle.image.specs.Look.{form_at}
use Rattle.std.specs.Prelude.{Some}
use Rattle.store.specs.Record.{is_at, map_size, page_of, key_of, place_fits}
use Rattle.store.specs.Mount.{covered_in, entry_in, Decision, by_entry, sets, cuts, decide_by, decision, mount_map, mount_scratch, entries_fit}
use Rattle.store.proofs.Fits.{Vacant, Named, is_at_lem, vacant-fits, named_fits}

-- ---- events
-- page g is an event of place x above the sequence s: a whole page with the header f, which sets or removes x
pub record Event (img : List ℕ) (s x g : ℕ) (f : Frame) : Type 0 where
  pub whole : form_at img g ≡ Whole f
  pub above : s < f.number
  pub touches : sets x f || cuts x f ≡ true

-- what an event gives its place: N the page and the key, D none
abbrev pub set_by : ℕ → Frame → Decision
set_by g f = record { sequence = f.number; page = g; key = f.key }

abbrev pub cut_by : Frame → Decision
cut_by f = record { sequence = f.number; page = none; key = none }

abbrev pub gives : ℕ → ℕ → Frame → Decision
gives x g f = cond (sets x f) (set_by g f) (cut_by f)

-- no page below n is an event, and the commit's entry decides
pub record ByEntry (img : List ℕ) (s x n : ℕ) (entry : Entry) (d : Decision) : Type 0 where
  pub none_above : (g : ℕ) (f : Frame) → g < n → Event img s x g f → ⊥
  pub given : d ≡ by_entry entry

-- an event below n decides: no event has a higher sequence, and none of its sequence stands on a higher page
pub record ByEvent (img : List ℕ) (s x n : ℕ) (d : Decision) : Type 0 where
  pub page : ℕ
  pub header : Frame
  pub inside : page < n
  pub event : Event img s x page header
  pub given : d ≡ gives x page header
  pub highest : (g : ℕ) (f : Frame) → g < n → Event img s x g f → f.number ≤ header.number
  pub last : (g : ℕ) (f : Frame) → g < n → Event img s x g f → f.number ≡ header.number → g ≤ page

abbrev Decided : List ℕ → ℕ → ℕ → Entry → ℕ → Decision → Type 0
Decided img s x entry n d = ByEntry img s x n entry d ⊎ ByEvent img s x n d

entry-sequence : (entry : Entry) → (by_entry entry).sequence ≡ 0
entry-sequence (At page key) = refl
entry-sequence NoEntry = refl
entry-sequence Misspelt = refl

abbrev deciding_sequence : Decision → ℕ
deciding_sequence d = d.sequence

-- the sequence of a decision is its event's
pub event-sequence : (img : List ℕ) (s x n : ℕ) (d : Decision) (e : ByEvent img s x n d) → d.sequence ≡ e.header.number
event-sequence img s x n d e =
    ap deciding_sequence e.given
    ∙ cond-ap deciding_sequence (sets x e.header) (set_by e.page e.header) (cut_by e.header)
    ∙ cond_same (sets x e.header) e.header.number

module _ (img : List ℕ) (s x : ℕ) (entry : Entry) where
  -- page n is no event, or one of a lower sequence: the decision stays
  stays : (n : ℕ) (d : Decision) → Decided img s x entry n d → ((f : Frame) → Event img s x n f → f.number < d.sequence) → Decided img s x entry (suc n) d
  stays n d (inl e) low =
      let z : d.sequence ≡ 0 = ap deciding_sequence e.given ∙ entry-sequence entry in
      inl
      (record {
        none_above = λ g f h v.
            below_suc (λ g. (f : Frame) → Event img s x g f → ⊥) n (λ g h f v. e.none_above g f h v) (λ f v. omega (arith, low f v)) g h f v;
        given = e.given;
      })
  stays n d (inr e) low =
      let z : d.sequence ≡ e.header.number = event-sequence img s x n d e in
      inr
      (record {
        page = e.page;
        header = e.header;
        inside = omega (arith, e.inside);
        event = e.event;
        given = e.given;
        highest = λ g f h v.
            below_suc (λ g. (f : Frame) → Event img s x g f → f.number ≤ e.header.number) n (λ g h f v. e.highest g f h v) (λ f v. omega (arith, low f v)) g h f v;
        last = λ g f h v.
            below_suc (λ g. (f : Frame) → Event img s x g f → f.number ≡ e.header.number → g ≤ e.page) n (λ g h f v. e.last g f h v) (λ f v q. absurd (omega (arith, low f v))) g h f v;
      })

  -- page n is an event of a sequence at least as high: it decides
  module _ (n : ℕ) (d : Decision) (f : Frame) (v : Event img s x n f) (high : d.sequence ≤ f.number) where
    same-header : (f' : Frame) → Event img s x n f' → f' ≡ f
    same-header f' w = let e = w.whole in let e' = v.whole in cc

    below_number : (e : Decided img s x entry n d) (g : ℕ) (f' : Frame) → g < n → Event img s x g f' → f'.number ≤ f.number
    below_number (inl e) g f' h w = absurd (e.none_above g f' h w)
    below_number (inr e) g f' h w =
        let z : d.sequence ≡ e.header.number = event-sequence img s x n d e in
        omega (arith, e.highest g f' h w)

    taken : Decided img s x entry n d → Decided img s x entry (suc n) (gives x n f)
    taken e =
        inr
        (record {
          page = n;
          header = f;
          inside = omega arith;
          event = v;
          given = refl;
          highest = λ g f' h w.
              below_suc (λ g. (f' : Frame) → Event img s x g f' → f'.number ≤ f.number) n (λ g h f' w. below_number e g f' h w) (λ f' w. rw (same-header f' w) (omega arith)) g h f' w;
          last = λ g f' h w q. omega arith;
        })

  -- a page that was passed, by its form
  passed : (n : ℕ) (m : Form) (d : Decision) → form_at img n ≡ m → Decided img s x entry n d → Decided img s x entry (suc n) (decide_by s x n m d)
  passed n Empty d e p = stays n d p (λ f v. let w = v.whole in let z : ◌≡◌ {A = ℕ} 0 1 = cc in absurd (omega arith))
  passed n (Torn f) d e p = stays n d p (λ f v. let w = v.whole in let z : ◌≡◌ {A = ℕ} 0 1 = cc in absurd (omega arith))
  passed n Spoilt d e p = stays n d p (λ f v. let w = v.whole in let z : ◌≡◌ {A = ℕ} 0 1 = cc in absurd (omega arith))
  passed n (Whole f) d e p = go (ltb s f.number) refl (leb d.sequence f.number) refl (sets x f) refl (cuts x f) refl
    where
      its : (f' : Frame) → Event img s x n f' → f' ≡ f
      its f' v = let w = v.whole in cc

      go : (a : Bool) → ltb s f.number ≡ a → (b : Bool) → leb d.sequence f.number ≡ b → (t : Bool) → sets x f ≡ t → (c : Bool) → cuts x f ≡ c
          → Decided img s x entry (suc n) (cond (a && b) (cond t (set_by n f) (cond c (cut_by f) d)) d)
      go true l true m true t c k =
          let v : Event img s x n f = record { whole = e; above = ltb-true s _ l; touches = rw t } in
          let q : gives x n f ≡ set_by n f = rw t in
          subst (Decided img s x entry (suc n)) q (taken n d f v (leb-true _ _ m) p)
      go true l true m false t true k =
          let v : Event img s x n f = record { whole = e; above = ltb-true s _ l; touches = rw (t, k) } in
          let q : gives x n f ≡ cut_by f = rw t in
          subst (Decided img s x entry (suc n)) q (taken n d f v (leb-true _ _ m) p)
      go true l true m false t false k =
          let z : sets x f || cuts x f ≡ false = rw (t, k) in
          stays n d p (λ f' v. absurd (true-false (rw (its f' v) at v.touches) z))
      go true l false m t u c k = stays n d p (λ f' v. let q = its f' v in rw q (leb-false _ _ m))
      go false l b m t u c k = stays n d p (λ f' v. let q = its f' v in absurd (omega (arith, ltb-false s f.number l, rw q at v.above)))

-- ---- the decision of a place
-- a place is decided by its highest event above the covered sequence, the later page on a tie, or by its entry where there is none
pub deciding_event : (img : List ℕ) (c x : ℕ)
    → ByEntry img (covered_in img c) x (pages img) (entry_in img c x) (decision img c x) ⊎ ByEvent img (covered_in img c) x (pages img) (decision img c x)
unfolding decision
deciding_event img c x =
    let s = covered_in img c in
    let entry = entry_in img c x in
    fold_up (Decided img s x entry) (λ g. decide_by s x g (form_at img g)) (pages img) (by_entry entry)
    (λ g d h p. passed img s x entry g (form_at img g) d refl p)
    (inl (record { none_above = λ g f h v. absurd (omega arith); given = refl }))

-- a header that removes a place does not set it
pub cut_is_no_set : (x : ℕ) (f : Frame) → cuts x f ≡ true → sets x f ≡ false
unfolding sets cuts
cut_is_no_set x f e =
    let k : f.kind ≡ cut_off_letter = eqb-true _ _ (and-true (eqb f.kind cut_off_letter) _ e).0 in
    rw k

-- what N and D give
module _ (img : List ℕ) (s x n : ℕ) (d : Decision) (e : ByEvent img s x n d) where
  pub set_gives : sets x e.header ≡ true → (d.page ≡ e.page) × (d.key ≡ e.header.key)
  set_gives t =
      let q : d ≡ set_by e.page e.header = e.given ∙ rw t in
      (ap (λ (d : Decision). d.page) q, ap (λ (d : Decision). d.key) q)

  pub cut_gives : sets x e.header ≡ false → (d.page ≡ none) × (d.key ≡ none)
  cut_gives t =
      let q : d ≡ cut_by e.header = e.given ∙ rw t in
      (ap (λ (d : Decision). d.page) q, ap (λ (d : Decision). d.key) q)

-- where no page is an event the entry decides, and the sequence is 0
pub entry_decides : (img : List ℕ) (c x : ℕ) → ((g : ℕ) (f : Frame) → g < pages img → Event img (covered_in img c) x g f → ⊥)
    → (decision img c x ≡ by_entry (entry_in img c x)) × ((decision img c x).sequence ≡ 0)
entry_decides img c x no-event = go (deciding_event img c x)
  where
    go : Decided img (covered_in img c) x (entry_in img c x) (pages img) (decision img c x)
        → (decision img c x ≡ by_entry (entry_in img c x)) × ((decision img c x).sequence ≡ 0)
    go (inl e) = (e.given, ap deciding_sequence e.given ∙ entry-sequence (entry_in img c x))
    go (inr e) = absurd (no-event e.page e.header e.inside e.event)

-- an event of highest sequence, on the highest page of those, decides
module _ (img : List ℕ) (c x g : ℕ) (f : Frame) (inside : g < pages img) (event : Event img (covered_in img c) x g f) where
  pub event_decides : ((h : ℕ) (f' : Frame) → h < pages img → Event img (covered_in img c) x h f' → f'.number ≤ f.number)
      → ((h : ℕ) (f' : Frame) → h < pages img → Event img (covered_in img c) x h f' → f'.number ≡ f.number → h ≤ g)
      → decision img c x ≡ gives x g f
  event_decides highest last = go (deciding_event img c x)
    where
      go : Decided img (covered_in img c) x (entry_in img c x) (pages img) (decision img c x) → decision img c x ≡ gives x g f
      go (inl e) = absurd (e.none_above g f inside event)
      go (inr e) =
          let n : e.header.number ≡ f.number = omega (arith, e.highest g f inside event, highest e.page e.header e.inside e.event) in
          let p : e.page ≡ g = omega (arith, e.last g f inside event (sym n), last e.page e.header e.inside e.event n) in
          let w : form_at img g ≡ Whole e.header = rw p at e.event.whole in
          let v = event.whole in
          let q : e.header ≡ f = cc in
          e.given ∙ rw (p, q)

-- the decision goes by the forms of the pages, the covered sequence and the entry
pub decision_agree : (img img' : List ℕ) (c c' x : ℕ) → pages img ≡ pages img' → covered_in img c ≡ covered_in img' c' → entry_in img c x ≡ entry_in img' c' x
    → ((g : ℕ) → g < pages img → form_at img g ≡ form_at img' g) → decision img c x ≡ decision img' c' x
unfolding decision
decision_agree img img' c c' x n s e forms =
    rw (s, e, ← n)
    (fold_agree _ _ (pages img) 0 (by_entry (entry_in img' c' x)) (λ g d h k. ap (λ (m : Form). decide_by (covered_in img' c') x g m d) (forms g (omega arith))))

-- ---- the map and the scratch that mount makes
-- a list of two halves: the values of p, then those of k
module _ (p k : ℕ → ℕ) (n x d : ℕ) (below : x < n) where
  first_half : get_or (list_from p n 0 ++ list_from k n 0) x d ≡ p x
  first_half =
      get_or-append (list_from p n 0) (list_from k n 0) d x (rw (length-list_from p n 0) below) ∙ list_from_at p n 0 x d below ∙ ap p (zero-add x)

  second_half : get_or (list_from p n 0 ++ list_from k n 0) (n + x) d ≡ k x
  second_half =
      subst (λ (m : ℕ). get_or (list_from p n 0 ++ list_from k n 0) (m + x) d ≡ k x) (length-list_from p n 0)
      (get_or-append-add (list_from p n 0) (list_from k n 0) x d ∙ list_from_at k n 0 x d below ∙ ap k (zero-add x))

module _ (img : List ℕ) (c : ℕ) where
  pub mount_map-length : length (mount_map img c) ≡ map_size
  unfolding mount_map
  mount_map-length =
      length-append (list_from (λ x. (decision img c x).page) places 0) (list_from (λ x. (decision img c x).key) places 0)
      ∙ omega (arith, length-list_from (λ x. (decision img c x).page) places 0, length-list_from (λ x. (decision img c x).key) places 0)

  pub mount-page : (x : ℕ) → x < places → page_of (mount_map img c) x ≡ (decision img c x).page
  unfolding mount_map
  mount-page x h = first_half (λ x. (decision img c x).page) (λ x. (decision img c x).key) places x none h

  pub mount-key : (x : ℕ) → x < places → key_of (mount_map img c) x ≡ (decision img c x).key
  unfolding mount_map
  mount-key x h = second_half (λ x. (decision img c x).page) (λ x. (decision img c x).key) places x none h

  pub mount_scratch-length : length (mount_scratch img c) ≡ places
  unfolding mount_scratch
  mount_scratch-length = length-list_from _ places 0

  pub mount-sequence : (x : ℕ) → x < places → get_or (mount_scratch img c) x 0 ≡ (decision img c x).sequence
  unfolding mount_scratch
  mount-sequence x h = list_from_at _ places 0 x 0 h ∙ rw zero-add

-- they go by the decisions
module _ (img img' : List ℕ) (c c' : ℕ) (same : (x : ℕ) → x < places → decision img c x ≡ decision img' c' x) where
  pub mount_map_agree : mount_map img c ≡ mount_map img' c'
  unfolding mount_map
  mount_map_agree =
      ap (λ (l : List ℕ). l ++ list_from (λ x. (decision img c x).key) places 0)
      (list_from_agree (λ x. (decision img c x).page) (λ x. (decision img' c' x).page) places 0 (λ x h k. ap (λ (d : Decision). d.page) (same x (omega arith))))
      ∙ ap (λ (l : List ℕ). list_from (λ x. (decision img' c' x).page) places 0 ++ l)
      (list_from_agree (λ x. (decision img c x).key) (λ x. (decision img' c' x).key) places 0 (λ x h k. ap (λ (d : Decision). d.key) (same x (omega arith))))

  pub mount_scratch_agree : mount_scratch img c ≡ mount_scratch img' c'
  unfolding mount_scratch
  mount_scratch_agree = list_from_agree _ _ places 0 (λ x h k. ap deciding_sequence (same x (omega arith)))

-- ---- a place that an event decided fits by itself
sets_is : (x : ℕ) (f : Frame) → sets x f ≡ true → (f.kind ≡ node_letter) × (place_of file_plan f.unit f.part ≡ Some x)
unfolding sets
sets_is x f e =
    let a = and-true (eqb f.kind node_letter) (is_at x (place_of file_plan f.unit f.part)) e in
    (eqb-true _ _ a.0, is_at_lem x _ a.1)

module _ (img : List ℕ) (c : ℕ) where
  -- N names its page, D leaves none
  module _ (x : ℕ) (below : x < places) (e : ByEvent img (covered_in img c) x (pages img) (decision img c x)) where
    pub set_named : sets x e.header ≡ true → Named img (mount_map img c) x
    set_named t =
        let q = set_gives img (covered_in img c) x (pages img) (decision img c x) e t in
        let k = sets_is x e.header t in
        let page : page_of (mount_map img c) x ≡ e.page = mount-page img c x below ∙ q.0 in
        record {
          header = e.header;
          whole = rw page e.event.whole;
          node = k.0;
          place = k.1;
          key = sym (mount-key img c x below ∙ q.1);
        }

    pub cut-vacant : sets x e.header ≡ false → Vacant (mount_map img c) x
    cut-vacant t =
        let q = cut_gives img (covered_in img c) x (pages img) (decision img c x) e t in
        record { no_page = mount-page img c x below ∙ q.0; no_key = mount-key img c x below ∙ q.1 }

  pub event-fits : (x : ℕ) → x < places → ((decision img c x).sequence ≡ 0 → ⊥) → place_fits img (mount_map img c) x ≡ true
  event-fits x h decided = go (deciding_event img c x)
    where
      by_kind : (e : ByEvent img (covered_in img c) x (pages img) (decision img c x)) (b : Bool) → sets x e.header ≡ b → place_fits img (mount_map img c) x ≡ true
      by_kind e true t = named_fits img (mount_map img c) x (set_named x h e t)
      by_kind e false t = vacant-fits img (mount_map img c) x (cut-vacant x h e t)

      go : Decided img (covered_in img c) x (entry_in img c x) (pages img) (decision img c x) → place_fits img (mount_map img c) x ≡ true
      go (inl e) = absurd (decided (ap deciding_sequence e.given ∙ entry-sequence (entry_in img c x)))
      go (inr e) = by_kind e (sets x e.header) refl

  -- so the live entries fit exactly where all places do
  pub entries_fit_lem : entries_fit img c ≡ all_from (place_fits img (mount_map img c)) places 0
  unfolding entries_fit
  entries_fit_lem = all_agree _ _ places 0 (λ x h k. go x (omega arith) (eqb (decision img c x).sequence 0) refl)
    where
      go : (x : ℕ) → x < places → (b : Bool) → eqb (decision img c x).sequence 0 ≡ b → not b || place_fits img (mount_map img c) x ≡ place_fits img (mount_map img c) x
      go x h true e = refl
      go x h false e = sym (event-fits x h (eqb-false (decision img c x).sequence 0 e))
