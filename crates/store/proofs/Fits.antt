-- What it says that a record fits, fact by fact; and what follows of a live place.
use Prim.Native.Nat.{ℕ, ◌+◌, ◌/◌, ◌%◌, ◌<◌, ◌≤◌}
use native.Mathlib.Omega.{arith}
use mathlib.Core.Path.{◌≡◌, refl, sym, ap, ◌∙◌}
use mathlib.Core.Logic.{◌⊎◌, inl, inr, ⊎_elim}
use mathlib.Core.Bool.{Bool, true, false, cond, beq, ◌&&◌, ◌||◌}
use mathlib.Core.List.{List}
use lib.Dec.{eqb, leb, ltb}
use lib.ListN.{length, get_or}
use borrow.Author.Tests.{ltb-true, lt-ltb, leb-true, le-leb, eqb-true, eq-eqb}
use Rattle.base.specs.Search.{all_from}
use Rattle.base.proofs.Choice.{cond_same, and-true, and_intro, and_assoc, true-false, both_ways}
use Rattle.base.proofs.Searches.{all_agree, all_holds, all_intro, any_holds, any_intro, count_any, count_some, count_unique, unique_count}
use Rattle.page.specs.Plan.{file_plan, places, place_of}
use Rattle.page.specs.Frame.{payload_size}
use Rattle.page.specs.Header.{node_letter, last_number, last_position, within, in_plan, node_ranges, in_range}
use Rattle.page.specs.Key.{positions}
use Rattle.page.specs.Entry.{none, last_page, free_letter, used_letter, deleted_letter, is_letter}
use Rattle.page.specs.declared.Frame.{Frame}
use Rattle.page.specs.declared.Form.{Form}
use Rattle.page.specs.declared.Form.TheVariants.{Empty, Whole, Torn, Spoilt}
use Rattle.std.specs.Prelude.{Option, Some, None}
use Rattle.page.specs.Form.{whole_node}
use Rattle.page.proofs.Plans.{place_unique}
use Rattle.page.proofs.Ranges.{within-true, within_intro}
use Rattle.image.proofs.Looks.{sized}
use Rattle.image.specs.Size.{block_size, pages_in_block, blocks, pages, size_right}
use Rattle.image.specs.Look.{form_at}
use Rattle.store.specs.Kind.{page_in, kind_of, keys_epoch, commit_epoch, is_data, headed, has_events}
use Rattle.store.specs.Record.{Record, page_of, key_of, live, live_in, has_live, is_at, node_at, place_fits, named_times, keys_apart, letters_fit, numbers_fit, blocks_fit, fits}
use Rattle.store.specs.declared.Kind.TheVariants.{Keys, Commit}
use Rattle.store.proofs.BlockKinds.{whole_in_range, whole_inside, keys_range, commit_range, keys_inside, commit_inside_lem, data_has_events}
use Rattle.store.proofs.Choices.{commit_epoch_lem, keys_epoch_lem}

-- ---- places
-- the block of a live page has one
pub live_in_lem : (map : List ℕ) (b x : ℕ) → x < places → live map x ≡ true → page_of map x / pages_in_block ≡ b → has_live map b ≡ true
unfolding has_live
live_in_lem map b x h l e =
    any_intro (live_in map b) places 0 x (omega arith) (omega arith)
    (and_intro (live map x) (eqb (page_of map x / pages_in_block) b) l (eq-eqb (page_of map x / pages_in_block) b e))

-- place x is none in both halves
pub record Vacant (map : List ℕ) (x : ℕ) : Type 0 where
  pub no_page : page_of map x ≡ none
  pub no_key : key_of map x ≡ none

-- place x names a whole N page of its file, offset and key
pub record Named (img map : List ℕ) (x : ℕ) : Type 0 where
  pub header : Frame
  pub whole : form_at img (page_of map x) ≡ Whole header
  pub node : header.kind ≡ node_letter
  pub place : place_of file_plan header.unit header.part ≡ Some x
  pub key : header.key ≡ key_of map x

pub is_at_lem : (x : ℕ) (p : Option ℕ) → is_at x p ≡ true → p ≡ Some x
is_at_lem x (Some y) e = ap Some (eqb-true y x e)
is_at_lem x None e = absurd (true-false e refl)

-- a node's key is a position
node-key : (f : Frame) → f.kind ≡ node_letter → in_range f ≡ true → f.key ≤ last_position
unfolding in_range
node-key f k r =
    let n : node_ranges f ≡ true = rw k at r in
    let a = and-true (within 1 last_number f.number && in_plan f && leb f.key last_position) (leb f.second payload_size) n in
    leb-true _ _ (and-true (within 1 last_number f.number && in_plan f) (leb f.key last_position) a.0).1

-- a whole node with the file and the offset of place x is one of place x
pub fields_node : (x p file offset : ℕ) → place_of file_plan file offset ≡ Some x → (m : Form) → whole_node file offset p m ≡ node_at x p m
fields_node x p file offset e Empty = refl
fields_node x p file offset e (Whole f) =
    let place = is_at x (place_of file_plan f.unit f.part) in
    let q : eqb f.unit file && eqb f.part offset ≡ place = both_ways _ _
    (λ t. let a = and-true (eqb f.unit file) (eqb f.part offset) t in rw (eqb-true f.unit file a.0, eqb-true f.part offset a.1, e) (eq-eqb x x refl))
    (λ t. let u = place_unique file_plan f.unit f.part file offset x (is_at_lem x _ t) e in and_intro _ _ (eq-eqb _ _ u.0) (eq-eqb _ _ u.1)) in
    ap (λ (b : Bool). b && eqb f.key p)
    (sym (and_assoc (eqb f.kind node_letter) (eqb f.unit file) (eqb f.part offset)) ∙ ap (λ (b : Bool). eqb f.kind node_letter && b) q)
fields_node x p file offset e (Torn f) = refl
fields_node x p file offset e Spoilt = refl

-- no node names a position past the last
pub key_beyond : (img : List ℕ) (g x p : ℕ) → last_position < p → node_at x p (form_at img g) ≡ false
key_beyond img g x p h = go (form_at img g) refl
  where
    none_named : (f : Frame) (t : Bool) → form_at img g ≡ Whole f → node_at x p (Whole f) ≡ t → t ≡ false
    none_named f false e q = refl
    none_named f true e q =
        let a = and-true (eqb f.kind node_letter && is_at x (place_of file_plan f.unit f.part)) (eqb f.key p) q in
        let b = and-true (eqb f.kind node_letter) (is_at x (place_of file_plan f.unit f.part)) a.0 in
        absurd (omega (arith, node-key f (eqb-true f.kind node_letter b.0) (whole_in_range img g f e), eqb-true f.key p a.1))

    go : (m : Form) → form_at img g ≡ m → node_at x p m ≡ false
    go Empty e = refl
    go (Whole f) e = none_named f _ e refl
    go (Torn f) e = refl
    go Spoilt e = refl

module _ (img map : List ℕ) (x : ℕ) where
  node_at_lem : (m : Form) → form_at img (page_of map x) ≡ m → node_at x (key_of map x) m ≡ true → Named img map x
  node_at_lem Empty w e = absurd (true-false e refl)
  node_at_lem (Whole f) w e =
      let a = and-true _ (eqb f.key (key_of map x)) e in
      let b = and-true (eqb f.kind node_letter) (is_at x (place_of file_plan f.unit f.part)) a.0 in
      record { header = f; whole = w; node = eqb-true _ _ b.0; place = is_at_lem x _ b.1; key = eqb-true _ _ a.1 }
  node_at_lem (Torn f) w e = absurd (true-false e refl)
  node_at_lem Spoilt w e = absurd (true-false e refl)

  pub place_fits_lem : place_fits img map x ≡ true → Vacant map x ⊎ Named img map x
  unfolding place_fits
  place_fits_lem = go (eqb (page_of map x) none && eqb (key_of map x) none) refl
    where
      go : (b : Bool) → eqb (page_of map x) none && eqb (key_of map x) none ≡ b → cond b true (node_at x (key_of map x) (form_at img (page_of map x))) ≡ true
          → Vacant map x ⊎ Named img map x
      go true b e =
          let a = and-true (eqb (page_of map x) none) (eqb (key_of map x) none) b in
          inl (record { no_page = eqb-true _ _ a.0; no_key = eqb-true _ _ a.1 })
      go false b e = inr (node_at_lem (form_at img (page_of map x)) refl e)

  pub vacant-fits : Vacant map x → place_fits img map x ≡ true
  unfolding place_fits
  vacant-fits v = rw (v.no_page, v.no_key)

  pub named_fits : Named img map x → place_fits img map x ≡ true
  unfolding place_fits
  named_fits n =
      let k : is_at x (place_of file_plan n.header.unit n.header.part) ≡ true = rw n.place (eq-eqb x x refl) in
      rw (n.whole, eq-eqb _ _ n.node, k, eq-eqb _ _ n.key) (cond_same (eqb (page_of map x) none && eqb (key_of map x) none) true)

  -- the page stands in the image, and the key is a position
  pub named_inside : Named img map x → page_of map x < pages img
  named_inside n = omega (arith, whole_inside img (page_of map x) n.header n.whole)

  pub named_position : Named img map x → key_of map x < positions
  named_position n =
      omega (arith, n.key, node-key n.header n.node (whole_in_range img (page_of map x) n.header n.whole))

-- ---- positions
module _ (map : List ℕ) (p : ℕ) where
  -- a position is named once or more exactly if a place names it
  pub named_by : leb 1 (named_times map p) ≡ true → (x : ℕ) × (x < places) × (key_of map x ≡ p)
  unfolding named_times
  named_by e =
      let a = any_holds (λ x. eqb (key_of map x) p) places 0 (sym (count_any _ places 0) ∙ e) in
      (a.0, omega arith, eqb-true _ _ a.3)

  pub by_name : (x : ℕ) → x < places → key_of map x ≡ p → leb 1 (named_times map p) ≡ true
  unfolding named_times
  by_name x h e = le-leb _ _ (count_some (λ x. eqb (key_of map x) p) places 0 x (omega arith) (omega arith) (eq-eqb _ _ e))

  -- and at most once exactly if no two places do
  pub named_once : named_times map p ≤ 1 → (x y : ℕ) → x < places → y < places → key_of map x ≡ p → key_of map y ≡ p → x ≡ y
  unfolding named_times
  named_once n x y h k e f =
      count_unique (λ x. eqb (key_of map x) p) places 0 x y n (omega arith) (omega arith) (omega arith) (omega arith) (eq-eqb _ _ e) (eq-eqb _ _ f)

  pub once_named : ((x y : ℕ) → x < places → y < places → key_of map x ≡ p → key_of map y ≡ p → x ≡ y) → named_times map p ≤ 1
  unfolding named_times
  once_named f =
      unique_count (λ x. eqb (key_of map x) p) places 0 (λ x y a b c d e g. f x y (omega arith) (omega arith) (eqb-true _ _ e) (eqb-true _ _ g))

-- no key is named twice
pub keys_apart_lem : (map : List ℕ) → keys_apart map ≡ true → (x y : ℕ) → x < places → y < places → key_of map x ≡ key_of map y → key_of map x < positions → x ≡ y
unfolding keys_apart
keys_apart_lem map t x y h k e l =
    let once = all_holds (λ p. leb (named_times map p) 1) positions 0 (key_of map x) t (omega arith) (omega arith) in
    named_once map (key_of map x) (leb-true _ _ once) x y h k refl (sym e)

pub apart-keys : (map : List ℕ) → ((x y : ℕ) → x < places → y < places → key_of map x ≡ key_of map y → key_of map x < positions → x ≡ y) → keys_apart map ≡ true
unfolding keys_apart
apart-keys map f =
    all_intro (λ p. leb (named_times map p) 1) positions 0 (λ p h k. le-leb _ _ (once_named map p (λ x y a b e g. f x y a b (e ∙ sym g) (omega arith))))

-- a letter is f, u or d
pub letter_is : (l : ℕ) → is_letter l ≡ true → (l ≡ free_letter) ⊎ (l ≡ used_letter) ⊎ (l ≡ deleted_letter)
letter_is l e = go (eqb l free_letter) refl (eqb l used_letter) refl e
  where
    go : (a : Bool) → eqb l free_letter ≡ a → (b : Bool) → eqb l used_letter ≡ b → a || b || eqb l deleted_letter ≡ true
        → (l ≡ free_letter) ⊎ (l ≡ used_letter) ⊎ (l ≡ deleted_letter)
    go true a b c e = inl (eqb-true _ _ a)
    go false a true c e = inr (inl (eqb-true _ _ c))
    go false a false c e = inr (inr (eqb-true _ _ e))

pub is_letter_lem : (l : ℕ) → (l ≡ free_letter) ⊎ (l ≡ used_letter) ⊎ (l ≡ deleted_letter) → is_letter l ≡ true
is_letter_lem l (inl e) = rw e
is_letter_lem l (inr (inl e)) = rw e
is_letter_lem l (inr (inr e)) = rw e

-- ---- a record that fits
pub record Fit (img : List ℕ) (r : Record) : Type 0 where
  -- both next numbers are 1 to 100,000,000
  pub sequence : (1 ≤ r.numbers.sequence) × (r.numbers.sequence ≤ last_number + 1)
  pub epoch : (1 ≤ r.numbers.epoch) × (r.numbers.epoch ≤ last_number + 1)
  -- the blocks are whole and of their kind
  pub keys0 : (e : ℕ) × (kind_of img r.numbers.keys0 ≡ Keys 0 e)
  pub keys1 : (e : ℕ) × (kind_of img r.numbers.keys1 ≡ Keys 1 e)
  pub commit : (e : ℕ) × (s : ℕ) × (kind_of img r.numbers.commit ≡ Commit e s)
  -- a place is vacant in the whole, or has its own node with its own key
  pub place : (x : ℕ) → x < places → Vacant r.map x ⊎ Named img r.map x
  -- no key is named twice
  pub apart : (x y : ℕ) → x < places → y < places → key_of r.map x ≡ key_of r.map y → key_of r.map x < positions → x ≡ y
  -- letters are letters, and the used ones are those that places name
  pub letter : (p : ℕ) → p < positions → (get_or r.letters p 0 ≡ free_letter) ⊎ (get_or r.letters p 0 ≡ used_letter) ⊎ (get_or r.letters p 0 ≡ deleted_letter)
  pub used : (p : ℕ) → p < positions → get_or r.letters p 0 ≡ used_letter → (x : ℕ) × (x < places) × (key_of r.map x ≡ p)
  pub named : (p x : ℕ) → p < positions → x < places → key_of r.map x ≡ p → get_or r.letters p 0 ≡ used_letter

beq_is : (a b : Bool) → beq a b ≡ true → a ≡ b
beq_is true true e = refl
beq_is true false e = absurd (true-false e refl)
beq_is false true e = absurd (true-false e refl)
beq_is false false e = refl

is_beq : (a b : Bool) → (a ≡ true → b ≡ true) → (b ≡ true → a ≡ true) → beq a b ≡ true
is_beq true true f g = refl
is_beq true false f g = absurd (true-false (f refl) refl)
is_beq false true f g = absurd (true-false (g refl) refl)
is_beq false false f g = refl

-- the test of position p's letter
abbrev letter_fits : List ℕ → List ℕ → ℕ → Bool
letter_fits map letters p = is_letter (get_or letters p 0) && beq (eqb (get_or letters p 0) used_letter) (leb 1 (named_times map p))

module _ (map letters : List ℕ) (p : ℕ) (fit : letter_fits map letters p ≡ true) where
  tests : (is_letter (get_or letters p 0) ≡ true) × (beq (eqb (get_or letters p 0) used_letter) (leb 1 (named_times map p)) ≡ true)
  tests = and-true (is_letter (get_or letters p 0)) (beq (eqb (get_or letters p 0) used_letter) (leb 1 (named_times map p))) fit

  used_named : eqb (get_or letters p 0) used_letter ≡ leb 1 (named_times map p)
  used_named = beq_is (eqb (get_or letters p 0) used_letter) (leb 1 (named_times map p)) tests.1

pub fits_is : (img : List ℕ) (r : Record) → fits img r ≡ true → Fit img r
unfolding fits blocks_fit letters_fit
fits_is img r e =
    let n = r.numbers in
    let l = and-true (numbers_fit n && blocks_fit img n && all_from (place_fits img r.map) places 0 && keys_apart r.map) (letters_fit r.map r.letters) e in
    let k = and-true (numbers_fit n && blocks_fit img n && all_from (place_fits img r.map) places 0) (keys_apart r.map) l.0 in
    let p = and-true (numbers_fit n && blocks_fit img n) (all_from (place_fits img r.map) places 0) k.0 in
    let b = and-true (numbers_fit n) (blocks_fit img n) p.0 in
    let s = and-true (within 1 (last_number + 1) n.sequence) (within 1 (last_number + 1) n.epoch) b.0 in
    let c = and-true (ltb 0 (keys_epoch 0 (kind_of img n.keys0)) && ltb 0 (keys_epoch 1 (kind_of img n.keys1))) (ltb 0 (commit_epoch (kind_of img n.commit))) b.1 in
    let q = and-true (ltb 0 (keys_epoch 0 (kind_of img n.keys0))) (ltb 0 (keys_epoch 1 (kind_of img n.keys1))) c.0 in
    let letter : (p : ℕ) → p < positions → letter_fits r.map r.letters p ≡ true = λ p h. all_holds _ positions 0 p l.1 (omega arith) (omega arith) in
    record {
      sequence = within-true 1 (last_number + 1) n.sequence s.0;
      epoch = within-true 1 (last_number + 1) n.epoch s.1;
      keys0 = keys_epoch_lem 0 (kind_of img n.keys0) (ltb-true _ _ q.0);
      keys1 = keys_epoch_lem 1 (kind_of img n.keys1) (ltb-true _ _ q.1);
      commit = commit_epoch_lem (kind_of img n.commit) (ltb-true _ _ c.1);
      place = λ x h. place_fits_lem img r.map x (all_holds (place_fits img r.map) places 0 x p.1 (omega arith) (omega arith));
      apart = keys_apart_lem r.map k.1;
      letter = λ p h. letter_is (get_or r.letters p 0) (tests r.map r.letters p (letter p h)).0;
      used = λ p h u. named_by r.map p (sym (used_named r.map r.letters p (letter p h)) ∙ eq-eqb _ _ u);
      named = λ p x h i j. eqb-true _ _ (used_named r.map r.letters p (letter p h) ∙ by_name r.map p x i j);
    }

pub fit-fits : (img : List ℕ) (r : Record) → Fit img r → fits img r ≡ true
unfolding fits blocks_fit letters_fit
fit-fits img r f =
    let n = r.numbers in
    let k0 : ltb 0 (keys_epoch 0 (kind_of img n.keys0)) ≡ true = rw f.keys0.1 (lt-ltb 0 _ (keys_range img n.keys0 0 f.keys0.0 f.keys0.1).1) in
    let k1 : ltb 0 (keys_epoch 1 (kind_of img n.keys1)) ≡ true = rw f.keys1.1 (lt-ltb 0 _ (keys_range img n.keys1 1 f.keys1.0 f.keys1.1).1) in
    let c : ltb 0 (commit_epoch (kind_of img n.commit)) ≡ true = rw f.commit.2 (lt-ltb 0 _ (commit_range img n.commit f.commit.0 f.commit.1 f.commit.2).0) in
    and_intro _ _
    (and_intro _ _
    (and_intro _ _
    (and_intro _ _
    (and_intro _ _ (within_intro 1 (last_number + 1) n.sequence f.sequence.0 f.sequence.1) (within_intro 1 (last_number + 1) n.epoch f.epoch.0 f.epoch.1))
    (and_intro _ _ (and_intro _ _ k0 k1) c))
    (all_intro (place_fits img r.map) places 0 (λ x h k. ⊎_elim (vacant-fits img r.map x) (named_fits img r.map x) (f.place x (omega arith)))))
    (apart-keys r.map f.apart))
    (all_intro (letter_fits r.map r.letters) positions 0
    (λ p h k.
    and_intro _ _ (is_letter_lem (get_or r.letters p 0) (f.letter p (omega arith)))
    (is_beq _ _
    (λ u. let a = f.used p (omega arith) (eqb-true _ _ u) in by_name r.map p a.0 a.1 a.2)
    (λ t. let a = named_by r.map p t in eq-eqb _ _ (f.named p a.0 (omega arith) a.1 a.2)))))

-- the fit goes by the kinds of the three blocks and the forms of the pages that the map names
pub fits_agree : (img img' : List ℕ) (r : Record) → kind_of img r.numbers.keys0 ≡ kind_of img' r.numbers.keys0
    → kind_of img r.numbers.keys1 ≡ kind_of img' r.numbers.keys1 → kind_of img r.numbers.commit ≡ kind_of img' r.numbers.commit
    → ((x : ℕ) → x < places → form_at img (page_of r.map x) ≡ form_at img' (page_of r.map x)) → fits img r ≡ fits img' r
unfolding fits blocks_fit place_fits
fits_agree img img' r k0 k1 c forms =
    rw (
      k0,
      k1,
      c,
      all_agree (place_fits img r.map) (place_fits img' r.map) places 0 (λ x h k. rw (forms x (omega arith))),
    )

-- ---- what a right size gives: full blocks, and pages that a map can name
size-parts : (img : List ℕ) → size_right img ≡ true → (length img % block_size ≡ 0) × (pages img ≤ last_page + 1)
size-parts img e = let s = sized img e in (omega (arith, s.full), omega (arith, s.most, s.paged))

-- ---- what follows of a record that fits
module _ (img : List ℕ) (r : Record) (fit : Fit img r) where
  -- a block is one of data exactly if an event stands in it
  pub fit_data : (b : ℕ) → is_data img r.numbers b ≡ has_events img b
  fit_data b =
      data_has_events img r.numbers b
      (λ o. let k = fit.keys0.1 in let z : ◌≡◌ {A = ℕ} 0 1 = cc in omega arith)
      (λ o. let k = fit.keys1.1 in let z : ◌≡◌ {A = ℕ} 0 1 = cc in omega arith)
      (λ o. let k = fit.commit.2 in let z : ◌≡◌ {A = ℕ} 0 1 = cc in omega arith)

  -- a live place names a page of the image and a key position, whose letter is u
  pub live_named : (x : ℕ) → x < places → live r.map x ≡ true → Named img r.map x
  live_named x h l = go (fit.place x h)
    where
      go : Vacant r.map x ⊎ Named img r.map x → Named img r.map x
      go (inl v) = absurd (omega (arith, v.no_page, ltb-true (page_of r.map x) none l))
      go (inr n) = n

  -- so a block with a live page has an event
  pub live-headed : (b : ℕ) → has_live r.map b ≡ true → has_events img b ≡ true
  unfolding has_live
  live-headed b e =
      let w = any_holds (live_in r.map b) places 0 e in
      let x = w.0 in
      let g = page_of r.map x in
      let two = and-true (live r.map x) (eqb (g / pages_in_block) b) w.3 in
      let n = live_named x (omega (arith, w.2)) two.0 in
      let here : g / pages_in_block ≡ b = eqb-true _ _ two.1 in
      let at : page_in b (g % pages_in_block) ≡ g = omega (arith, here) in
      any_intro (λ i. headed (form_at img (page_in b i))) pages_in_block 0 (g % pages_in_block) (omega arith) (omega arith) (rw (at, n.whole, n.node))

  pub live-page : (x : ℕ) → x < places → live r.map x ≡ true → page_of r.map x < pages img
  live-page x h l = named_inside img r.map x (live_named x h l)

  pub live-key : (x : ℕ) → x < places → live r.map x ≡ true → key_of r.map x < positions
  live-key x h l = named_position img r.map x (live_named x h l)

  pub live_used : (x : ℕ) → x < places → live r.map x ≡ true → get_or r.letters (key_of r.map x) 0 ≡ used_letter
  live_used x h l = fit.named (key_of r.map x) x (live-key x h l) h refl

  -- the keys of two live places differ
  pub live-apart : (x y : ℕ) → x < places → y < places → live r.map x ≡ true → key_of r.map x ≡ key_of r.map y → x ≡ y
  live-apart x y h k l e = fit.apart x y h k e (live-key x h l)

  -- a position that is not u is no place's
  pub unused_unnamed : (p x : ℕ) → p < positions → x < places → (get_or r.letters p 0 ≡ used_letter → ⊥) → key_of r.map x ≡ p → ⊥
  unused_unnamed p x h k u e = u (fit.named p x h k e)

  -- in an image of a right size the blocks stand in it, and a place is live exactly if it is not none
  module _ (size : size_right img ≡ true) where
    pub fit_inside : (r.numbers.keys0 < blocks img) × (r.numbers.keys1 < blocks img) × (r.numbers.commit < blocks img)
    fit_inside = (
      keys_inside img r.numbers.keys0 0 fit.keys0.0 fit.keys0.1,
      keys_inside img r.numbers.keys1 1 fit.keys1.0 fit.keys1.1,
      commit_inside_lem img r.numbers.commit fit.commit.0 fit.commit.1 (size-parts img size).0 fit.commit.2,
    )

    pub named_live : (x : ℕ) → Named img r.map x → live r.map x ≡ true
    named_live x n = lt-ltb (page_of r.map x) none (omega (arith, named_inside img r.map x n, (size-parts img size).1))

    pub dead_vacant : (x : ℕ) → x < places → live r.map x ≡ false → Vacant r.map x
    dead_vacant x h l = go (fit.place x h)
      where
        go : Vacant r.map x ⊎ Named img r.map x → Vacant r.map x
        go (inl v) = v
        go (inr n) = absurd (true-false (named_live x n) l)

    -- the used positions are the keys of the live places
    pub used_live : (p : ℕ) → p < positions → get_or r.letters p 0 ≡ used_letter → (x : ℕ) × (x < places) × (live r.map x ≡ true) × (key_of r.map x ≡ p)
    used_live p h u =
        let a = fit.used p h u in
        (a.0, a.1, go (fit.place a.0 a.1) a.2, a.2)
      where
        go : {x : ℕ} → Vacant r.map x ⊎ Named img r.map x → key_of r.map x ≡ p → live r.map x ≡ true
        go (inl v) e = absurd (omega (arith, v.no_key))
        go {x} (inr n) e = named_live x n
