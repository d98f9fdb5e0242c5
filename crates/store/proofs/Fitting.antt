-- Records that fit: carried over to another image, with a place made vacant, with each d made f, and with a node placed.
use Prim.Native.Nat.{ℕ, ◌+◌, ◌<◌, ◌≤◌}
use native.Mathlib.Omega.{arith}
use native.Mathlib.Decide.{ℕ_discrete}
use mathlib.Core.Path.{◌≡◌, refl, sym, ◌∙◌}
use mathlib.Core.Logic.{◌⊎◌, inl, inr}
use mathlib.Core.Bool.{Bool, true, false, cond, ◌&&◌}
use mathlib.Core.List.{List}
use lib.Dec.{eqb}
use lib.ListN.{length, get_or, set}
use lib.Seq.{get_or-set_same, get_or-set_other}
use borrow.Author.Tests.{eq-eqb, ne_eqb, eqb-true}
use Rattle.base.proofs.Choice.{and-true, and_intro, true-false}
use Rattle.base.proofs.Folds.{fold_keeps}
use Rattle.page.specs.Plan.{file_plan, places, count_of}
use Rattle.page.specs.Header.{last_number}
use Rattle.page.specs.Key.{positions}
use Rattle.page.specs.Entry.{none, free_letter, used_letter, deleted_letter}
use Rattle.page.proofs.Plans.{plan_length, count_file}
use Rattle.image.specs.Size.{size_right}
use Rattle.image.specs.Look.{form_at}
use Rattle.store.specs.Kind.{kind_of}
use Rattle.store.specs.Record.{Record, record_of, with_numbers, page_of, key_of, live}
use Rattle.store.specs.Write.{place_at, released}
use Rattle.store.specs.CutOff.{rest_of, emptied, removed}
use Rattle.store.specs.declared.Kind.TheVariants.{Keys, Commit}
use Rattle.store.specs.declared.Numbers.{Numbers}
use Rattle.store.proofs.Fits.{Fit, Vacant, Named, live-apart, named_live}
use Rattle.store.proofs.Outcomes.{Full, still_full, emptied-as_long}
use Rattle.store.proofs.Records.{put, put_page, put_key, page_stays, key_stays, file-end}

-- ---- another image: its chosen blocks are whole, and the pages that places name are as they were
pub record Chosen (img : List ℕ) (n : Numbers) : Type 0 where
  pub keys0 : (e : ℕ) × (kind_of img n.keys0 ≡ Keys 0 e)
  pub keys1 : (e : ℕ) × (kind_of img n.keys1 ≡ Keys 1 e)
  pub commit : (e : ℕ) × (s : ℕ) × (kind_of img n.commit ≡ Commit e s)

-- both next numbers are 1 to 100,000,000
pub record Counted (n : Numbers) : Type 0 where
  pub sequence : (1 ≤ n.sequence) × (n.sequence ≤ last_number + 1)
  pub epoch : (1 ≤ n.epoch) × (n.epoch ≤ last_number + 1)

pub fit_over : (img img' : List ℕ) (r : Record) (n : Numbers) → Fit img r → Chosen img' n → Counted n
    → ((x : ℕ) → x < places → Named img r.map x → form_at img' (page_of r.map x) ≡ form_at img (page_of r.map x)) → Fit img' (with_numbers r n)
fit_over img img' r n f b c same =
    record {
      sequence = c.sequence;
      epoch = c.epoch;
      keys0 = b.keys0;
      keys1 = b.keys1;
      commit = b.commit;
      place = λ x h. go x h (f.place x h);
      apart = f.apart;
      letter = f.letter;
      used = f.used;
      named = f.named;
    }
  where
    go : (x : ℕ) → x < places → Vacant r.map x ⊎ Named img r.map x → Vacant r.map x ⊎ Named img' r.map x
    go x h (inl v) = inl v
    go x h (inr d) = inr (record { header = d.header; whole = same x h d ∙ d.whole; node = d.node; place = d.place; key = d.key })

pub fit-counted : (img : List ℕ) (r : Record) → Fit img r → Counted r.numbers
fit-counted img r f = record { sequence = f.sequence; epoch = f.epoch }

pub fit_chosen : (img : List ℕ) (r : Record) → Fit img r → Chosen img r.numbers
fit_chosen img r f = record { keys0 = f.keys0; keys1 = f.keys1; commit = f.commit }

-- ---- place x made vacant
-- the letter of a position where the key of place x, if it is live, was made d
pub released_at : (m letters : List ℕ) (x p : ℕ) → length letters ≡ positions → p < positions
    → get_or (released m letters x) p 0 ≡ cond (live m x && eqb (key_of m x) p) deleted_letter (get_or letters p 0)
released_at m letters x p full h = go (live m x) (ℕ_discrete p (key_of m x))
  where
    go : (t : Bool) → Dec (p ≡ key_of m x) → get_or (cond t (set letters (key_of m x) deleted_letter) letters) p 0 ≡ cond (t && eqb (key_of m x) p) deleted_letter (get_or letters p 0)
    go true (yes e) = rw (eq-eqb (key_of m x) p (sym e), e) (get_or-set_same letters (key_of m x) deleted_letter 0 (omega arith))
    go true (no e) = rw (ne_eqb (key_of m x) p (λ z. e (sym z))) (get_or-set_other letters (key_of m x) p deleted_letter 0 e)
    go false d = refl

module _ (img : List ℕ) (r : Record) (x : ℕ) (f : Fit img r) (size : size_right img ≡ true) (full : Full r) (below : x < places) where
  abbrev without : List ℕ
  without = put r.map x none none

  -- a position is that of place x
  abbrev its : ℕ → Bool
  its p = live r.map x && eqb (key_of r.map x) p

  letter_is : (p : ℕ) → p < positions → get_or (released r.map r.letters x) p 0 ≡ cond (its p) deleted_letter (get_or r.letters p 0)
  letter_is p h = released_at r.map r.letters x p full.letters_full h

  vacant : Vacant without x
  vacant = record { no_page = put_page r.map x none none full.map_full below; no_key = put_key r.map x none none full.map_full below }

  page_is : (y : ℕ) → y < places → (y ≡ x → ⊥) → page_of without y ≡ page_of r.map y
  page_is = page_stays r.map x none none full.map_full below

  key_is : (y : ℕ) → (y ≡ x → ⊥) → key_of without y ≡ key_of r.map y
  key_is = key_stays r.map x none none full.map_full below

  -- a position that is still named is not that of place x
  not_x : (p y : ℕ) → p < positions → key_of without y ≡ p → y ≡ x → ⊥
  not_x p y h e z = let v : key_of without y ≡ none = rw z vacant.no_key in omega arith

  -- place x names a position only if it is live
  x_live : (p : ℕ) → p < positions → key_of r.map x ≡ p → its p ≡ true
  x_live p h e = go (f.place x below)
    where
      go : Vacant r.map x ⊎ Named img r.map x → its p ≡ true
      go (inl v) = absurd (omega (arith, v.no_key))
      go (inr n) = and_intro (live r.map x) (eqb (key_of r.map x) p) (named_live img r f size x n) (eq-eqb (key_of r.map x) p e)

  pub emptied-fit : Fit img (emptied x r)
  emptied-fit =
      record {
        sequence = f.sequence;
        epoch = f.epoch;
        keys0 = f.keys0;
        keys1 = f.keys1;
        commit = f.commit;
        place = λ y h. place y h (ℕ_discrete y x) (f.place y h);
        apart = λ y z h k e l.
            let a = not_x (key_of without y) y l refl in
            let b = not_x (key_of without y) z l (sym e) in
            f.apart y z h k (sym (key_is y a) ∙ e ∙ key_is z b) (omega (arith, key_is y a));
        letter = λ p h. rw (letter_is p h) (letter (its p) (f.letter p h));
        used = λ p h u. used p h (its p) refl (sym (letter_is p h) ∙ u);
        named = λ p y h k e. letter_is p h ∙ named p y h k e (its p) refl;
      }
    where
      place : (y : ℕ) → y < places → Dec (y ≡ x) → Vacant r.map y ⊎ Named img r.map y → Vacant without y ⊎ Named img without y
      place y h (yes e) v = inl (rw e vacant)
      place y h (no e) (inl v) = inl (record { no_page = page_is y h e ∙ v.no_page; no_key = key_is y e ∙ v.no_key })
      place y h (no e) (inr n) = inr (record { header = n.header; whole = rw (page_is y h e) n.whole; node = n.node; place = n.place; key = n.key ∙ sym (key_is y e) })

      letter : (t : Bool) {l : ℕ} → (l ≡ free_letter) ⊎ (l ≡ used_letter) ⊎ (l ≡ deleted_letter)
          → (cond t deleted_letter l ≡ free_letter) ⊎ (cond t deleted_letter l ≡ used_letter) ⊎ (cond t deleted_letter l ≡ deleted_letter)
      letter true d = inr (inr refl)
      letter false d = d

      used : (p : ℕ) → p < positions → (t : Bool) → its p ≡ t → cond t deleted_letter (get_or r.letters p 0) ≡ used_letter → (y : ℕ) × (y < places) × (key_of without y ≡ p)
      used p h true t u = absurd (omega arith)
      used p h false t u =
          let w = f.used p h u in
          let o : w.0 ≡ x → ⊥ = λ e. true-false (x_live p h (rw (← e) w.2)) t in
          (w.0, w.1, key_is w.0 o ∙ w.2)

      named : (p y : ℕ) → p < positions → y < places → key_of without y ≡ p → (t : Bool) → its p ≡ t → cond t deleted_letter (get_or r.letters p 0) ≡ used_letter
      named p y h k e true t =
          let o = not_x p y h e in
          let a = and-true (live r.map x) (eqb (key_of r.map x) p) t in
          absurd (o (sym (live-apart img r f x y below k a.0 (eqb-true _ _ a.1 ∙ sym e ∙ key_is y o))))
      named p y h k e false t = let o = not_x p y h e in f.named p y h k (sym (key_is y o) ∙ e)

-- ---- the places of a file from an offset on
pub removed-fit : (img : List ℕ) (r : Record) (file offset : ℕ) → Fit img r → size_right img ≡ true → Full r → offset < count_of file_plan file → Fit img (removed r file offset)
unfolding removed
removed-fit img r file offset f size full right =
    (fold_keeps (λ t. Fit img t × Full t) emptied (rest_of file offset) (place_at file offset) r
    (λ x t a b k. (emptied-fit img t x k.0 size k.1 (omega (arith, file-end file (omega (arith, plan_length, count_file file_plan file offset right)))), still_full t (emptied x t) (emptied-as_long x t) k.1))
    (f, full)).0

-- ---- a node at a vacant place x, under a position p that is not used
module _ (img : List ℕ) (s : Record) (m : List ℕ) (x p : ℕ) (f : Fit img s) (vacant : Vacant s.map x) (below : x < places) (position : p < positions) (full : length s.letters ≡ positions)
    (unused : get_or s.letters p 0 ≡ used_letter → ⊥) (pages : (y : ℕ) → y < places → (y ≡ x → ⊥) → page_of m y ≡ page_of s.map y) (keys : (y : ℕ) → (y ≡ x → ⊥) → key_of m y ≡ key_of s.map y)
    (its-key : key_of m x ≡ p) (node : Named img m x) where
  abbrev letters' : List ℕ
  letters' = set s.letters p used_letter

  letter_there : get_or letters' p 0 ≡ used_letter
  letter_there = get_or-set_same s.letters p used_letter 0 (omega arith)

  letter_other : (q : ℕ) → (q ≡ p → ⊥) → get_or letters' q 0 ≡ get_or s.letters q 0
  letter_other q o = get_or-set_other s.letters p q used_letter 0 o

  -- no other place names p
  alone : (y : ℕ) → y < places → key_of m y ≡ p → Dec (y ≡ x) → y ≡ x
  alone y h e (yes z) = z
  alone y h e (no z) = absurd (unused (f.named p y position h (sym (keys y z) ∙ e)))

  pub node-fit : Fit img (record_of m letters' s.numbers)
  node-fit =
      record {
        sequence = f.sequence;
        epoch = f.epoch;
        keys0 = f.keys0;
        keys1 = f.keys1;
        commit = f.commit;
        place = λ y h. place y h (ℕ_discrete y x) (f.place y h);
        apart = λ y z h k e l. apart y z h k e l (ℕ_discrete y x) (ℕ_discrete z x);
        letter = λ q h. letter q h (ℕ_discrete q p);
        used = λ q h u. used q h u (ℕ_discrete q p);
        named = λ q y h k e. named q y h k e (ℕ_discrete y x);
      }
    where
      place : (y : ℕ) → y < places → Dec (y ≡ x) → Vacant s.map y ⊎ Named img s.map y → Vacant m y ⊎ Named img m y
      place y h (yes e) v = inr (rw e node)
      place y h (no e) (inl v) = inl (record { no_page = pages y h e ∙ v.no_page; no_key = keys y e ∙ v.no_key })
      place y h (no e) (inr n) = inr (record { header = n.header; whole = rw (pages y h e) n.whole; node = n.node; place = n.place; key = n.key ∙ sym (keys y e) })

      apart : (y z : ℕ) → y < places → z < places → key_of m y ≡ key_of m z → key_of m y < positions → Dec (y ≡ x) → Dec (z ≡ x) → y ≡ z
      apart y z h k e l (yes a) d = a ∙ sym (alone z k (sym e ∙ rw a its-key) d)
      apart y z h k e l (no a) (yes b) = alone y h (e ∙ rw b its-key) (no a) ∙ sym b
      apart y z h k e l (no a) (no b) = f.apart y z h k (sym (keys y a) ∙ e ∙ keys z b) (omega (arith, keys y a))

      letter : (q : ℕ) → q < positions → Dec (q ≡ p) → (get_or letters' q 0 ≡ free_letter) ⊎ (get_or letters' q 0 ≡ used_letter) ⊎ (get_or letters' q 0 ≡ deleted_letter)
      letter q h (yes e) = inr (inl (rw e letter_there))
      letter q h (no e) = rw (letter_other q e) (f.letter q h)

      used : (q : ℕ) → q < positions → get_or letters' q 0 ≡ used_letter → Dec (q ≡ p) → (y : ℕ) × (y < places) × (key_of m y ≡ q)
      used q h u (yes e) = (x, below, its-key ∙ sym e)
      used q h u (no e) =
          let w = f.used q h (sym (letter_other q e) ∙ u) in
          let o : w.0 ≡ x → ⊥ = λ z. let v : key_of s.map w.0 ≡ none = rw z vacant.no_key in omega (arith, w.2) in
          (w.0, w.1, keys w.0 o ∙ w.2)

      named : (q y : ℕ) → q < positions → y < places → key_of m y ≡ q → Dec (y ≡ x) → get_or letters' q 0 ≡ used_letter
      named q y h k e (yes z) = let w : q ≡ p = sym e ∙ rw z its-key in rw w letter_there
      named q y h k e (no z) =
          let u = f.named q y h k (sym (keys y z) ∙ e) in
          letter_other q (λ w. unused (rw (← w) u)) ∙ u
