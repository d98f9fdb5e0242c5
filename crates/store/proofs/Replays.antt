-- Mount's pass over the pages: what each step makes of a place, a letter, the blocks with events and the highest sequence; and what the whole pass leaves.
use Prim.Native.Nat.{ℕ, zero, suc, ◌+◌, ◌-◌, ◌*◌, ◌/◌, ◌%◌, ◌<◌, ◌≤◌, max}
use native.Mathlib.Omega.{arith}
use native.Mathlib.Nat.{zero-add}
use native.Mathlib.Decide.{dec_lt}
use mathlib.Core.Path.{◌≡◌, refl, sym, ap, ◌∙◌}
use mathlib.Core.Bool.{Bool, true, false, cond, not, ◌&&◌, ◌||◌, and-true as and-true-right, and-false, or-false}
use mathlib.Core.List.{List}
use lib.Dec.{eqb, leb, ltb}
use lib.ListN.{length, get_or, set, replicate, get_or-replicate}
use lib.Seq.{get_or-set_same, get_or-set_other, ext_get_or}
use borrow.Author.Tests.{eq-eqb, ne_eqb, le-leb, lt-leb, lt-ltb, le-ltb, eqb-true, eqb-false}
use Rattle.base.specs.Search.{any_from, highest_from}
use Rattle.base.specs.Fold.{fold_from, list_from}
use Rattle.base.proofs.Choice.{and-true, and_intro, true-false, cond_same}
use Rattle.base.proofs.Searches.{any_holds, any_intro, any_join, highest_join}
use Rattle.base.proofs.Folds.{fold_join, length-list_from, list_from_at}
use Rattle.page.specs.Plan.{file_plan, last_file, places, count_of, start_of}
use Rattle.page.specs.Header.{node_letter, cut_off_letter, in_range, is_event_letter}
use Rattle.page.specs.Key.{positions}
use Rattle.page.specs.Entry.{none, free_letter, deleted_letter}
use Rattle.page.specs.declared.Frame.{Frame}
use Rattle.page.specs.declared.Form.{Form}
use Rattle.page.specs.declared.Form.TheVariants.{Empty, Whole, Torn, Spoilt}
use Rattle.page.proofs.Plans.{start-after, plan_sum, place_at_lem}
use Rattle.page.proofs.Ranges.{node_range, cut_off_range}
use Rattle.image.specs.Size.{block_size, pages_in_block, most_blocks, blocks, pages, size_right}
use Rattle.image.specs.Look.{letter_at, block_empty, form_at}
use Rattle.image.proofs.Empties.{empty_block_page}
use Rattle.image.proofs.Looks.{sized, block_inside}
use Rattle.store.specs.Kind.{page_in, kind_of, headed}
use Rattle.store.specs.Record.{map_size}
use Rattle.store.specs.Mount.{covered_in, letter_in, entry_in, Decision, by_entry, removes, sets, cuts, decide_by, decision, mount_map, mount_scratch, spends, is_spent, unused_letter, sequence_of, has_above}
use Rattle.store.specs.Write.{place_at}
use Rattle.store.specs.Taken.{Planned}
use Rattle.store.specs.Replay.{Pass, held_at, EachPlace, EachLetter, outranks, above_of, Passed, Replayed}
use Rattle.store.specs.declared.Kind.TheVariants.{Commit}
use Rattle.store.proofs.BlockKinds.{empty_form, whole-letter, torn-letter, commit_inside_lem}
use Rattle.store.proofs.Decisions.{set_by, cut_by, mount_map-length, mount-page, mount-key, mount_scratch-length, mount-sequence}

-- two tests, in either order
swap_tests : {A : Type 0} (a b : Bool) (x y : A) → cond a (cond b x y) y ≡ cond b (cond a x y) y
swap_tests true true x y = refl
swap_tests true false x y = refl
swap_tests false true x y = refl
swap_tests false false x y = refl

-- neither of two tests
or_fails : (a b : Bool) → a || b ≡ false → (a ≡ false) × (b ≡ false)
or_fails true b e = absurd (true-false refl e)
or_fails false b e = (refl, e)

-- ---- places in a row
-- each place from first up to x is changed by f
abbrev pub row_by : (ℕ → Decision → Decision) → ℕ → ℕ → ℕ → Decision → Decision
row_by f first x y held = cond (leb first y && ltb y x) (f y held) held

-- what an event makes of them
abbrev pub row_taken : Decision → ℕ → ℕ → ℕ → Decision → Decision
row_taken d = row_by (λ y. outranks d)

module _ (f : ℕ → Decision → Decision) (first : ℕ) where
  pub row-none : (map scratch : List ℕ) → EachPlace (row_by f first first) map scratch map scratch
  row-none map scratch y h =
      elim (dec_lt y first) [
        | yes l ↦ rw (lt-leb first y l)
        | no l ↦ rw (le-leb first y (omega arith), le-ltb y first (omega arith))
      ]

  one_more : (x y : ℕ) (held : Decision) → first ≤ x → cond (eqb x y) (f y (row_by f first x y held)) (row_by f first x y held) ≡ row_by f first (x + 1) y held
  one_more x y held after =
      elim (dec_lt y x) [
        | yes l ↦ rw (ne_eqb x y (λ e. omega arith), lt-ltb y x l, lt-ltb y (x + 1) (omega arith))
        | no l ↦ elim (dec_lt x y) [
          | yes m ↦ rw (ne_eqb x y (λ e. omega arith), le-leb first y (omega arith), le-ltb y x (omega arith), le-ltb y (x + 1) (omega arith))
          | no m ↦ rw (eq-eqb x y (omega arith), le-leb first y (omega arith), le-ltb y x (omega arith), lt-ltb y (x + 1) (omega arith))
        ]
      ]

  pub row_next : (map₀ scratch₀ map scratch map' scratch' : List ℕ) (x : ℕ) → first ≤ x → EachPlace (row_by f first x) map₀ scratch₀ map scratch
      → EachPlace (λ y held. cond (eqb x y) (f y held) held) map scratch map' scratch' → EachPlace (row_by f first (x + 1)) map₀ scratch₀ map' scratch'
  row_next map₀ scratch₀ map scratch map' scratch' x after so_far next y h =
      next y h
      ∙ ap (λ (held : Decision). cond (eqb x y) (f y held) held) (so_far y h)
      ∙ one_more x y (held_at map₀ scratch₀ y) after

-- ---- one event
module _ (s g : ℕ) (f : Frame) where
  -- at or below the covered sequence, or no N and no D, a page decides nothing
  pub covered_stays : (x : ℕ) (d : Decision) → f.number ≤ s → d ≡ decide_by s x g (Whole f) d
  covered_stays x d low = rw (le-ltb s f.number low)

  pub other_stays : (x : ℕ) (d : Decision) → (f.kind ≡ node_letter → ⊥) → (f.kind ≡ cut_off_letter → ⊥) → d ≡ decide_by s x g (Whole f) d
  unfolding sets cuts
  other_stays x d no_Node no-cut-off =
      rw (ne_eqb f.kind node_letter no_Node, ne_eqb f.kind cut_off_letter no-cut-off)
      (sym (cond_same (ltb s f.number && leb d.sequence f.number) d))

  -- above it N takes its place
  pub node_takes : (map scratch map' scratch' : List ℕ) (at : ℕ) → s < f.number → f.kind ≡ node_letter → Planned f.unit f.part → at ≡ place_at f.unit f.part
      → EachPlace (λ y held. cond (eqb at y) (outranks (set_by g f) held) held) map scratch map' scratch'
      → EachPlace (λ x. decide_by s x g (Whole f)) map scratch map' scratch'
  unfolding sets cuts
  node_takes map scratch map' scratch' at above node planned here takes x h =
      takes x h
      ∙ rw (here, lt-ltb s f.number above, node, place_at_lem file_plan f.unit f.part planned.offset_right)
      (swap_tests (eqb (place_at f.unit f.part) x) (leb (get_or scratch x 0) f.number) (set_by g f) (held_at map scratch x))

  -- and D the places of its file from its offset on
  pub cut_off_takes : (map scratch map' scratch' : List ℕ) (first start count : ℕ) → s < f.number → f.kind ≡ cut_off_letter
      → first ≡ place_at f.unit f.part → start ≡ start_of file_plan f.unit → count ≡ count_of file_plan f.unit
      → EachPlace (row_taken (cut_by f) first (start + count)) map scratch map' scratch'
      → EachPlace (λ x. decide_by s x g (Whole f)) map scratch map' scratch'
  unfolding sets cuts removes
  cut_off_takes map scratch map' scratch' first start count above cut_off here starts counts takes x h =
      takes x h
      ∙ rw (here, starts, counts, lt-ltb s f.number above, cut_off)
      (swap_tests (leb (place_at f.unit f.part) x && ltb x (start_of file_plan f.unit + count_of file_plan f.unit)) (leb (get_or scratch x 0) f.number) (cut_by f) (held_at map scratch x))

-- the places of a file end with the plan
pub file-end : (file : ℕ) → file ≤ last_file → start_of file_plan file + count_of file_plan file ≤ places
file-end file h = rw plan_sum at (start-after file_plan file (length file_plan) (omega arith))

-- what a header in range says of its file, offset and key
pub node-planned : (f : Frame) → f.kind ≡ node_letter → in_range f ≡ true → Planned f.unit f.part × (f.key < positions)
node-planned f k e = let r = (node_range f k).0 e in (record { file_right = r.file; offset_right = r.offset }, omega (arith, r.position))

pub cut_off-planned : (f : Frame) → f.kind ≡ cut_off_letter → in_range f ≡ true → Planned f.unit f.part
cut_off-planned f k e = let r = (cut_off_range f k).0 e in record { file_right = r.file; offset_right = r.offset }

-- ---- letters
-- ---- pages in a row
-- none leave all as it is
pub passed_none : (img : List ℕ) (s g : ℕ) (t : Pass) → Passed img s 0 g t t
unfolding fold_from any_from highest_from
passed_none img s g t = record { place = λ x h. refl; letter = λ p h. refl; event = λ b h. refl; highest = omega arith }

-- some, and then the next
pub passed_join : (img : List ℕ) (s m n g : ℕ) (t u v : Pass) → Passed img s m g t u → Passed img s n (g + m) u v → Passed img s (m + n) g t v
passed_join img s m n g t u v a b =
    record {
      place = λ x h.
          let f : ℕ → Decision → Decision = λ i. decide_by s x i (form_at img i) in
          b.place x h ∙ ap (fold_from f n (g + m)) (a.place x h) ∙ sym (fold_join f m n g (held_at t.map t.scratch x));
      letter = λ p h.
          b.letter p h
          ∙ ap (cond (any_from (λ i. spends s p (form_at img i)) n (g + m)) deleted_letter) (a.letter p h)
          ∙ either (λ i. spends s p (form_at img i)) deleted_letter (get_or t.letters p 0);
      event = λ c h. b.event c h ∙ ap (λ (y : Bool). any_from (above_of img s c) n (g + m) || y) (a.event c h) ∙ any_of (above_of img s c) (get_or t.events c false);
      highest = b.highest ∙ rw (a.highest, highest_join (λ i. sequence_of (form_at img i)) m n g) (omega arith);
    }
  where
    go : (a b : Bool) (x y : ℕ) → cond b x (cond a x y) ≡ cond (a || b) x y
    go true true x y = refl
    go true false x y = refl
    go false true x y = refl
    go false false x y = refl

    either : (p : ℕ → Bool) (x y : ℕ) → cond (any_from p n (g + m)) x (cond (any_from p m g) x y) ≡ cond (any_from p (m + n) g) x y
    either p x y = go (any_from p m g) (any_from p n (g + m)) x y ∙ ap (λ (c : Bool). cond c x y) (sym (any_join p m n g))

    of_three : (a b y : Bool) → b || (a || y) ≡ (a || b) || y
    of_three true true y = refl
    of_three true false y = refl
    of_three false true y = refl
    of_three false false y = refl

    any_of : (p : ℕ → Bool) (y : Bool) → any_from p n (g + m) || (any_from p m g || y) ≡ any_from p (m + n) g || y
    any_of p y = of_three (any_from p m g) (any_from p n (g + m)) y ∙ ap (λ (c : Bool). c || y) (sym (any_join p m n g))

-- as a loop over the pages of a block has it, from page first on, and as one over the blocks has it
pub passed_next : (img : List ℕ) (s first g : ℕ) (t u v : Pass) → first ≤ g → Passed img s (g - first) first t u → Passed img s 1 g u v → Passed img s (g + 1 - first) first t v
passed_next img s first g t u v h a b =
    let k : first + (g - first) ≡ g = omega arith in
    let n : g - first + 1 ≡ g + 1 - first = omega arith in
    rw n at (passed_join img s (g - first) 1 first t u v a (rw k b))

pub block_passed : (img : List ℕ) (s b : ℕ) (t u v : Pass) → Passed img s (b * pages_in_block) 0 t u → Passed img s pages_in_block (b * pages_in_block) u v → Passed img s ((b + 1) * pages_in_block) 0 t v
block_passed img s b t u v a c =
    let n : b * pages_in_block + pages_in_block ≡ (b + 1) * pages_in_block = omega arith in
    rw n at (passed_join img s (b * pages_in_block) pages_in_block 0 t u v a (rw zero-add c))

-- one page, from what it makes of each list
pub page-passed : (img : List ℕ) (s g : ℕ) (t t' : Pass) (m : Form) → m ≡ form_at img g → g / pages_in_block < length t.events
    → EachPlace (λ x. decide_by s x g m) t.map t.scratch t'.map t'.scratch
    → EachLetter (λ p l. cond (spends s p m) deleted_letter l) t.letters t'.letters
    → t'.events ≡ cond (ltb s (sequence_of m)) (set t.events (g / pages_in_block) true) t.events
    → t'.highest ≡ max t.highest (sequence_of m)
    → Passed img s 1 g t t'
unfolding fold_from any_from highest_from
page-passed img s g t t' m form inside places-by letters-by events-by highest-by =
    record {
      place = λ x h. places-by x h ∙ ap (λ (m : Form). decide_by s x g m (held_at t.map t.scratch x)) form;
      letter = λ p h. letters-by p h ∙ rw (form, or-false);
      event = λ b h. ap (λ (l : List Bool). get_or l b false) events-by ∙ rw (form, or-false) (go (ltb s (sequence_of (form_at img g))) b);
      highest = highest-by ∙ rw form (omega arith);
    }
  where
    at : (e : Bool) (b : ℕ) → eqb (g / pages_in_block) b ≡ e → get_or (set t.events (g / pages_in_block) true) b false ≡ e || get_or t.events b false
    at true b e = let q : g / pages_in_block ≡ b = eqb-true _ _ e in rw (← q) (get_or-set_same t.events (g / pages_in_block) true false inside)
    at false b e = let apart = eqb-false (g / pages_in_block) b e in get_or-set_other t.events (g / pages_in_block) b true false (λ q. apart (sym q))

    go : (h : Bool) (b : ℕ) → get_or (cond h (set t.events (g / pages_in_block) true) t.events) b false ≡ eqb (g / pages_in_block) b && h || get_or t.events b false
    go true b = rw and-true-right (at (eqb (g / pages_in_block) b) b refl)
    go false b = rw and-false

-- a page that is no whole or torn N or D page
module _ (s g : ℕ) where
  idle_place : (m : Form) (x : ℕ) (d : Decision) → headed m ≡ false → d ≡ decide_by s x g m d
  idle_place Empty x d e = refl
  idle_place (Torn f) x d e = refl
  idle_place Spoilt x d e = refl
  idle_place (Whole f) x d e = let k = or_fails (eqb f.kind node_letter) (eqb f.kind cut_off_letter) e in other_stays s g f x d (eqb-false _ _ k.0) (eqb-false _ _ k.1)

  idle_letter : (m : Form) (p : ℕ) → headed m ≡ false → spends s p m ≡ false
  idle_letter Empty p e = refl
  idle_letter (Whole f) p e = rw (or_fails (eqb f.kind node_letter) (eqb f.kind cut_off_letter) e).0
  idle_letter (Torn f) p e = rw (or_fails (eqb f.kind node_letter) (eqb f.kind cut_off_letter) e).0
  idle_letter Spoilt p e = refl

  idle_sequence : (m : Form) → headed m ≡ false → sequence_of m ≡ 0
  idle_sequence Empty e = refl
  idle_sequence (Whole f) e = rw e
  idle_sequence (Torn f) e = rw e
  idle_sequence Spoilt e = refl

pub page_idle : (img : List ℕ) (s g : ℕ) (t : Pass) → g / pages_in_block < length t.events → headed (form_at img g) ≡ false → Passed img s 1 g t t
page_idle img s g t inside e =
    page-passed img s g t t (form_at img g) refl inside
    (λ x h. idle_place s g (form_at img g) x (held_at t.map t.scratch x) e)
    (λ p h. rw (idle_letter s g (form_at img g) p e))
    (rw (idle_sequence s g (form_at img g) e, le-ltb s 0 (omega arith)))
    (rw (idle_sequence s g (form_at img g) e) (omega arith))

-- and pages in a row that are none
pages_idle : (img : List ℕ) (s n g : ℕ) (t : Pass) → ((i : ℕ) → g ≤ i → i < g + n → i / pages_in_block < length t.events)
    → ((i : ℕ) → g ≤ i → i < g + n → headed (form_at img i) ≡ false) → Passed img s n g t t
pages_idle img s zero g t inside e = passed_none img s g t
pages_idle img s (suc n) g t inside e =
    let k : 1 + n ≡ suc n = omega arith in
    rw k at (passed_join img s 1 n g t t t (page_idle img s g t (inside g (omega arith) (omega arith)) (e g (omega arith) (omega arith)))
    (pages_idle img s n (g + 1) t (λ i h l. inside i (omega arith) (omega arith)) (λ i h l. e i (omega arith) (omega arith))))

-- an empty block leaves all as it is
pub block_idle : (img : List ℕ) (s b : ℕ) (t : Pass) → b < length t.events → block_empty img b ≡ true → Passed img s pages_in_block (b * pages_in_block) t t
block_idle img s b t inside empty =
    pages_idle img s pages_in_block (b * pages_in_block) t (λ i h l. omega arith)
    (λ i h l.
    let k : i / pages_in_block ≡ b = omega arith in
    ap headed (empty_form img i (empty_block_page img i (rw k empty))))

-- a page that begins with N or D and has a header: what it does to each list goes by the header
module _ (img : List ℕ) (s g : ℕ) (f : Frame) (t t' : Pass) (letter : is_event_letter (letter_at img g) ≡ true) (inside : g / pages_in_block < length t.events)
    (letters : EachLetter (λ p l. cond (eqb f.kind node_letter && ltb s f.number && eqb f.key p) deleted_letter l) t.letters t'.letters)
    (events : t'.events ≡ cond (ltb s f.number) (set t.events (g / pages_in_block) true) t.events)
    (highest : t'.highest ≡ max t.highest f.number) where
  pub whole-passed : form_at img g ≡ Whole f → EachPlace (λ x. decide_by s x g (Whole f)) t.map t.scratch t'.map t'.scratch → Passed img s 1 g t t'
  whole-passed e places =
      let k : is_event_letter f.kind ≡ true = ap is_event_letter (whole-letter img g f e) ∙ letter in
      page-passed img s g t t' (Whole f) (sym e) inside places letters (rw k events) (rw k highest)

  pub torn-passed : form_at img g ≡ Torn f → t'.map ≡ t.map → t'.scratch ≡ t.scratch → Passed img s 1 g t t'
  torn-passed e map scratch =
      let k : is_event_letter f.kind ≡ true = ap is_event_letter (torn-letter img g f e) ∙ letter in
      page-passed img s g t t' (Torn f) (sym e) inside (λ x h. rw (map, scratch)) letters (rw k events) (rw k highest)

-- a page of an image stands in one of at most 256 blocks, and its number fits a map
pub page_most : (img : List ℕ) (g : ℕ) → size_right img ≡ true → g < pages img → (g / pages_in_block < most_blocks) × (g < none)
page_most img g size h = let z = sized img size in (omega (arith, z.most, z.paged), omega (arith, z.most, z.paged))

-- ---- the whole pass
-- a whole commit block stands in the image
pub commit_held : (img : List ℕ) (c e s : ℕ) → size_right img ≡ true → kind_of img c ≡ Commit e s → c * block_size + block_size ≤ length img
commit_held img c e s size k = let z = sized img size in block_inside img c (commit_inside_lem img c e s (omega (arith, z.full)) k)

-- the pages of the image that are events of block b above sequence s are those of the block
module _ (img : List ℕ) (s b : ℕ) (size : size_right img ≡ true) (inside : b < blocks img) where
  in_image : has_above img s b ≡ true → any_from (above_of img s b) (pages img) 0 ≡ true
  in_image e =
      let w = any_holds (λ i. ltb s (sequence_of (form_at img (page_in b i)))) pages_in_block 0 e in
      let z = sized img size in
      let k : page_in b w.0 / pages_in_block ≡ b = omega (arith, w.2) in
      any_intro (above_of img s b) (pages img) 0 (page_in b w.0) (omega arith) (omega (arith, w.2, z.paged)) (and_intro _ _ (eq-eqb _ _ k) w.3)

  in_block : any_from (above_of img s b) (pages img) 0 ≡ true → has_above img s b ≡ true
  in_block e =
      let w = any_holds (above_of img s b) (pages img) 0 e in
      let a = and-true (eqb (w.0 / pages_in_block) b) (ltb s (sequence_of (form_at img w.0))) w.3 in
      let q : w.0 / pages_in_block ≡ b = eqb-true _ _ a.0 in
      let k : page_in b (w.0 % pages_in_block) ≡ w.0 = omega (arith, q) in
      any_intro (λ i. ltb s (sequence_of (form_at img (page_in b i)))) pages_in_block 0 (w.0 % pages_in_block) (omega arith) (omega arith) (rw k a.1)

  block_events : any_from (above_of img s b) (pages img) 0 ≡ has_above img s b
  block_events = go (any_from (above_of img s b) (pages img) 0) (has_above img s b) in_block in_image
    where
      go : (x y : Bool) → (x ≡ true → y ≡ true) → (y ≡ true → x ≡ true) → x ≡ y
      go true y f g = sym (f refl)
      go false true f g = g refl
      go false false f g = refl

-- the lists have their lengths
pub record Full (t : Pass) : Type 0 where
  pub map : length t.map ≡ map_size
  pub letters : length t.letters ≡ positions
  pub scratch : length t.scratch ≡ places

-- the pass begins with what the commit in block c says
pub record Begun (img : List ℕ) (c : ℕ) (t : Pass) : Type 0 where
  pub place : (x : ℕ) → x < places → held_at t.map t.scratch x ≡ by_entry (entry_in img c x)
  pub letter : (p : ℕ) → p < positions → get_or t.letters p 0 ≡ cond (eqb (letter_in img c p) free_letter) free_letter deleted_letter
  pub events : t.events ≡ replicate most_blocks false
  pub highest : t.highest ≡ 0

module _ (img : List ℕ) (c e s : ℕ) (size : size_right img ≡ true) (commit : kind_of img c ≡ Commit e s) (t t' : Pass) (begun : Begun img c t)
    (passed : Passed img s (pages img) 0 t t') (full : Full t') where
  held_decision : (x : ℕ) → x < places → held_at t'.map t'.scratch x ≡ decision img c x
  unfolding decision covered_in
  held_decision x h = passed.place x h ∙ rw (begun.place x h, commit)

  held_letter : (p : ℕ) → p < positions → get_or t'.letters p 0 ≡ unused_letter img c p
  unfolding is_spent covered_in
  held_letter p h =
      passed.letter p h
      ∙ rw (begun.letter p h, commit) (go (eqb (letter_in img c p) free_letter) (any_from (λ g. spends s p (form_at img g)) (pages img) 0))
    where
      go : (f a : Bool) → cond a deleted_letter (cond f free_letter deleted_letter) ≡ cond (not f || a) deleted_letter free_letter
      go true true = refl
      go true false = refl
      go false true = refl
      go false false = refl

  halves : (i : ℕ) → i < length t'.map → get_or t'.map i none ≡ get_or (mount_map img c) i none
  halves i h =
      let l = full.map in
      elim (dec_lt i places) [
        | yes m ↦ ap (λ (d : Decision). d.page) (held_decision i m) ∙ sym (mount-page img c i m)
        | no m ↦ let k : places + (i - places) ≡ i = omega arith in
            rw k at (ap (λ (d : Decision). d.key) (held_decision (i - places) (omega arith)) ∙ sym (mount-key img c (i - places) (omega arith)))
      ]

  pub replayed : Replayed img c t'
  unfolding covered_in
  replayed =
      record {
        map = ext_get_or none t'.map (mount_map img c) (full.map ∙ sym (mount_map-length img c)) halves;
        scratch = ext_get_or 0 t'.scratch (mount_scratch img c) (full.scratch ∙ sym (mount_scratch-length img c))
            (λ i h. let m : i < places = rw full.scratch at h in ap (λ (d : Decision). d.sequence) (held_decision i m) ∙ sym (mount-sequence img c i m));
        letters = ext_get_or 0 t'.letters (list_from (unused_letter img c) positions 0) (full.letters ∙ sym (length-list_from (unused_letter img c) positions 0))
            (λ i h.
            let m : i < positions = rw full.letters at h in
            held_letter i m ∙ sym (list_from_at (unused_letter img c) positions 0 i 0 m ∙ ap (unused_letter img c) (zero-add i)));
        events = λ b h.
            let z = sized img size in
            passed.event b (omega (arith, z.most))
            ∙ rw (begun.events, get_or-replicate {A = Bool} most_blocks b false false (omega (arith, z.most)), block_events img s b size h, commit) (or-false (has_above img s b));
        highest = passed.highest ∙ rw begun.highest (omega arith);
      }
