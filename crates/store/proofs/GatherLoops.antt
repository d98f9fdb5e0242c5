-- The loops of a gather: its copies page by page of the block, and the pages that are found for them.
use Prim.Native.Nat.{ℕ, zero, suc, ◌+◌, ◌*◌, ◌-◌, ◌/◌, ◌%◌, ◌<◌, ◌≤◌}
use native.Mathlib.Omega.{arith}
use native.Mathlib.Decide.{dec_lt}
use mathlib.Core.Path.{◌≡◌, refl, sym, ap, ◌∙◌}
use mathlib.Core.Bool.{Bool, true, false, cond}
use mathlib.Core.List.{List, [], ◌∷◌, ◌++◌, map as each, append_assoc, append-nil}
use lib.Dec.{ltb}
use lib.ListN.{length, get_or, take, drop, set, replicate, length-set, length-append, length-map, length-replicate, drop_of_length-le}
use lib.Seq.{take-suc-set, take_all, get_or-set_other}
use borrow.Author.Tests.{ltb-true}
use Rattle.std.specs.List.{count_by}
use Rattle.std.proofs.lemmas.List.{map-append, get_or-map, drop_more, take_more}
use Rattle.std.proofs.lemmas.List.Sums.{sum_by-drop_more}
use Rattle.base.specs.Each.{Each}
use Rattle.base.specs.Search.{first_from, which_from, found}
use Rattle.base.proofs.Choice.{true-false}
use Rattle.base.proofs.Parts.{part_length}
use Rattle.base.proofs.Searches.{which_here, which_none}
use Rattle.page.specs.Frame.{header_size, payload_size, page_size}
use Rattle.page.specs.Plan.{places}
use Rattle.page.specs.Header.{last_number, with_number}
use Rattle.page.specs.Entry.{none}
use Rattle.page.specs.Page.{payload_of}
use Rattle.page.specs.declared.Frame.{Frame}
use Rattle.page.specs.declared.Form.TheVariants.{Whole}
use Rattle.page.proofs.Pages as Pages
use Rattle.image.specs.Size.{pages_in_block, blocks, pages, size_right}
use Rattle.image.specs.Look.{page_at, block_at, form_at}
use Rattle.image.specs.Step.{Step, program, Inside}
use Rattle.image.specs.Power.{Device, device, power_for, act, run}
use Rattle.image.specs.declared.Power.{Power}
use Rattle.image.proofs.Runs.{run_nil, run_cons, act-length, block_done_other}
use Rattle.image.proofs.Step.{page_of-same, page-length}
use Rattle.image.proofs.Looks.{sized, lowest_some}
use Rattle.image.proofs.Forms.{form_same}
use Rattle.store.specs.Record.{Record, record_of}
use Rattle.store.specs.Outcome.{left}
use Rattle.store.specs.Find.{is_open_but, fresh_page, or_else}
use Rattle.store.specs.Write.{next_sequence}
use Rattle.store.specs.Gather.{is_live_page, place_on, live_pages, header_in, copy_of, copied_all, gather_of}
use Rattle.store.specs.Targets.{open_page_from, new_page_from, page_after, pages_from, next_target, PlacesIn, place_in, pages_to, Moved, MovesIn, targets, copies_to, moved_to, sequences_used}
use Rattle.store.specs.Taken.{GatherTaken}
use Rattle.store.specs.declared.Numbers.{Numbers}
use Rattle.std.specs.Prelude.{Option, Some, None, is_some, MatchOption, ⊤, Err}
use Rattle.store.specs.Reply.{Done}
use Rattle.store.specs.declared.Error.TheVariants.{PowerCut}
use Rattle.store.proofs.BlockKinds.{data_outside}
use Rattle.store.proofs.Fits.{fits_is}
use Rattle.store.proofs.Renewals.{record_is}
use Rattle.store.proofs.Outcomes.{leaves, gather_outcome}
use Rattle.store.proofs.Verdicts.{gather-done}
use Rattle.store.proofs.Finds.{by_test, fresh_page_lem, new_page-is_empty}
use Rattle.store.proofs.Cuts.{run-left}
use Rattle.store.proofs.Gathers.{LiveIn, live_in_lem, live-place, live-few}
use Rattle.store.proofs.GatherRooms.{gather_gathering}
use Rattle.store.proofs.GatherTargets.{live-found, copy_same, IsTarget, Flat, copies_flat}

-- ---- a number that a test does not pick
which_skip : (p : ℕ → Bool) (n i : ℕ) → i < n → p i ≡ false → which_from p (n - i) i ≡ which_from p (n - (i + 1)) (i + 1)
unfolding which_from
which_skip p n i h e =
    let k : n - i ≡ suc (n - (i + 1)) = omega arith in
    let s : i + 1 ≡ suc i = omega arith in
    rw (k, e, s)

copy_length : (img : List ℕ) (g s : ℕ) → g * page_size + page_size ≤ length img → length (copy_of img g s) ≡ page_size
unfolding copy_of payload_of
copy_length img g s h =
    let l = page-length img g h in
    Pages.page-length (with_number s (header_in (form_at img g))) (payload_of (page_at img g)) (part_length (page_at img g) header_size payload_size (omega arith))

-- ---- a gather that is taken
-- its block is one of the image
pub data_inside : (img : List ℕ) (r : Record) (block : ℕ) → GatherTaken img r block → block < blocks img
data_inside img r block t = elim (dec_lt block (blocks img)) [
  | yes h ↦ h
  | no h ↦ absurd (true-false t.data_block (data_outside img r.numbers block (let z = sized img t.ready.size in omega (arith, z.full))))
]

module _ (img : List ℕ) (r : Record) (block n k : ℕ) (t : GatherTaken img r block) where
  abbrev gs : List ℕ
  gs = live_pages r.map block

  abbrev ts : List ℕ
  ts = targets block img r.numbers (length gs)

  abbrev first : ℕ
  first = block * pages_in_block

  -- the live pages from page i of the block on
  abbrev rest : ℕ → List ℕ
  rest i = which_from (is_live_page r.map) (first + pages_in_block - (first + i)) (first + i)

  pub flat : Flat block gs img r
  flat = copies_flat block gs img r (gather_gathering img r block (fits_is img r t.ready.fit) t.ready.size t.ready.buffers t.some_live
      t.numbers_left) (live-few r.map block) t.room

  -- the pages before page i are copied, and the pages us are left for the others
  pub record Moving (image map : List ℕ) (q : Power) (m : Numbers) (i : ℕ) (us : List ℕ) : Type 0 where
    pub bound : i ≤ pages_in_block
    pub steps : run (copies_to img (rest i) us m.sequence) (device q image) ≡ run (copies_to img gs ts r.numbers.sequence) (device (power_for n k) img)
    pub moved : moved_to r.map (rest i) us map ≡ moved_to r.map gs ts r.map
    pub used : sequences_used (length (rest i)) m ≡ sequences_used (length gs) r.numbers
    pub unused : m.sequence + length (rest i) ≤ last_number + 1
    pub counted : length us ≡ length (rest i)
    pub right : Each (IsTarget block img) us
    pub size : length image ≡ length img
    pub full : length map ≡ length r.map
    pub same : block_at image block ≡ block_at img block

  rest_first : rest 0 ≡ gs
  unfolding live_pages
  rest_first =
      let a : first + 0 ≡ first = omega arith in
      let b : first + pages_in_block - first ≡ pages_in_block = omega arith in
      rw (a, b)

  rest_skip : (i : ℕ) → i < pages_in_block → is_live_page r.map (first + i) ≡ false → rest i ≡ rest (i + 1)
  rest_skip i h e =
      let a : first + (i + 1) ≡ first + i + 1 = omega arith in
      rw a (which_skip (is_live_page r.map) (first + pages_in_block) (first + i) (omega arith) e)

  rest_copy : (i : ℕ) → i < pages_in_block → is_live_page r.map (first + i) ≡ true → rest i ≡ (first + i) ∷ rest (i + 1)
  rest_copy i h e =
      let a : first + (i + 1) ≡ first + i + 1 = omega arith in
      rw a (which_here (is_live_page r.map) (first + pages_in_block) (first + i) (omega arith) e)

  rest-none : rest pages_in_block ≡ []
  rest-none = which_none (is_live_page r.map) (first + pages_in_block) (first + pages_in_block) (omega arith)

  pub moving_first : Moving img r.map (power_for n k) r.numbers 0 ts
  moving_first =
      let e = rest_first in
      record {
        bound = omega arith;
        steps = rw e;
        moved = rw e;
        used = rw e;
        unused = rw e t.numbers_left;
        counted = rw e flat.counted;
        right = flat.right;
        size = refl;
        full = refl;
        same = refl;
      }

  -- page i is not live
  moving_skip : (image map : List ℕ) (q : Power) (m : Numbers) (i : ℕ) (us : List ℕ) → Moving image map q m i us → i < pages_in_block
      → is_live_page r.map (first + i) ≡ false → Moving image map q m (i + 1) us
  moving_skip image map q m i us w h e =
      let s = rest_skip i h e in
      record {
        bound = omega arith;
        steps = rw (← s) w.steps;
        moved = rw (← s) w.moved;
        used = rw (← s) w.used;
        unused = rw (← s) w.unused;
        counted = rw (← s) w.counted;
        right = w.right;
        size = w.size;
        full = w.full;
        same = w.same;
      }

  -- page i is live
  module _ (image map : List ℕ) (q : Power) (m : Numbers) (i to : ℕ) (us : List ℕ) (w : Moving image map q m i (to ∷ us)) (h : i < pages_in_block)
      (e : is_live_page r.map (first + i) ≡ true) where
    abbrev g : ℕ
    g = first + i

    node : LiveIn block img r.map g
    node = live_in_lem img r block (fits_is img r t.ready.fit) g (omega arith) e

    right : IsTarget block img to
    right = w.right.0

    abbrev page : List ℕ
    page = copy_of image g m.sequence

    page-here : page_at image g ≡ page_at img g
    page-here = let b : g / pages_in_block ≡ block = omega arith in page_of-same img image g (rw b w.same)

    inside : (g * page_size + page_size ≤ length image) × (to * page_size + page_size ≤ length image)
    inside = let z = sized img t.ready.size in (
      omega (arith, node.inside, z.paged, z.full, w.size),
      omega
          (arith, right.0, z.paged, z.full, w.size),
    )

    ins : Inside (length image) (program to page)
    ins = (inside.1, copy_length image g m.sequence inside.0)

    -- what the copy needs
    copy_able : ((g * page_size + page_size ≤ length image) × (to * page_size + page_size ≤ length image)) × ((f : Frame) × (form_at image g ≡ Whole f))
        × ((to < none) × (place_on r.map g < length map) × (m.sequence ≤ last_number))
    copy_able =
        let z = sized img t.ready.size in
        let u = w.unused in
        let s : length (rest i) ≡ suc (length (rest (i + 1))) = ap (λ (hs : List ℕ). length hs) (rest_copy i h e) in (
          inside,
          (node.header, form_same img image g page-here ∙ node.whole),
          (omega (arith, right.0, z.most), omega (arith, (live-place r.map g e).0, w.full, t.ready.buffers.map_full), omega arith),
        )

    moving_copy : (image' map' : List ℕ) (q' : Power) (m' : Numbers) → device q' image' ≡ act (program to page) (device q image)
        → map' ≡ set map (place_on r.map g) to → m' ≡ next_sequence m
        → Moving image' map' q' m' (i + 1) us
    moving_copy image' map' q' m' done placed next =
        let s = rest_copy i h e in
        let c : copy_of image g m.sequence ≡ copy_of img g m.sequence = copy_same img image g m.sequence page-here in
        record {
          bound = omega arith;
          steps = rw next (rw done (sym (run_cons _ _ _) ∙ rw c (rw s at w.steps)));
          moved = rw placed (rw s at w.moved);
          used = rw next (rw s at w.used);
          unused = rw next (let u : m.sequence + suc (length (rest (i + 1))) ≤ last_number + 1 = rw s at w.unused in omega arith);
          counted = let u : suc (length us) ≡ suc (length (rest (i + 1))) = rw s at w.counted in omega arith;
          right = w.right.1;
          size = ap (λ (x : Device). length x.image) done ∙ act-length (program to page) (device q image) ins ∙ w.size;
          full = rw placed (length-set map (place_on r.map g) to ∙ w.full);
          same = block_done_other (program to page) q q' image image' block done ins right.1 ∙ w.same;
        }

  -- the same by the table of places and pages
  module _ (image map : List ℕ) (q : Power) (m : Numbers) (i : ℕ) (moves : List (Option (ℕ × ℕ))) (w : Moving image map q m i (pages_to (drop i moves)))
      (h : i < pages_in_block) (tried : MovesIn r.map block ts moves) where
    left_is : drop i moves ≡ get_or moves i None ∷ drop (i + 1) moves
    left_is = drop_more moves i None (omega (arith, tried.placed.full, length-map moves place_in))

    placed : place_in (get_or moves i None) ≡ found places (place_on r.map (first + i))
    placed = sym (get_or-map place_in moves i None None (omega (arith, tried.placed.full, length-map moves place_in))) ∙ tried.placed.each i h

    is_live_lem : is_live_page r.map (first + i) ≡ is_some (place_in (get_or moves i None))
    is_live_lem = sym (live-found r.map (first + i)) ∙ ap (λ (o : Option ℕ). is_some o) (sym placed)

    pub moving_past : get_or moves i None ≡ None → Moving image map q m (i + 1) (pages_to (drop (i + 1) moves))
    moving_past e = moving_skip image map q m i _ (rw (left_is, e) at w) h (is_live_lem ∙ rw e)

    module _ (x to : ℕ) (e : get_or moves i None ≡ Some (x, to)) where
      live : is_live_page r.map (first + i) ≡ true
      live = is_live_lem ∙ rw e

      here : Moving image map q m i (to ∷ pages_to (drop (i + 1) moves))
      here = rw (left_is, e) at w

      place : place_on r.map (first + i) ≡ x
      place = (by_test _ _ _ (sym placed ∙ rw e)).1

      pub move_able : (((first + i) * page_size + page_size ≤ length image) × (to * page_size + page_size ≤ length image))
          × ((f : Frame) × (form_at image (first + i) ≡ Whole f)) × ((to < none) × (x < places) × (m.sequence ≤ last_number))
      move_able =
          let a = copy_able image map q m i to _ here h live in
          let p = place in
          (a.0, a.1, (a.2.0, omega (arith, (live-place r.map (first + i) live).0), a.2.2))

      pub move_done : (image' map' : List ℕ) (q' : Power) (m' : Numbers)
          → device q' image' ≡ act (program to (copy_of image (first + i) m.sequence)) (device q image)
          → map' ≡ set map x to → m' ≡ next_sequence m → Moving image' map' q' m' (i + 1) (pages_to (drop (i + 1) moves))
      move_done image' map' q' m' done moved next =
          moving_copy image map q m i to _ here h live image' map' q' m' done (rw (← place) at moved) next

  -- all pages are done: what the call leaves
  pub moving_last : (image map : List ℕ) (q : Power) (m : Numbers) (i : ℕ) (us : List ℕ) → Moving image map q m i us → pages_in_block ≤ i
      → leaves (cond q.on Done (Err PowerCut)) image (record_of map r.letters m) [] ≡ left n k (gather_of img r block) img
  moving_last image map q m i us w h =
      let e : i ≡ pages_in_block = omega (arith, w.bound) in
      let s : rest i ≡ [] = rw e rest-none in
      let f = flat in
      let o = gather_outcome img r block (gather-done img r block t) in
      let a : record_of map r.letters m ≡ copied_all block gs img r = record_is (copied_all block gs img r) (rw s at w.moved ∙ sym f.map)
      (sym f.letters) (rw s at w.used ∙ sym f.numbers) in
      let d : device q image ≡ run (copies_to img gs ts r.numbers.sequence) (device (power_for n k) img) = sym (run_nil (device q image))
      ∙ rw s at w.steps in
      rw a (run-left n k img image q o (d ∙ ap (λ (ss : List Step). run ss (device (power_for n k) img)) (sym f.steps)))

-- ---- the pages of the copies, found in turn
-- the places before place i of a table have their pages, and the others follow the last of these
pub record Finding (block : ℕ) (img : List ℕ) (r : Numbers) (at : List (Option ℕ)) (moves : List (Option (ℕ × ℕ))) (last : Option ℕ) (i : ℕ) : Type 0 where
  pub full : length moves ≡ length at
  pub inside : MatchOption last ⊤ (λ g. g < pages img)
  pub placed : each place_in (take i moves) ≡ take i at
  pub unplaced : (j : ℕ) → i ≤ j → get_or moves j None ≡ None
  pub counted : length (pages_to (take i moves)) + count_by is_some (drop i at) ≡ count_by is_some at
  pub found : targets block img r (count_by is_some at) ≡ pages_to (take i moves) ++ pages_from (Some block) img r (count_by is_some (drop i at)) (next_target block img r last)

pages_to-append : (xs ys : List (Option (ℕ × ℕ))) → pages_to (xs ++ ys) ≡ pages_to xs ++ pages_to ys
pages_to-append [] ys = refl
pages_to-append (Some m ∷ xs) ys = ap (λ ts. m.1 ∷ ts) (pages_to-append xs ys)
pages_to-append (None ∷ xs) ys = pages_to-append xs ys

places-append : (xs ys : List (Option (ℕ × ℕ))) → each place_in (xs ++ ys) ≡ each place_in xs ++ each place_in ys
places-append xs ys = map-append place_in xs ys

module _ (block : ℕ) (img : List ℕ) (r : Numbers) (at : List (Option ℕ)) where
  pub finding_first : Finding block img r at (replicate (length at) None) None 0
  finding_first = record {
    full = length-replicate (length at) None;
    inside = tt;
    placed = refl;
    unplaced = λ j h. go (length at) j;
    counted = omega arith;
    found = refl;
  }
    where
      go : (n j : ℕ) → get_or {A = Option (ℕ × ℕ)} (replicate n None) j None ≡ None
      go zero j = refl
      go (suc n) zero = refl
      go (suc n) (suc j) = go n j

  module _ (moves : List (Option (ℕ × ℕ))) (last : Option ℕ) (i : ℕ) (w : Finding block img r at moves last i) (h : i < length at) where
    -- how many are left for the places from i on
    left_by : (o : Option ℕ) → get_or at i None ≡ o → count_by is_some (drop i at) ≡ cond (is_some o) 1 0 + count_by is_some (drop (i + 1) at)
    left_by o e = sum_by-drop_more (λ (p : Option ℕ). cond (is_some p) 1 0) at i None h ∙ rw e

    -- place i is that of no live page
    pub finding_past : get_or at i None ≡ None → Finding block img r at moves last (i + 1)
    finding_past e =
        let n : count_by is_some (drop i at) ≡ count_by is_some (drop (i + 1) at) = left_by None e ∙ omega arith in
        let m : take (i + 1) moves ≡ take i moves ++ (None ∷ []) = rw (w.unplaced i (omega arith)) at (take_more moves i None (omega (arith, w.full))) in
        let p : pages_to (take (i + 1) moves) ≡ pages_to (take i moves) = rw m (pages_to-append (take i moves) (None ∷ []) ∙ append-nil (pages_to (take i moves))) in
        record {
          full = w.full;
          inside = w.inside;
          placed = rw (m, take_more at i None h, e) (places-append (take i moves) (None ∷ []) ∙ ap (λ xs. xs ++ (None ∷ [])) w.placed);
          unplaced = λ j k. w.unplaced j (omega arith);
          counted = rw p (rw n at w.counted);
          found = rw p (rw n at w.found);
        }

    -- it is that of one, and a page is found
    pub finding_next : (x u : ℕ) → u < pages img → get_or at i None ≡ Some x → next_target block img r last ≡ Some u
        → Finding block img r at (set moves i (Some (x, u))) (Some u) (i + 1)
    unfolding pages_from
    finding_next x u l e f =
        let n : count_by is_some (drop i at) ≡ suc (count_by is_some (drop (i + 1) at)) = left_by (Some x) e ∙ omega arith in
        let s : i + 1 ≡ suc i = omega arith in
        let m : take (i + 1) (set moves i (Some (x, u))) ≡ take i moves ++ (Some (x, u) ∷ []) = rw s (take-suc-set moves i (Some (x, u)) (omega (arith, w.full))) in
        let p : pages_to (take (i + 1) (set moves i (Some (x, u)))) ≡ pages_to (take i moves) ++ (u ∷ []) = rw m (pages_to-append (take i moves) (Some (x, u) ∷ [])) in
        record {
          full = length-set moves i (Some (x, u)) ∙ w.full;
          inside = l;
          placed = rw (m, take_more at i None h, e) (places-append (take i moves) (Some (x, u) ∷ []) ∙ ap (λ xs. xs ++ (Some x ∷ [])) w.placed);
          unplaced = λ j k. get_or-set_other moves i j (Some (x, u)) None (λ q. omega arith) ∙ w.unplaced j (omega arith);
          counted = rw p (omega (arith, length-append (pages_to (take i moves)) (u ∷ []), n, w.counted));
          found = rw p (w.found ∙ rw (n, f) (sym (append_assoc (pages_to (take i moves)) (u ∷ []) _)));
        }

    -- none is found for it
    pub finding_none : (x : ℕ) → get_or at i None ≡ Some x → next_target block img r last ≡ None
        → length (targets block img r (count_by is_some at)) ≡ count_by is_some at → ⊥
    unfolding pages_from
    finding_none x e f q =
        let n : count_by is_some (drop i at) ≡ suc (count_by is_some (drop (i + 1) at)) = left_by (Some x) e ∙ omega arith in
        let l : targets block img r (count_by is_some at) ≡ pages_to (take i moves) = w.found ∙ rw (n, f) (append-nil (pages_to (take i moves))) in
        omega (arith, ap (λ (xs : List ℕ). length xs) l, n, w.counted)

  -- all are found
  pub finding_last : (moves : List (Option (ℕ × ℕ))) (last : Option ℕ) (i : ℕ) → Finding block img r at moves last i → length at ≤ i
      → Moved at (targets block img r (count_by is_some at)) moves × (length (targets block img r (count_by is_some at)) ≡ count_by is_some at)
  unfolding pages_from
  finding_last moves last i w h =
      let m : take i moves ≡ moves = take_all i moves (omega (arith, w.full)) in
      let a : take i at ≡ at = take_all i at h in
      let d : drop i at ≡ [] = drop_of_length-le at h in
      let p : targets block img r (count_by is_some at) ≡ pages_to moves = rw (d, m) at w.found ∙ append-nil (pages_to moves) in
      let c : length (pages_to moves) + 0 ≡ count_by is_some at = rw (d, m) at w.counted in
      (record { placed = rw (m, a) at w.placed; in_order = sym p }, rw p (omega arith))

-- as many by another name
pub moves_in : (map : List ℕ) (block : ℕ) (img : List ℕ) (r : Numbers) (at : List (Option ℕ)) (moves : List (Option (ℕ × ℕ))) (n : ℕ) → count_by is_some at ≡ n
    → PlacesIn map block at → Moved at (targets block img r (count_by is_some at)) moves → MovesIn map block (targets block img r n) moves
moves_in map block img r at moves n e p w = record { placed = rw w.placed p; in_order = rw e at w.in_order }

-- the page after one of the image is one of the image
pub after_inside : (but : Option ℕ) (img : List ℕ) (r : Numbers) (last g : ℕ) → size_right img ≡ true → last < pages img → page_after but img r last ≡ Some g
    → g < pages img
unfolding new_page_from open_page_from
after_inside but img r last g size h = go (ltb (last % pages_in_block) (pages_in_block - 1)) refl
  where
    fresh : fresh_page img ≡ Some g → g < pages img
    fresh e =
        let f = fresh_page_lem img g e in
        let z = sized img size in
        omega (arith, f.1, lowest_some img (omega (arith, f.0)), z.paged)

    later : (x : Option ℕ) → open_page_from but img r (last / pages_in_block + 1) ≡ x → or_else x (fresh_page img) ≡ Some g → g < pages img
    later (Some t) e q =
        let a = (last / pages_in_block + 1) * pages_in_block in
        let i = first_from (is_open_but but img r) (pages img - a) a in
        let w = by_test (ltb i (pages img)) i t e in
        let s : t ≡ g = cc in
        omega (arith, ltb-true i (pages img) w.0, w.1)
    later None e q = fresh q

    go : (t : Bool) → ltb (last % pages_in_block) (pages_in_block - 1) ≡ t → cond t (Some (last + 1)) (new_page_from but img r (last / pages_in_block + 1)) ≡ Some g
        → g < pages img
    go true e q =
        let z = sized img size in
        let s : last + 1 ≡ g = cc in
        omega (arith, ltb-true (last % pages_in_block) (pages_in_block - 1) e, z.paged)
    go false e q = later (open_page_from but img r (last / pages_in_block + 1)) refl q

-- so is that of the next copy
pub target_inside : (block : ℕ) (img : List ℕ) (r : Numbers) (last : Option ℕ) (g : ℕ) → size_right img ≡ true → MatchOption last ⊤ (λ h. h < pages img)
    → next_target block img r last ≡ Some g → g < pages img
target_inside block img r None g size h e = (new_page-is_empty (Some block) img r g e).0
target_inside block img r (Some h) g size inside e = after_inside (Some block) img r h g size inside e
