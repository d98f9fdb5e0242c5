-- A gather's copies as code makes them: their pages are found on the image before the first copy, each from the one before it.
use Prim.Native.Nat.{ℕ, zero, suc, ◌+◌, ◌*◌, ◌-◌, ◌/◌, ◌%◌, ◌<◌, ◌≤◌}
use native.Mathlib.Omega.{arith}
use native.Mathlib.Decide.{ℕ_discrete, dec_lt}
use mathlib.Core.Path.{◌≡◌, refl, sym, ap, subst, ◌∙◌}
use mathlib.Core.Logic.{◌⊎◌, inl, inr}
use mathlib.Core.Bool.{Bool, true, false, cond, ◌&&◌, and-false}
use mathlib.Core.List.{List, [], ◌∷◌}
use lib.Dec.{eqb, leb, ltb}
use lib.ListN.{length, get_or, set}
use borrow.Author.Tests.{eq-eqb, ne_eqb, lt-ltb, le-ltb, leb-true}
use Rattle.std.specs.List.{count_by}
use Rattle.std.proofs.lemmas.List.Recursion.{is_sum_by}
use Rattle.base.specs.Each.{Each}
use Rattle.base.specs.Search.{first_from, count_from, found}
use Rattle.base.proofs.Choice.{and-true}
use Rattle.base.proofs.Searches.{first_bounds, first_holds, first_least, first_is, first_agree, first_all, any_fails, count_agree, length_which}
use Rattle.page.specs.Plan.{places}
use Rattle.page.specs.Entry.{none}
use Rattle.image.specs.Size.{pages_in_block, blocks, pages}
use Rattle.image.specs.Look.{page_at, page_empty, block_empty, lowest_empty}
use Rattle.image.specs.Step.{Step, program, whole}
use Rattle.image.proofs.Looks.{sized}
use Rattle.image.proofs.Empties.{empty_block_page}
use Rattle.image.proofs.Forms.{form_same}
use Rattle.store.specs.Kind.{page_in, is_chosen, is_data}
use Rattle.store.specs.Record.{Record, page_of, live}
use Rattle.store.specs.Find.{is_open, is_outside, is_open_but, fresh_page, or_else, new_page_but, is_found, found_at}
use Rattle.store.specs.Write.{next_sequence}
use Rattle.store.specs.Gather.{is_on, is_live_page, place_on, live_pages, is_gathered, copy_of, copy_to, copy_step, copied, copy_steps, copied_all, room_for_all}
use Rattle.store.specs.Targets.{PlacesIn, open_page_from, new_page_from, page_after, pages_from, targets, copies_to, moved_to, sequences_used}
use Rattle.store.specs.declared.Numbers.{Numbers}
use Rattle.std.specs.Prelude.{Option, Some, None, is_some}
use Rattle.store.proofs.Finds.{by_test, found_is, fresh_page_lem, OpenPage, FreshPage, new_page_lem, open_is_new}
use Rattle.store.proofs.Gathers.{LiveIn, each_with, Copying, live-place, copy_empty, copy_apart, page-same, page_old, page_new, data_filled}
use Rattle.store.proofs.Fits.{Fit}
use Rattle.store.proofs.GatherSearches.{count_shift}
use Rattle.store.proofs.GatherRooms.{Gathering, live_data, alone, gathering_next, unchosen_empty, same_length, empty_other, block_other, block_here, data_here, open_other, shut_before, outside_is, chosen_not_data, as_many}

-- ---- a search whose first numbers fail
pub first_later : (p : ℕ → Bool) (n a : ℕ) → a ≤ n → ((h : ℕ) → h < a → p h ≡ false) → first_from p n 0 ≡ first_from p (n - a) a
first_later p n a l f =
    let b = first_bounds p (n - a) a in
    first_is p n 0 (first_from p (n - a) a) (omega arith) (omega (arith, b.1))
    (λ h. first_holds p (n - a) a (omega arith))
    (λ h k m. elim (dec_lt h a) [
      | yes q ↦ f h q
      | no q ↦ first_least p (n - a) a h (omega arith) m
    ])

-- ---- the search does not look at the next sequence
new_page_next : (but : Option ℕ) (img : List ℕ) (r : Numbers) (b : ℕ) → new_page_from but img (next_sequence r) b ≡ new_page_from but img r b
unfolding new_page_from open_page_from is_open is_data
new_page_next but img r b = refl

new_page-whole : (but : Option ℕ) (img : List ℕ) (r : Numbers) → new_page_but but img (next_sequence r) ≡ new_page_but but img r
unfolding new_page_but is_open is_data
new_page-whole but img r = refl

pages_next : (but : Option ℕ) (img : List ℕ) (r : Numbers) (m : ℕ) (x : Option ℕ) → pages_from but img (next_sequence r) m x ≡ pages_from but img r m x
unfolding pages_from
pages_next but img r zero x = refl
pages_next but img r (suc m) (Some t) =
    ap (λ (ts : List ℕ). t ∷ ts)
    (ap (λ (y : Option ℕ). pages_from but img (next_sequence r) m (cond (ltb (t % pages_in_block) (pages_in_block - 1)) (Some (t + 1)) y))
    (new_page_next but img r (t / pages_in_block + 1))
    ∙ pages_next but img r m (page_after but img r t))
pages_next but img r (suc m) None = refl

-- ---- pages of one block follow each other on any image
pages_in_block_lem : (but : Option ℕ) (img img' : List ℕ) (r : Numbers) (m t : ℕ) → m + t % pages_in_block ≤ pages_in_block
    → pages_from but img r m (Some t) ≡ pages_from but img' r m (Some t)
unfolding pages_from
pages_in_block_lem but img img' r zero t h = refl
pages_in_block_lem but img img' r (suc zero) t h = refl
pages_in_block_lem but img img' r (suc (suc m)) t h =
    let e = lt-ltb (t % pages_in_block) (pages_in_block - 1) (omega arith) in
    rw e (ap (λ (ts : List ℕ). t ∷ ts) (pages_in_block_lem but img img' r (suc m) (t + 1) (omega arith)))

-- ---- after a copy
module _ (block g : ℕ) (img : List ℕ) (r : Record) (c : Copying block (g ∷ []) img r) where
  abbrev n : Numbers
  n = r.numbers

  abbrev to : ℕ
  to = found_at (copy_to block img n)

  abbrev image : List ℕ
  image = whole (copy_step block img r g) img

  same-pages : pages image ≡ pages img
  same-pages = let e = same_length block g img r c in rw e

  -- the next page of the block that was taken
  next_open : to < pages img → to % pages_in_block < pages_in_block - 1 → is_chosen n (to / pages_in_block) ≡ false
      → ((h : ℕ) → to < h → h / pages_in_block ≡ to / pages_in_block → page_empty img h ≡ true)
      → ((h : ℕ) → h < to + 1 → is_open_but (Some block) image n h ≡ false) → new_page_but (Some block) image n ≡ Some (to + 1)
  next_open inside k unchosen empties none_below =
      let z = sized img c.size in
      let q : (to + 1) / pages_in_block ≡ to / pages_in_block = omega arith in
      open_is_new (Some block) image n (to + 1)
      (record {
        inside = rw same-pages (omega (arith, z.paged));
        outside = outside_is block g img r c (to + 1) q;
        data_block = rw q (data_here block g img r c unchosen);
        empty = λ h a e. empty_other block g img r c h (λ y. omega arith) ∙ empties h (omega arith) (e ∙ q);
        lowest = none_below;
      })

  -- ---- an open page was taken
  module _ (o : OpenPage (Some block) img n to) where
    none_below : (h : ℕ) → h < to + 1 → is_open_but (Some block) image n h ≡ false
    none_below h l = elim (ℕ_discrete (h / pages_in_block) (to / pages_in_block)) [
      | yes q ↦ rw (shut_before block g img r c h q (omega arith)) (and-false (is_outside (Some block) h))
      | no q ↦ ap (λ (t : Bool). is_outside (Some block) h && t) (open_other block g img r c h q) ∙ o.lowest h (elim (ℕ_discrete h to) [
        | yes e ↦ absurd (q (ap (λ (j : ℕ). j / pages_in_block) e))
        | no e ↦ omega arith
      ])
    ]

    same_fresh : fresh_page image ≡ fresh_page img
    unfolding fresh_page lowest_empty
    same_fresh =
        let len = same_length block g img r c in
        let e : first_from (block_empty image) (blocks img) 0 ≡ first_from (block_empty img) (blocks img) 0 = first_agree (block_empty image) (block_empty img)
        (blocks img) 0 (λ b h k. elim (ℕ_discrete b (to / pages_in_block)) [
          | yes q ↦ rw q (block_here block g img r c ∙ sym (data_filled img n (to / pages_in_block) o.data_block))
          | no q ↦ block_other block g img r c b q
        ]) in
        rw (as_many block g img r c o, len, e)

    -- from a later block on the search finds what it found before
    later_same : (b : ℕ) → to / pages_in_block < b → new_page_from (Some block) image n b ≡ new_page_from (Some block) img n b
    unfolding new_page_from open_page_from
    later_same b l =
        let e = first_agree (is_open_but (Some block) image n) (is_open_but (Some block) img n) (pages img - b * pages_in_block) (b * pages_in_block)
        (λ h k m. ap (λ (t : Bool). is_outside (Some block) h && t) (open_other block g img r c h (λ q. omega arith))) in
        rw (same-pages, e, same_fresh)

    after_open : new_page_but (Some block) image n ≡ page_after (Some block) img n to
    unfolding new_page_but new_page_from open_page_from
    after_open = elim (dec_lt (to % pages_in_block) (pages_in_block - 1)) [
      | yes h ↦ next_open o.inside h (chosen_not_data block g img r c (to / pages_in_block) o.data_block) (λ j a e. o.empty j (omega arith) e) none_below
          ∙ sym (ap (λ (t : Bool). cond t (Some (to + 1)) (new_page_from (Some block) img n (to / pages_in_block + 1)))
          (lt-ltb (to % pages_in_block) (pages_in_block - 1) h))
      | no h ↦ whole_search h
          ∙ sym (ap (λ (t : Bool). cond t (Some (to + 1)) (new_page_from (Some block) img n (to / pages_in_block + 1)))
          (le-ltb (to % pages_in_block) (pages_in_block - 1) (omega arith)))
    ]
      where
        whole_search : (to % pages_in_block < pages_in_block - 1 → ⊥) → new_page_but (Some block) image n ≡ new_page_from (Some block) img n (to / pages_in_block + 1)
        whole_search h =
            let z = sized img c.size in
            let at : (to / pages_in_block + 1) * pages_in_block ≡ to + 1 = omega arith in
            let e = first_later (is_open_but (Some block) image n) (pages image) (to + 1) (rw same-pages (omega (arith, o.inside))) none_below in
            rw e (ap (λ (a : ℕ). or_else (found (pages image) (first_from (is_open_but (Some block) image n) (pages image - a) a)) (fresh_page image)) (sym at))
            ∙ later_same (to / pages_in_block + 1) (omega arith)

    -- and so are all pages in turn from one behind the copy on, or in one block
    abbrev Beyond : Option ℕ → ℕ → Type 0
    Beyond (Some t) m = (to < t) ⊎ (m + t % pages_in_block ≤ pages_in_block)
    Beyond None m = Unit {0}

    found_beyond : (b m : ℕ) → to < b * pages_in_block → m ≤ pages_in_block → Beyond (new_page_from (Some block) img n b) m
    unfolding new_page_from open_page_from
    found_beyond b m l h = go (open_page_from (Some block) img n b) refl
      where
        fresh : (x : Option ℕ) → fresh_page img ≡ x → Beyond x m
        fresh (Some t) e = let f = fresh_page_lem img t e in inr (omega (arith, f.1))
        fresh None e = tt

        go : (x : Option ℕ) → open_page_from (Some block) img n b ≡ x → Beyond (or_else x (fresh_page img)) m
        go (Some t) e =
            let w = by_test (ltb (first_from (is_open_but (Some block) img n) (pages img - b * pages_in_block) (b * pages_in_block)) (pages img)) _ t e in
            let a = first_bounds (is_open_but (Some block) img n) (pages img - b * pages_in_block) (b * pages_in_block) in
            inl (omega (arith, a.0, w.1))
        go None e = fresh (fresh_page img) refl

    pages_beyond : (m : ℕ) (x : Option ℕ) → m ≤ pages_in_block → Beyond x m → pages_from (Some block) image n m x ≡ pages_from (Some block) img n m x
    unfolding pages_from
    pages_beyond zero x h y = refl
    pages_beyond (suc m) (Some t) h (inl l) = ap (λ (ts : List ℕ). t ∷ ts) (elim (dec_lt (t % pages_in_block) (pages_in_block - 1)) [
      | yes k ↦ let e = lt-ltb (t % pages_in_block) (pages_in_block - 1) k in rw e (pages_beyond m (Some (t + 1)) (omega arith) (inl (omega arith)))
      | no k ↦
          let e = le-ltb (t % pages_in_block) (pages_in_block - 1) (omega arith) in
          rw (e, later_same (t / pages_in_block + 1) (omega arith))
          (pages_beyond m (new_page_from (Some block) img n (t / pages_in_block + 1)) (omega arith)
          (found_beyond (t / pages_in_block + 1) m (omega arith) (omega arith)))
    ])
    pages_beyond (suc m) (Some t) h (inr l) = pages_in_block_lem (Some block) image img n (suc m) t l
    pages_beyond (suc m) None h y = refl

    pages_after_open : (m : ℕ) → m ≤ pages_in_block
        → pages_from (Some block) img n m (page_after (Some block) img n to) ≡ pages_from (Some block) image n m (new_page_but (Some block) image n)
    pages_after_open m h = rw after_open (sym (pages_beyond m (page_after (Some block) img n to) h (beyond (ltb (to % pages_in_block) (pages_in_block - 1)) refl)))
      where
        beyond : (t : Bool) → ltb (to % pages_in_block) (pages_in_block - 1) ≡ t
            → Beyond (cond t (Some (to + 1)) (new_page_from (Some block) img n (to / pages_in_block + 1))) m
        beyond true e = inl (omega arith)
        beyond false e = found_beyond (to / pages_in_block + 1) m (omega arith) h

  -- ---- a fresh block was taken
  module _ (f : FreshPage (Some block) img n to) (unchosen : is_chosen n (to / pages_in_block) ≡ false) where
    after_fresh : new_page_but (Some block) image n ≡ Some (to + 1)
    after_fresh =
        let z = sized img c.size in
        next_open (omega (arith, f.first, f.inside, z.paged)) (omega (arith, f.first)) unchosen
        (λ j a e. let y : j / pages_in_block ≡ lowest_empty img = omega (arith, f.first) in empty_block_page img j (rw y f.block_empty_lem))
        (λ h l. elim (ℕ_discrete (h / pages_in_block) (to / pages_in_block)) [
          | yes q ↦ rw (shut_before block g img r c h q (omega arith)) (and-false (is_outside (Some block) h))
          | no q ↦ ap (λ (t : Bool). is_outside (Some block) h && t) (open_other block g img r c h q)
              ∙ f.none_open h (omega (arith, f.first, f.inside, z.paged))
        ])

    pages_after_fresh : (m : ℕ) → m < pages_in_block
        → pages_from (Some block) img n m (page_after (Some block) img n to) ≡ pages_from (Some block) image n m (new_page_but (Some block) image n)
    pages_after_fresh m h =
        let e = lt-ltb (to % pages_in_block) (pages_in_block - 1) (omega (arith, f.first)) in
        rw (e, after_fresh) (pages_in_block_lem (Some block) img image n m (to + 1) (omega (arith, f.first)))

-- ---- the copies in turn
module _ (block g : ℕ) (gs img : List ℕ) (r : Record) (w : Gathering block (g ∷ gs) img r) (few : length gs < pages_in_block)
    (found : is_found (copy_to block img r.numbers) ≡ true) where
  abbrev only : Copying block (g ∷ []) img r
  only = alone block g gs img r w found

  abbrev to' : ℕ
  to' = found_at (copy_to block img r.numbers)

  abbrev image' : List ℕ
  image' = whole (copy_step block img r g) img

  pages-after : pages_from (Some block) img r.numbers (length gs) (page_after (Some block) img r.numbers to')
      ≡ pages_from (Some block) image' r.numbers (length gs) (new_page_but (Some block) image' r.numbers)
  pages-after = elim (new_page_lem (Some block) img r.numbers to' (found_is (copy_to block img r.numbers) found)) [
    | inl o ↦ pages_after_open block g img r only o (length gs) (omega arith)
    | inr f ↦ pages_after_fresh block g img r only f (unchosen_empty block (g ∷ gs) img r to' w f) (length gs) few
  ]

  -- the pages that the copies take are this copy's and those of the copies after it
  targets_next : targets block img r.numbers (suc (length gs)) ≡ to' ∷ targets block image' (copied block img r g).numbers (length gs)
  unfolding pages_from copied
  targets_next =
      ap (pages_from (Some block) img r.numbers (suc (length gs))) (found_is (copy_to block img r.numbers) found)
      ∙ ap (λ (ts : List ℕ). to' ∷ ts) (pages-after
      ∙ sym (pages_next (Some block) image' r.numbers (length gs) (new_page_but (Some block) image' r.numbers))
      ∙ ap (pages_from (Some block) image' (next_sequence r.numbers) (length gs)) (sym (new_page-whole (Some block) image' r.numbers)))

  -- the pages of the block, and where they have their places
  page-here : (h : ℕ) → LiveIn block img r.map h → (page_at image' h ≡ page_at img h)
  page-here h v = page-same block g [] img r only h v.in_block

  place_here : (h : ℕ) → LiveIn block img r.map h → (h ≡ g → ⊥) → place_on (copied block img r g).map h ≡ place_on r.map h
  unfolding place_on
  place_here h v d = first_agree (is_on (copied block img r g).map h) (is_on r.map h) places 0 (λ x a l. elim (ℕ_discrete (place_on r.map g) x) [
    | yes q ↦
        let new : page_of (copied block img r g).map x ≡ to' = subst (λ (y : ℕ). page_of (copied block img r g).map y ≡ to') q
        (page_new block g [] img r only) in
        let old : page_of r.map x ≡ g = subst (λ (y : ℕ). page_of r.map y ≡ g) q (live-place r.map g w.lives.0.live).2 in
        other (copied block img r g).map h x (λ e. copy_apart block g [] img r only (ap (λ (j : ℕ). j / pages_in_block) (sym new ∙ e) ∙ v.in_block))
        ∙ sym (other r.map h x (λ e. d (sym e ∙ old)))
    | no q ↦ ap (λ (j : ℕ). ltb j none && eqb j h) (page_old block g [] img r only x q)
  ])
    where
      other : (map : List ℕ) (h x : ℕ) → (page_of map x ≡ h → ⊥) → is_on map h x ≡ false
      other map h x n = rw (ne_eqb (page_of map x) h n) (and-false (live map x))

-- ---- pages that stay are copied alike, and places that stay are moved alike
pub copy_same : (img img' : List ℕ) (g s : ℕ) → page_at img' g ≡ page_at img g → copy_of img' g s ≡ copy_of img g s
unfolding copy_of
copy_same img img' g s e = rw (form_same img img' g e, e)

copies_same : (img img' gs ts : List ℕ) (s : ℕ) → Each (λ (h : ℕ). page_at img' h ≡ page_at img h) gs → copies_to img' gs ts s ≡ copies_to img gs ts s
copies_same img img' [] ts s e = refl
copies_same img img' (g ∷ gs) [] s e = refl
copies_same img img' (g ∷ gs) (t ∷ ts) s e = rw (copies_same img img' gs ts (s + 1) e.1)
    (ap (λ (page : List ℕ). program t page ∷ copies_to img gs ts (s + 1)) (copy_same img img' g s e.0))

moved_same : (map map' gs ts m : List ℕ) → Each (λ (h : ℕ). place_on map' h ≡ place_on map h) gs → moved_to map' gs ts m ≡ moved_to map gs ts m
moved_same map map' [] ts m e = refl
moved_same map map' (g ∷ gs) [] m e = refl
moved_same map map' (g ∷ gs) (t ∷ ts) m e = rw e.0 (moved_same map map' gs ts (set m (place_on map g) t) e.1)

-- ---- all copies
-- a page that a copy out of a block may take
abbrev pub IsTarget : ℕ → List ℕ → ℕ → Type 0
IsTarget block img t = (t < pages img) × (t / pages_in_block ≡ block → ⊥)

pub record Flat (block : ℕ) (gs img : List ℕ) (r : Record) : Type 0 where
  pub steps : copy_steps block gs img r ≡ copies_to img gs (targets block img r.numbers (length gs)) r.numbers.sequence
  pub map : (copied_all block gs img r).map ≡ moved_to r.map gs (targets block img r.numbers (length gs)) r.map
  pub letters : (copied_all block gs img r).letters ≡ r.letters
  pub numbers : (copied_all block gs img r).numbers ≡ sequences_used (length gs) r.numbers
  pub right : Each (IsTarget block img) (targets block img r.numbers (length gs))
  pub counted : length (targets block img r.numbers (length gs)) ≡ length gs

pub copies_flat : (block : ℕ) (gs img : List ℕ) (r : Record) → Gathering block gs img r → length gs ≤ pages_in_block → room_for_all block gs img r ≡ true
    → Flat block gs img r
unfolding copy_steps copied_all room_for_all copy_step copied pages_from
copies_flat block [] img r w few room = record { steps = refl; map = refl; letters = refl; numbers = refl; right = tt; counted = refl }
copies_flat block (g ∷ gs) img r w few room =
    let image' = whole (copy_step block img r g) img in
    let after = copied block img r g in
    let a = and-true (is_found (copy_to block img r.numbers)) (room_for_all block gs image' after) room in
    let rest = copies_flat block gs image' after (gathering_next block g gs img r w a.0) (omega arith) a.1 in
    let ts = targets_next block g gs img r w (omega arith) a.0 in
    let only = alone block g gs img r w a.0 in
    let lives = w.lives.1 in
    let apart = w.different.0 in
    let pages = each_with (LiveIn block img r.map) (λ (h : ℕ). h ≡ g → ⊥) (λ (h : ℕ). page_at image' h ≡ page_at img h)
    (λ h v d. page-here block g gs img r w (omega arith) a.0 h v) gs lives apart in
    let places' = each_with (LiveIn block img r.map) (λ (h : ℕ). h ≡ g → ⊥) (λ (h : ℕ). place_on after.map h ≡ place_on r.map h)
    (λ h v d. place_here block g gs img r w (omega arith) a.0 h v d) gs lives apart in
    record {
      steps = rw ts (ap (λ (ss : List Step). copy_step block img r g ∷ ss) (rest.steps ∙ copies_same img image' gs _ _ pages));
      map = rw ts (rest.map ∙ moved_same r.map after.map gs _ _ places');
      letters = rest.letters;
      numbers = rest.numbers;
      right = rw ts (
        ((copy_empty block g [] img r only).0, copy_apart block g [] img r only),
        subst (λ (n : ℕ). Each (λ (t : ℕ). (t < n) × (t / pages_in_block ≡ block → ⊥)) (targets block image' after.numbers (length gs)))
            (same-pages block g img r only) rest.right,
      );
      counted = rw ts (ap suc rest.counted);
    }

eqb-suc : (a b : ℕ) → eqb (suc a) (suc b) ≡ eqb a b
eqb-suc a b = elim (ℕ_discrete a b) [
  | yes e ↦ eq-eqb (suc a) (suc b) (omega arith) ∙ sym (eq-eqb a b e)
  | no e ↦ ne_eqb (suc a) (suc b) (λ q. e (omega arith)) ∙ sym (ne_eqb a b e)
]

-- there is room exactly where so many pages are found
pub room-targets : (block : ℕ) (gs img : List ℕ) (r : Record) → Gathering block gs img r → length gs ≤ pages_in_block
    → room_for_all block gs img r ≡ eqb (length (targets block img r.numbers (length gs))) (length gs)
unfolding room_for_all pages_from
room-targets block [] img r w few = refl
room-targets block (g ∷ gs) img r w few =
    go (copy_to block img r.numbers) refl (λ found. room-targets block gs _ _ (gathering_next block g gs img r w found) (omega arith))
  where
    image' : List ℕ
    image' = whole (copy_step block img r g) img

    Rest : Type 0
    Rest = room_for_all block gs image' (copied block img r g) ≡ eqb (length (targets block image' (copied block img r g).numbers (length gs))) (length gs)

    go : (x : Option ℕ) → copy_to block img r.numbers ≡ x → (is_found (copy_to block img r.numbers) ≡ true → Rest)
        → (is_found x && room_for_all block gs image' (copied block img r g)) ≡ eqb (length (targets block img r.numbers (suc (length gs)))) (suc (length gs))
    go (Some t) e rest =
        let found : is_found (copy_to block img r.numbers) ≡ true = rw e in
        rw (targets_next block g gs img r w (omega arith) found) (rest found
        ∙ sym (eqb-suc (length (targets block image' (copied block img r g).numbers (length gs))) (length gs)))
    go None e rest = rw e (sym (ne_eqb 0 (suc (length gs)) (λ q. omega arith)))

-- ---- the table of places
-- a page is live where a place has it
pub live-placed : (map : List ℕ) (g : ℕ) → is_live_page map g ≡ ltb (place_on map g) places
unfolding is_live_page place_on
live-placed map g = go (is_live_page map g) refl
  where
    nowhere : is_live_page map g ≡ false → places ≤ place_on map g
    nowhere e = omega (arith, first_all (is_on map g) places 0 (λ x h k. any_fails (is_on map g) places 0 x e (omega arith) (omega arith)))

    go : (t : Bool) → is_live_page map g ≡ t → t ≡ ltb (place_on map g) places
    go true e = sym (lt-ltb (place_on map g) places (live-place map g e).0)
    go false e = sym (le-ltb (place_on map g) places (nowhere e))

-- a count over a list is one over its positions
counted_along : {X : Type 0} (p : X → Bool) (d : X) (xs : List X) → count_from (λ i. p (get_or xs i d)) (length xs) 0 ≡ count_by p xs
unfolding count_from
counted_along {X = X} p d =
    is_sum_by (λ xs. count_from (λ i. p (get_or xs i d)) (length xs) 0) (λ x. cond (p x) 1 0) refl λ x xs.
    ap (λ n. cond (p x) 1 0 + n) (
    sym (count_shift (λ i. p (get_or (x ∷ xs) i d)) 1 (length xs) 0)
    ∙ count_agree _ (λ i. p (get_or xs i d)) (length xs) 0 (λ i h k. let e : 1 + i ≡ suc i = omega arith in ap (λ j. p (get_or (x ∷ xs) j d)) e)
    )

-- what is found among the places is found where the page is live
pub live-found : (map : List ℕ) (g : ℕ) → is_some (found places (place_on map g)) ≡ is_live_page map g
live-found map g = go (ltb (place_on map g) places) ∙ sym (live-placed map g)
  where
    go : (t : Bool) → is_some (cond t (Some (place_on map g)) None) ≡ t
    go true = refl
    go false = refl

pub live-counted : (map : List ℕ) (block : ℕ) (at : List (Option ℕ)) → PlacesIn map block at → count_by is_some at ≡ length (live_pages map block)
unfolding live_pages
live-counted map block at w =
    sym (counted_along is_some None at)
    ∙ ap (λ n. count_from (λ i. is_some (get_or at i None)) n 0) w.full
    ∙ count_agree _ (λ i. is_live_page map (block * pages_in_block + i)) pages_in_block 0
    (λ i h k. ap (λ (o : Option ℕ). is_some o) (w.each i (omega arith)) ∙ live-found map (page_in block i))
    ∙ count_shift (is_live_page map) (block * pages_in_block) pages_in_block 0
    ∙ ap (count_from (is_live_page map) pages_in_block) (let e : block * pages_in_block + 0 ≡ block * pages_in_block = omega arith in e)
    ∙ sym (length_which (is_live_page map) pages_in_block (block * pages_in_block))

-- ---- the tests
-- in a record that fits, a block with a live page is a data block: 15 is asked by the count alone
pub gathered_counted : (img : List ℕ) (r : Record) (block : ℕ) → Fit img r → is_gathered img r block ≡ leb 1 (length (live_pages r.map block))
gathered_counted img r block fit = go (leb 1 (length (live_pages r.map block))) refl
  where
    go : (t : Bool) → leb 1 (length (live_pages r.map block)) ≡ t → is_data img r.numbers block && t ≡ t
    go true e = rw (live_data img r block fit (leb-true 1 (length (live_pages r.map block)) e))
    go false e = and-false (is_data img r.numbers block)
