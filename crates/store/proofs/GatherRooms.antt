-- Room for the copies of a gather: each finds a page exactly where there are open pages enough outside the block, or two empty blocks.
use Prim.Native.Nat.{ℕ, zero, suc, ◌+◌, ◌-◌, ◌/◌, ◌%◌, ◌<◌, ◌≤◌}
use native.Mathlib.Omega.{arith}
use native.Mathlib.Decide.{ℕ_discrete, dec_lt}
use mathlib.Core.Path.{◌≡◌, refl, sym, ap, subst, ◌∙◌}
use mathlib.Core.Logic.{◌⊎◌, inl, inr}
use mathlib.Core.Bool.{Bool, true, false, not, ◌&&◌, ◌||◌, and-false}
use mathlib.Core.List.{List, [], ◌∷◌}
use lib.Dec.{eqb, leb}
use lib.ListN.{length}
use borrow.Author.Tests.{eqb-true, ne_eqb, le-leb, lt-leb, not-true}
use Rattle.base.specs.Each.{Each}
use Rattle.base.specs.Search.{count_from, all_from}
use Rattle.base.proofs.Choice.{and-true, and_intro, true-false}
use Rattle.base.proofs.Searches.{all_holds, any_intro, count_zero}
use Rattle.page.specs.Plan.{places}
use Rattle.page.specs.Header.{last_number}
use Rattle.page.specs.declared.Form.TheVariants.{Whole}
use Rattle.page.specs.Page.{page_bytes}
use Rattle.image.specs.Size.{pages_in_block, pages, size_right}
use Rattle.image.specs.Look.{page_at, form_at, page_empty, block_empty, lowest_empty, empty_blocks}
use Rattle.image.specs.Step.{Step, program, whole, Inside}
use Rattle.image.proofs.Step.{whole_length, block_whole_other, page_program_other}
use Rattle.image.proofs.Looks.{sized, count_except, empty_same}
use Rattle.image.proofs.Empties.{page_empty-same, block_empty-same, empty_block_page, full_page_block}
use Rattle.image.proofs.Forms.{form_same, form_program, empty_form_at}
use Rattle.store.specs.Taken.{Buffers}
use Rattle.store.specs.declared.Kind.TheVariants.{Other}
use Rattle.store.specs.Kind.{page_in, kind_of, headed, is_chosen, has_events, is_data}
use Rattle.store.specs.Record.{Record, map_size, page_of, live}
use Rattle.store.specs.Find.{is_open, is_outside, is_open_but, is_found, found_at}
use Rattle.store.specs.Gather.{live_pages, copy_to, copy_step, copied, room_for_all}
use Rattle.store.specs.declared.Numbers.{Numbers}
use Rattle.std.specs.Prelude.{Option, Some, None}
use Rattle.store.proofs.BlockKinds.{open_agree}
use Rattle.store.proofs.Fits.{Fit, fit_data}
use Rattle.store.proofs.Copies.{empty_kind}
use Rattle.store.proofs.Finds.{found_is, EmptyFrom, OpenPage, FreshPage, page_open, new_page_lem, no_new_page}
use Rattle.store.proofs.Gathers.{LiveIn, Apart, Copying, header, payload, payload-length, header_range, copy_apart, copy_is, copy_inside, page-same, still_live, sequence_next, copying_next, data_filled, one_place, live_pages_in, live-apart, live-few}

-- how many pages are open outside a block
abbrev pub open_outside : ℕ → List ℕ → Numbers → ℕ
open_outside block img n = count_from (is_open_but (Some block) img n) (pages img) 0

-- ---- counts
count_all : (p : ℕ → Bool) (n i : ℕ) → ((j : ℕ) → i ≤ j → j < i + n → p j ≡ true) → count_from p n i ≡ n
unfolding count_from
count_all p zero i h = refl
count_all p (suc n) i h = rw (h i (omega arith) (omega arith), count_all p n (suc i) (λ j a l. h j (omega arith) (omega arith))) (omega arith)

count_tail : (p : ℕ → Bool) (d n k i : ℕ) → k ≡ d + n → count_from p n (i + d) ≤ count_from p k i
unfolding count_from
count_tail p zero n k i h = let e : i + 0 ≡ i = omega arith in let z : k ≡ n = omega arith in rw (e, z) (omega arith)
count_tail p (suc d) n zero i h = absurd (omega arith)
count_tail p (suc d) n (suc k) i h = let e : i + suc d ≡ suc i + d = omega arith in let r = count_tail p d n k (suc i) (omega arith) in rw e (omega arith)

count_head : (p : ℕ → Bool) (n k i : ℕ) → n ≤ k → count_from p n i ≤ count_from p k i
unfolding count_from
count_head p zero k i h = omega arith
count_head p (suc n) zero i h = absurd (omega arith)
count_head p (suc n) (suc k) i h = let r = count_head p n k (suc i) (omega arith) in omega arith

-- a run in which the test holds throughout
count_run : (p : ℕ → Bool) (n j m : ℕ) → j + m ≤ n → ((k : ℕ) → j ≤ k → k < j + m → p k ≡ true) → m ≤ count_from p n 0
count_run p n j m h all =
    let a = count_all p m j all in
    let b = count_tail p j m (j + m) 0 refl in
    let c = count_head p (j + m) n 0 h in
    let z : 0 + j ≡ j = omega arith in
    let b' : count_from p m j ≤ count_from p (j + m) 0 = subst (λ (t : ℕ). count_from p m t ≤ count_from p (j + m) 0) z b in
    omega arith

-- ---- one copy, and the search after it
module _ (block g : ℕ) (img : List ℕ) (r : Record) (c : Copying block (g ∷ []) img r) where
  abbrev n : Numbers
  n = r.numbers

  abbrev to : ℕ
  to = found_at (copy_to block img n)

  abbrev image : List ℕ
  image = whole (copy_step block img r g) img

  image_is : image ≡ whole (program to (page_bytes (header block g [] img r c) (payload block g [] img r c))) img
  image_is = ap (λ (d : Step). whole d img) (copy_is block g [] img r c)

  pub same_length : length image ≡ length img
  same_length = whole_length (copy_step block img r g) img (copy_inside block g [] img r c)

  inside : Inside (length img) (program to (page_bytes (header block g [] img r c) (payload block g [] img r c)))
  inside = rw (copy_is block g [] img r c) at (copy_inside block g [] img r c)

  pub page_other : (h : ℕ) → (h ≡ to → ⊥) → page_at image h ≡ page_at img h
  page_other h e = rw image_is (page_program_other to (page_bytes (header block g [] img r c) (payload block g [] img r c)) img inside h e)

  form_here : form_at image to ≡ Whole (header block g [] img r c)
  form_here = rw image_is (form_program to (header block g [] img r c) (payload block g [] img r c) img (header_range block g [] img r c)
      (payload-length block g [] img r c) inside.0)

  full-here : page_empty image to ≡ false
  full-here = go (page_empty image to) refl
    where
      go : (t : Bool) → page_empty image to ≡ t → t ≡ false
      go true e = absurd (let v = empty_form_at image to e in let w = form_here in let z : ◌≡◌ {A = ℕ} 0 1 = cc in omega arith)
      go false e = refl

  pub empty_other : (h : ℕ) → (h ≡ to → ⊥) → page_empty image h ≡ page_empty img h
  empty_other h e = page_empty-same img image h (page_other h e)

  pub block_other : (b : ℕ) → (b ≡ to / pages_in_block → ⊥) → block_empty image b ≡ block_empty img b
  block_other b e = rw image_is (block_empty-same img _ b (block_whole_other
      (program to (page_bytes (header block g [] img r c) (payload block g [] img r c))) img inside b (λ q. e (sym q))))

  pub block_here : block_empty image (to / pages_in_block) ≡ false
  block_here = full_page_block image to full-here

  -- its block is a data block now, if it is none of the chosen
  pub data_here : is_chosen n (to / pages_in_block) ≡ false → is_data image n (to / pages_in_block) ≡ true
  unfolding is_data
  data_here e =
      let at : page_in (to / pages_in_block) (to % pages_in_block) ≡ to = omega arith in
      let h : headed (form_at image (page_in (to / pages_in_block) (to % pages_in_block))) ≡ true = rw (at, form_here) (rw c.lives.0.node) in
      rw e (and_intro _ true (any_intro (λ i. headed (form_at image (page_in (to / pages_in_block) i))) pages_in_block 0 (to % pages_in_block) (omega arith)
      (omega arith) h) refl)

  -- open pages of other blocks stay so
  pub open_other : (h : ℕ) → (h / pages_in_block ≡ to / pages_in_block → ⊥) → is_open image n h ≡ is_open img n h
  open_other h e = open_agree image img n h (λ i l. page_other (page_in (h / pages_in_block) i) (λ q. e (omega arith)))

  -- up to the copy none is open any more
  pub shut_before : (h : ℕ) → h / pages_in_block ≡ to / pages_in_block → h ≤ to → is_open image n h ≡ false
  unfolding is_open
  shut_before h e l = go (all_from (page_empty image) (pages_in_block - h % pages_in_block) h) refl
    where
      go : (t : Bool) → all_from (page_empty image) (pages_in_block - h % pages_in_block) h ≡ t → is_data image n (h / pages_in_block) && t ≡ false
      go true q = absurd (true-false (all_holds (page_empty image) (pages_in_block - h % pages_in_block) h to q l (omega arith)) full-here)
      go false q = and-false (is_data image n (h / pages_in_block))

  -- behind it they are, if the block is a data block and they were empty
  pub open_after : (h : ℕ) → h / pages_in_block ≡ to / pages_in_block → to < h → is_chosen n (to / pages_in_block) ≡ false → EmptyFrom img to
      → is_open image n h ≡ true
  open_after h e l q f =
      page_open image n h (rw e (data_here q)) (λ j a z. empty_other j (λ y. omega arith) ∙ f j (omega arith) (z ∙ e))

  pub chosen_not_data : (b : ℕ) → is_data img n b ≡ true → is_chosen n b ≡ false
  unfolding is_data
  chosen_not_data b d = not-true (is_chosen n b) (and-true (has_events img b) (not (is_chosen n b)) d).1

  pub outside_is : (h : ℕ) → h / pages_in_block ≡ to / pages_in_block → is_outside (Some block) h ≡ true
  outside_is h e = let z = ne_eqb (h / pages_in_block) block (λ q. copy_apart block g [] img r c (sym e ∙ q)) in rw z

  -- ---- an open page was taken: one less, and as many empty blocks
  module _ (o : OpenPage (Some block) img n to) where
    one_fewer : open_outside block img n ≡ suc (open_outside block image n)
    one_fewer =
        let len = same_length in
        rw len
        (count_except (is_open_but (Some block) img n) (is_open_but (Some block) image n) (pages img) 0 to (omega arith) (omega (arith, o.inside))
        (and_intro _ _ o.outside (page_open img n to o.data_block o.empty))
        (rw (shut_before to refl (omega arith)) (and-false (is_outside (Some block) to)))
        (λ h e. elim (ℕ_discrete (h / pages_in_block) (to / pages_in_block)) [
          | yes q ↦ elim (dec_lt h to) [
            | yes l ↦ rw (shut_before h q (omega arith)) (and-false (is_outside (Some block) h)) ∙ sym (o.lowest h l)
            | no l ↦ rw (open_after h q (omega (arith, e)) (chosen_not_data (to / pages_in_block) o.data_block) o.empty)
                (ap (λ (t : Bool). is_outside (Some block) h && t) (sym (page_open img n h (rw q o.data_block) (λ j a z. o.empty j (omega arith) (z ∙ q)))))
          ]
          | no q ↦ ap (λ (t : Bool). is_outside (Some block) h && t) (open_other h q)
        ]))

    pub as_many : empty_blocks image ≡ empty_blocks img
    as_many = empty_same img image same_length (λ b h. elim (ℕ_discrete b (to / pages_in_block)) [
      | yes q ↦ rw q (block_here ∙ sym (data_filled img n (to / pages_in_block) o.data_block))
      | no q ↦ block_other b q
    ])

  -- ---- a fresh block was taken: its other pages are open
  module _ (f : FreshPage (Some block) img n to) (unchosen : is_chosen n (to / pages_in_block) ≡ false) where
    fifteen : pages_in_block - 1 ≤ open_outside block image n
    fifteen =
        let z = sized img c.size in
        let len = same_length in
        let p : pages image ≡ pages img = rw len in
        count_run (is_open_but (Some block) image n) (pages image) (to + 1) (pages_in_block - 1) (omega (arith, f.first, f.inside, z.paged))
        (λ h a l.
        let q : h / pages_in_block ≡ to / pages_in_block = omega (arith, f.first) in
        and_intro _ _ (outside_is h q) (open_after h q (omega arith) unchosen
        (λ j b e. let y : j / pages_in_block ≡ lowest_empty img = omega (arith, f.first) in empty_block_page img j (rw y f.block_empty_lem))))

-- ---- the copies in turn
-- what is known before each: as `Copying`, whether there is room or not; and no chosen block is empty
pub record Gathering (block : ℕ) (gs : List ℕ) (img : List ℕ) (r : Record) : Type 0 where
  pub size : size_right img ≡ true
  pub full : length r.map ≡ map_size
  pub filled : block_empty img block ≡ false
  pub single : (x y : ℕ) → x < places → y < places → live r.map x ≡ true → page_of r.map x / pages_in_block ≡ block
      → page_of r.map x ≡ page_of r.map y → x ≡ y
  pub lives : Each (LiveIn block img r.map) gs
  pub different : Apart gs
  pub from_one : 1 ≤ r.numbers.sequence
  pub numbers_left : r.numbers.sequence + length gs ≤ last_number + 1
  pub chosen_full : (b : ℕ) → is_chosen r.numbers b ≡ true → block_empty img b ≡ false

module _ (block g : ℕ) (gs img : List ℕ) (r : Record) (w : Gathering block (g ∷ gs) img r) (found : is_found (copy_to block img r.numbers) ≡ true) where
  -- a copy alone
  pub alone : Copying block (g ∷ []) img r
  unfolding room_for_all
  alone =
      record {
        size = w.size;
        full = w.full;
        filled = w.filled;
        single = w.single;
        lives = (w.lives.0, tt);
        different = (tt, tt);
        room = rw found;
        from_one = w.from_one;
        numbers_left = omega (arith, w.numbers_left);
      }

  same_numbers : (b : ℕ) → is_chosen (copied block img r g).numbers b ≡ is_chosen r.numbers b
  unfolding copied
  same_numbers b = refl

  lives_on : (hs : List ℕ) → Each (LiveIn block img r.map) hs → Each (λ (h : ℕ). h ≡ g → ⊥) hs
      → Each (LiveIn block (whole (copy_step block img r g) img) (copied block img r g).map) hs
  lives_on [] l d = tt
  lives_on (h ∷ hs) l d = (
    record {
      live = still_live block g [] img r alone h d.0 l.0.live;
      in_block = l.0.in_block;
      inside = rw (same_length block g img r alone) l.0.inside;
      header = l.0.header;
      whole = form_same img (whole (copy_step block img r g) img) h (page-same block g [] img r alone h l.0.in_block) ∙ l.0.whole;
      node = l.0.node;
    },
    lives_on hs l.1 d.1,
  )

  pub gathering_next : Gathering block gs (whole (copy_step block img r g) img) (copied block img r g)
  gathering_next =
      let c = copying_next block g [] img r alone in
      record {
        size = c.size;
        full = c.full;
        filled = c.filled;
        single = c.single;
        lives = lives_on gs w.lives.1 w.different.0;
        different = w.different.1;
        from_one = c.from_one;
        numbers_left = omega (arith, sequence_next block g [] img r alone, w.numbers_left);
        chosen_full = λ b e. elim (ℕ_discrete b (found_at (copy_to block img r.numbers) / pages_in_block)) [
          | yes q ↦ rw q (block_here block g img r alone)
          | no q ↦ block_other block g img r alone b q ∙ w.chosen_full b (sym (same_numbers b) ∙ e)
        ];
      }

  numbers-same : open_outside block (whole (copy_step block img r g) img) (copied block img r g).numbers ≡ open_outside block (whole (copy_step block img r g) img) r.numbers
  unfolding copied is_open is_data
  numbers-same = refl

leb-suc : (a b : ℕ) → leb (suc a) (suc b) ≡ leb a b
leb-suc a b = elim (dec_lt b a) [
  | yes h ↦ lt-leb (suc a) (suc b) (omega arith) ∙ sym (lt-leb a b h)
  | no h ↦ le-leb (suc a) (suc b) (omega arith) ∙ sym (le-leb a b (omega arith))
]

or-true : (t : Bool) → t || true ≡ true
or-true true = refl
or-true false = refl

-- a fresh block is none of the chosen
pub unchosen_empty : (block : ℕ) (gs img : List ℕ) (r : Record) (to : ℕ) → Gathering block gs img r → FreshPage (Some block) img r.numbers to
    → is_chosen r.numbers (to / pages_in_block) ≡ false
unchosen_empty block gs img r to w f = go (is_chosen r.numbers (to / pages_in_block)) refl
  where
    go : (t : Bool) → is_chosen r.numbers (to / pages_in_block) ≡ t → t ≡ false
    go true e = let q : to / pages_in_block ≡ lowest_empty img = omega (arith, f.first) in absurd
        (true-false f.block_empty_lem (rw q at (w.chosen_full (to / pages_in_block) e)))
    go false e = refl

module _ (block g : ℕ) (gs img : List ℕ) (r : Record) (w : Gathering block (g ∷ gs) img r) (few : length gs < pages_in_block) where
  abbrev image' : List ℕ
  image' = whole (copy_step block img r g) img

  abbrev Rest : Type 0
  Rest = room_for_all block gs image' (copied block img r g) ≡ (leb (length gs) (open_outside block image' (copied block img r g).numbers) || leb 2
      (empty_blocks image'))

  abbrev Goal : Type 0
  Goal = room_for_all block gs image' (copied block img r g) ≡ (leb (suc (length gs)) (open_outside block img r.numbers) || leb 2 (empty_blocks img))

  room_taken : (found : is_found (copy_to block img r.numbers) ≡ true) → Rest
      → OpenPage (Some block) img r.numbers (found_at (copy_to block img r.numbers)) ⊎ FreshPage (Some block) img r.numbers (found_at (copy_to block img r.numbers)) → Goal
  room_taken found rest (inl o) =
      rest ∙ rw (
        numbers-same block g gs img r w found,
        as_many block g img r (alone block g gs img r w found) o,
        one_fewer block g img r
            (alone block g gs img r w found) o,
        leb-suc (length gs) (open_outside block image' r.numbers),
      )
  room_taken found rest (inr f) =
      let l = fifteen block g img r (alone block g gs img r w found) f (unchosen_empty block (g ∷ gs) img r _ w f) in
      rest ∙ rw (
        numbers-same block g gs img r w found,
        le-leb (length gs) (open_outside block image' r.numbers) (omega arith),
        le-leb 2 (empty_blocks img)
            f.two_empty,
      ) (sym (or-true (leb (suc (length gs)) (open_outside block img r.numbers))))

  room-here : (x : Option ℕ) → copy_to block img r.numbers ≡ x → (is_found (copy_to block img r.numbers) ≡ true → Rest)
      → (is_found x && room_for_all block gs image' (copied block img r g)) ≡ (leb (suc (length gs)) (open_outside block img r.numbers) || leb 2 (empty_blocks img))
  room-here (Some to) e rest =
      let found : is_found (copy_to block img r.numbers) ≡ true = rw e in
      room_taken found (rest found) (new_page_lem (Some block) img r.numbers (found_at (copy_to block img r.numbers))
      (found_is (copy_to block img r.numbers) found))
  room-here None e rest =
      let n = no_new_page (Some block) img r.numbers e in
      let z : open_outside block img r.numbers ≡ 0 = count_zero (is_open_but (Some block) img r.numbers) (pages img) 0 (λ h a l. n.0 h (omega arith)) in
      sym (rw (z, lt-leb (suc (length gs)) 0 (omega arith), lt-leb 2 (empty_blocks img) (omega (arith, n.1))))

pub room-counted : (block : ℕ) (gs img : List ℕ) (r : Record) → Gathering block gs img r → length gs ≤ pages_in_block
    → room_for_all block gs img r ≡ (leb (length gs) (open_outside block img r.numbers) || leb 2 (empty_blocks img))
unfolding room_for_all
room-counted block [] img r w few = sym (rw (le-leb 0 (open_outside block img r.numbers) (omega arith)))
room-counted block (g ∷ gs) img r w few =
    room-here block g gs img r w (omega arith) (copy_to block img r.numbers) refl
    (λ found. room-counted block gs _ _ (gathering_next block g gs img r w found) (omega arith))

-- ---- a record that fits
module _ (img : List ℕ) (r : Record) (block : ℕ) (fit : Fit img r) where
  -- a block with a live page is a data block
  pub live_data : 1 ≤ length (live_pages r.map block) → is_data img r.numbers block ≡ true
  live_data h = fit_data img r fit block ∙ go (live_pages r.map block) (live_pages_in img r block fit) h
    where
      go : (gs : List ℕ) → Each (LiveIn block img r.map) gs → 1 ≤ length gs → has_events img block ≡ true
      go [] l h = absurd (omega arith)
      go (g ∷ gs) l h =
          let b = l.0.in_block in
          let at : page_in block (g % pages_in_block) ≡ g = omega arith in
          any_intro (λ i. headed (form_at img (page_in block i))) pages_in_block 0 (g % pages_in_block) (omega arith) (omega arith)
          (rw (at, l.0.whole) (rw l.0.node))

  pub chosen_full_lem : (b : ℕ) → is_chosen r.numbers b ≡ true → block_empty img b ≡ false
  chosen_full_lem b e = go (block_empty img b) refl
    where
      by_block : (u v w : Bool) → eqb b r.numbers.keys0 ≡ u → eqb b r.numbers.keys1 ≡ v → eqb b r.numbers.commit ≡ w → u || v || w ≡ true
          → kind_of img b ≡ Other → ⊥
      by_block true v w p q s t k = let z = fit.keys0.1 in let y : kind_of img r.numbers.keys0 ≡ Other = rw
          (eqb-true b r.numbers.keys0 p) at k in let x : ◌≡◌ {A = ℕ} 0 1 = cc in omega arith
      by_block false true w p q s t k = let z = fit.keys1.1 in let y : kind_of img r.numbers.keys1 ≡ Other = rw
          (eqb-true b r.numbers.keys1 q) at k in let x : ◌≡◌ {A = ℕ} 0 1 = cc in omega arith
      by_block false false true p q s t k = let z = fit.commit.2 in let y : kind_of img r.numbers.commit ≡ Other = rw
          (eqb-true b r.numbers.commit s) at k in let x : ◌≡◌ {A = ℕ} 0 1 = cc in omega arith
      by_block false false false p q s t k = true-false t refl

      go : (t : Bool) → block_empty img b ≡ t → t ≡ false
      go true z = absurd (by_block _ _ _ refl refl refl e (empty_kind img b z))
      go false z = refl

  pub gather_gathering : size_right img ≡ true → Buffers r.map r.letters → 1 ≤ length (live_pages r.map block)
      → r.numbers.sequence + length (live_pages r.map block) ≤ last_number + 1
      → Gathering block (live_pages r.map block) img r
  gather_gathering size full some left =
      record {
        size = size;
        full = full.map_full;
        filled = data_filled img r.numbers block (live_data some);
        single = λ x y h k l b e. one_place img r block fit x y h k l e;
        lives = live_pages_in img r block fit;
        different = live-apart r.map block;
        from_one = fit.sequence.0;
        numbers_left = left;
        chosen_full = chosen_full_lem;
      }

  -- so the copies find pages exactly where these are enough
  pub gather-room : size_right img ≡ true → Buffers r.map r.letters → 1 ≤ length (live_pages r.map block)
      → r.numbers.sequence + length (live_pages r.map block) ≤ last_number + 1
      → room_for_all block (live_pages r.map block) img r ≡ (leb (length (live_pages r.map block)) (open_outside block img r.numbers) || leb 2 (empty_blocks img))
  gather-room size full some left = room-counted block (live_pages r.map block) img r (gather_gathering size full some left) (live-few r.map block)
