-- A gather: its copies one by one. What is known of image and record before each copy, and that the flash can do all of them.
use Prim.Native.Nat.{ℕ, zero, suc, ◌+◌, ◌*◌, ◌/◌, ◌<◌, ◌≤◌}
use native.Mathlib.Omega.{arith}
use native.Mathlib.Decide.{ℕ_discrete, dec_lt}
use mathlib.Core.Path.{◌≡◌, refl, sym, ap, subst, ◌∙◌}
use mathlib.Core.Bool.{Bool, true, false, cond, not, ◌&&◌}
use mathlib.Core.List.{List, [], ◌∷◌}
use lib.Dec.{eqb}
use lib.ListN.{length, set, length-set}
use lib.Seq.{ext_get_or, get_or-set_same, get_or-set_other}
use borrow.Author.Tests.{eqb-true, eq-eqb, ne_eqb}
use Rattle.base.specs.Each.{Each}
use Rattle.base.specs.Search.{first_from, which_from}
use Rattle.base.proofs.Choice.{and-true, and_intro, true-false}
use Rattle.base.proofs.Searches.{first_holds, first_least, any_holds, any_intro, any_all_fail, any_agree, length_which, count_most}
use Rattle.page.specs.Frame.{header_size, payload_size}
use Rattle.page.specs.Plan.{places, file_plan, place_of}
use Rattle.page.specs.Header.{node_letter, last_number, in_range, with_number}
use Rattle.page.specs.Entry.{none, used_letter, deleted_letter}
use Rattle.page.specs.Page.{page_bytes, payload_of}
use Rattle.page.specs.declared.Frame.{Frame}
use Rattle.page.specs.declared.Form.TheVariants.{Whole}
use Rattle.std.specs.Prelude.{Some}
use Rattle.page.proofs.Ranges.{renumbered_range}
use Rattle.page.proofs.Pages as Pages
use Rattle.base.proofs.Parts.{part_length}
use Rattle.image.specs.Size.{pages_in_block, pages, size_right}
use Rattle.image.specs.Look.{page_at, block_at, form_at, page_empty, block_empty}
use Rattle.image.specs.Step.{program, whole, Inside, Legal, AllLegal, play_all}
use Rattle.image.proofs.Step.{whole_length, block_whole_other, page_of-same, page-length}
use Rattle.image.proofs.Looks.{sized, size_same}
use Rattle.image.proofs.Empties.{block_empty-same}
use Rattle.image.proofs.Forms.{form_same}
use Rattle.store.specs.Kind.{page_in, headed, is_chosen, has_events, is_data}
use Rattle.store.specs.declared.Numbers.{Numbers}
use Rattle.store.specs.Record.{Record, map_size, page_of, key_of, live, has_live, is_dead}
use Rattle.store.specs.Find.{is_found, found_at}
use Rattle.store.specs.Gather.{is_on, is_live_page, place_on, live_pages, copy_of, copy_to, copy_step, moved, copied, copy_steps, copied_all, room_for_all}
use Rattle.store.specs.Write.{placed}
use Rattle.store.specs.Taken.{Buffers, GatherTaken}
use Rattle.store.proofs.BlockKinds.{whole_in_range}
use Rattle.store.proofs.Fits.{Fit, fits_is, live_named, named_inside, live-key, live_used}
use Rattle.store.proofs.Copies.{empty_forms}
use Rattle.store.proofs.Finds.{found_is, new_page-is_empty, new_page_outside}

-- ---- the place of a live page
module _ (map : List ℕ) (g : ℕ) where
  pub on-place : (x : ℕ) → is_on map g x ≡ true → (live map x ≡ true) × (page_of map x ≡ g)
  on-place x e = let a = and-true (live map x) (eqb (page_of map x) g) e in (a.0, eqb-true _ _ a.1)

  pub place_on_lem : (x : ℕ) → live map x ≡ true → page_of map x ≡ g → is_on map g x ≡ true
  place_on_lem x l e = and_intro (live map x) (eqb (page_of map x) g) l (eq-eqb _ _ e)

  pub live-place : is_live_page map g ≡ true → (place_on map g < places) × (live map (place_on map g) ≡ true) × (page_of map (place_on map g) ≡ g)
  unfolding is_live_page place_on
  live-place e =
      let w = any_holds (is_on map g) places 0 e in
      let h : first_from (is_on map g) places 0 < places = elim (dec_lt (first_from (is_on map g) places 0) places) [
        | yes l ↦ l
        | no l ↦ absurd (true-false w.3 (first_least (is_on map g) places 0 w.0 (omega arith) (omega (arith, w.2))))
      ] in
      let a = on-place (first_from (is_on map g) places 0) (first_holds (is_on map g) places 0 (omega arith)) in
      (h, a.0, a.1)

  pub place-live : (x : ℕ) → x < places → live map x ≡ true → page_of map x ≡ g → is_live_page map g ≡ true
  unfolding is_live_page
  place-live x h l e = any_intro (is_on map g) places 0 x (omega arith) (omega arith) (place_on_lem x l e)

-- ---- the pages of a list are different
abbrev pub Apart : List ℕ → Type 0
Apart [] = Unit {0}
Apart (g ∷ gs) = Each (λ (h : ℕ). h ≡ g → ⊥) gs × Apart gs

-- what a test picks of numbers in a row is such a list
which_above : (p : ℕ → Bool) (n i j : ℕ) → j < i → Each (λ (h : ℕ). h ≡ j → ⊥) (which_from p n i)
unfolding which_from
which_above p zero i j h = tt
which_above p (suc n) i j h = go (p i) (which_above p n (suc i) j (omega arith))
  where
    go : (t : Bool) → Each (λ (h : ℕ). h ≡ j → ⊥) (which_from p n (suc i))
        → Each (λ (h : ℕ). h ≡ j → ⊥) (cond t (i ∷ which_from p n (suc i)) (which_from p n (suc i)))
    go true rest = (λ e. omega arith, rest)
    go false rest = rest

pub which_apart : (p : ℕ → Bool) (n i : ℕ) → Apart (which_from p n i)
unfolding which_from
which_apart p zero i = tt
which_apart p (suc n) i = go (p i) (which_apart p n (suc i))
  where
    go : (t : Bool) → Apart (which_from p n (suc i)) → Apart (cond t (i ∷ which_from p n (suc i)) (which_from p n (suc i)))
    go true rest = (which_above p n (suc i) i (omega arith), rest)
    go false rest = rest

pub which_each : (p : ℕ → Bool) (n i : ℕ) (Q : ℕ → Type 0) → ((j : ℕ) → i ≤ j → j < i + n → p j ≡ true → Q j) → Each Q (which_from p n i)
unfolding which_from
which_each p zero i Q h = tt
which_each p (suc n) i Q h = go (p i) refl (which_each p n (suc i) Q (λ j a l. h j (omega arith) (omega arith)))
  where
    go : (t : Bool) → p i ≡ t → Each Q (which_from p n (suc i)) → Each Q (cond t (i ∷ which_from p n (suc i)) (which_from p n (suc i)))
    go true e rest = (h i (omega arith) (omega arith) e, rest)
    go false e rest = rest

-- ---- before each copy
-- page g is a live page of the block, and a whole N page
pub record LiveIn (block : ℕ) (img map : List ℕ) (g : ℕ) : Type 0 where
  pub live : is_live_page map g ≡ true
  pub in_block : g / pages_in_block ≡ block
  pub inside : g < pages img
  pub header : Frame
  pub whole : form_at img g ≡ Whole header
  pub node : header.kind ≡ node_letter

pub record Copying (block : ℕ) (gs : List ℕ) (img : List ℕ) (r : Record) : Type 0 where
  pub size : size_right img ≡ true
  pub full : length r.map ≡ map_size
  pub filled : block_empty img block ≡ false
  pub single : (x y : ℕ) → x < places → y < places → live r.map x ≡ true → page_of r.map x / pages_in_block ≡ block
      → page_of r.map x ≡ page_of r.map y → x ≡ y
  pub lives : Each (LiveIn block img r.map) gs
  pub different : Apart gs
  pub room : room_for_all block gs img r ≡ true
  pub from_one : 1 ≤ r.numbers.sequence
  pub numbers_left : r.numbers.sequence + length gs ≤ last_number + 1

pub each_with : {A : Type 0} (P Q R : A → Type 0) → ((x : A) → P x → Q x → R x) → (xs : List A) → Each P xs → Each Q xs → Each R xs
each_with P Q R f [] p q = tt
each_with P Q R f (x ∷ xs) p q = (f x p.0 q.0, each_with P Q R f xs p.1 q.1)

module _ (block g : ℕ) (gs img : List ℕ) (r : Record) (c : Copying block (g ∷ gs) img r) where
  abbrev to : ℕ
  to = found_at (copy_to block img r.numbers)

  abbrev pub place : ℕ
  place = place_on r.map g

  abbrev pub header : Frame
  header = with_number r.numbers.sequence c.lives.0.header

  abbrev pub payload : List ℕ
  payload = payload_of (page_at img g)

  rooms : (is_found (copy_to block img r.numbers) ≡ true) × (room_for_all block gs (whole (copy_step block img r g) img) (copied block img r g) ≡ true)
  unfolding room_for_all
  rooms = and-true (is_found (copy_to block img r.numbers)) (room_for_all block gs (whole (copy_step block img r g) img) (copied block img r g)) c.room

  pub copy_found : copy_to block img r.numbers ≡ Some to
  copy_found = found_is (copy_to block img r.numbers) rooms.0

  pub copy_apart : to / pages_in_block ≡ block → ⊥
  copy_apart = new_page_outside img r.numbers block to c.filled copy_found

  pub copy_empty : (to < pages img) × (page_empty img to ≡ true)
  copy_empty = let w = new_page-is_empty (Some block) img r.numbers to copy_found in (w.0, w.1)

  -- the copy: its header and its payload
  pub copy_is : copy_step block img r g ≡ program to (page_bytes header payload)
  unfolding copy_step copy_of
  copy_is = let w = c.lives.0.whole in rw w

  pub payload-length : length payload ≡ payload_size
  unfolding payload_of
  payload-length =
      let z = sized img c.size in
      let l = page-length img g (omega (arith, c.lives.0.inside, z.full, z.paged)) in
      part_length (page_at img g) header_size payload_size (omega arith)

  pub header_range : in_range header ≡ true
  header_range =
      renumbered_range c.lives.0.header r.numbers.sequence c.lives.0.node (whole_in_range img g c.lives.0.header c.lives.0.whole)
      c.from_one (omega (arith, c.numbers_left))

  pub copy_inside : Inside (length img) (copy_step block img r g)
  copy_inside = rw copy_is (let z = sized img c.size in omega (arith, copy_empty.0, z.full, z.paged), Pages.page-length header payload payload-length)

  -- ---- after it
  abbrev pub image : List ℕ
  image = whole (copy_step block img r g) img

  abbrev pub after : Record
  after = copied block img r g

  same_length : length image ≡ length img
  same_length = whole_length (copy_step block img r g) img copy_inside

  -- the block is as it was
  block_same : block_at image block ≡ block_at img block
  unfolding copy_step
  block_same = block_whole_other (copy_step block img r g) img copy_inside block copy_apart

  pub page-same : (h : ℕ) → h / pages_in_block ≡ block → page_at image h ≡ page_at img h
  page-same h e = page_of-same img image h (rw e block_same)

  -- the map: the place has the new page, all others what they had
  pub page_new : page_of after.map place ≡ to
  unfolding copied
  page_new = get_or-set_same r.map place to none (omega (arith, (live-place r.map g c.lives.0.live).0, c.full))

  pub page_old : (y : ℕ) → (place ≡ y → ⊥) → page_of after.map y ≡ page_of r.map y
  unfolding copied
  page_old y n = get_or-set_other r.map place y to none (λ q. n (sym q))

  -- who has a page of the block now had it before, and is not this place
  old_place : (x : ℕ) → live after.map x ≡ true → page_of after.map x / pages_in_block ≡ block → (place ≡ x → ⊥)
      × (page_of after.map x ≡ page_of r.map x)
  old_place x l e =
      let n : place ≡ x → ⊥ = λ q. copy_apart (ap (λ (j : ℕ). j / pages_in_block) (sym page_new)
      ∙ subst (λ (y : ℕ). page_of after.map y / pages_in_block ≡ block) (sym q) e) in
      (n, page_old x n)

  pub still_live : (h : ℕ) → (h ≡ g → ⊥) → is_live_page r.map h ≡ true → is_live_page after.map h ≡ true
  still_live h n e =
      let w = live-place r.map h e in
      let y = place_on r.map h in
      let o : page_of after.map y ≡ page_of r.map y = page_old y (λ q. n
      (sym w.2 ∙ subst (λ (j : ℕ). page_of r.map j ≡ g) q (live-place r.map g c.lives.0.live).2)) in
      place-live after.map h y w.0 (rw o w.1) (o ∙ w.2)

  next_lives : Each (LiveIn block image after.map) gs
  next_lives =
      each_with (LiveIn block img r.map) (λ (h : ℕ). h ≡ g → ⊥) (LiveIn block image after.map)
      (λ h v n. record {
        live = still_live h n v.live;
        in_block = v.in_block;
        inside = rw same_length v.inside;
        header = v.header;
        whole = form_same img image h (page-same h v.in_block) ∙ v.whole;
        node = v.node;
      }) gs c.lives.1 c.different.0

  map-length : length after.map ≡ map_size
  unfolding copied
  map-length = length-set r.map place to ∙ c.full

  pub sequence_next : after.numbers.sequence ≡ r.numbers.sequence + 1
  unfolding copied
  sequence_next = refl

  pub copying_next : Copying block gs image after
  copying_next =
      record {
        size = size_same image (length img) same_length ∙ sym (size_same img (length img) refl) ∙ c.size;
        full = map-length;
        filled = block_empty-same img image block block_same ∙ c.filled;
        single = λ x y h k l b e.
            let u = old_place x l b in
            let v = old_place y (rw (← e) l) (rw (← e) b) in
            c.single x y h k (rw (← u.1) l) (rw (← u.1) b) (sym u.1 ∙ e ∙ v.1);
        lives = next_lives;
        different = c.different.1;
        room = rooms.1;
        from_one = omega (arith, sequence_next);
        numbers_left = omega (arith, sequence_next, c.numbers_left);
      }

-- ---- the flash can do all copies
pub copies_legal : (block : ℕ) (gs img : List ℕ) (r : Record) → Copying block gs img r → AllLegal img (copy_steps block gs img r)
unfolding copy_steps
copies_legal block [] img r c = tt
copies_legal block (g ∷ gs) img r c = (legal, copies_legal block gs _ _ (copying_next block g gs img r c))
  where
    legal : Legal img (copy_step block img r g)
    legal = rw (copy_is block g gs img r c) (rw (copy_is block g gs img r c) at (copy_inside block g gs img r c), (copy_empty block g gs img r c).1)

-- ---- what the tests of a gather say
-- a data block is not empty
pub data_filled : (img : List ℕ) (r : Numbers) (b : ℕ) → is_data img r b ≡ true → block_empty img b ≡ false
unfolding is_data
data_filled img r b d = go (block_empty img b) refl
  where
    go : (t : Bool) → block_empty img b ≡ t → t ≡ false
    go true e =
        absurd (true-false (and-true (has_events img b) (not (is_chosen r b)) d).0
        (any_all_fail (λ i. headed (form_at img (page_in b i))) pages_in_block 0 (λ i h l. rw (empty_forms img b e i (omega arith)))))
    go false e = refl

module _ (img : List ℕ) (r : Record) (block : ℕ) (fit : Fit img r) where
  -- a live page of the block is a whole N page, and one place's
  pub live_in_lem : (g : ℕ) → g / pages_in_block ≡ block → is_live_page r.map g ≡ true → LiveIn block img r.map g
  live_in_lem g b e =
      let w = live-place r.map g e in
      let n = live_named img r fit (place_on r.map g) w.0 w.1 in
      let q = w.2 in
      record {
        live = e;
        in_block = b;
        inside = rw q at (named_inside img r.map (place_on r.map g) n);
        header = n.header;
        whole = rw q at
            n.whole;
        node = n.node;
      }

  pub one_place : (x y : ℕ) → x < places → y < places → live r.map x ≡ true → page_of r.map x ≡ page_of r.map y → x ≡ y
  one_place x y h k l e =
      let n = live_named img r fit x h l in
      let n' = live_named img r fit y k (rw (← e) l) in
      let q : Whole n.header ≡ Whole n'.header = sym n.whole ∙ rw e n'.whole in
      let p : n.header ≡ n'.header = cc in
      let z : Some x ≡ Some y = sym n.place ∙ ap (λ (f : Frame). place_of file_plan f.unit f.part) p ∙ n'.place in
      cc

pub live_pages_in : (img : List ℕ) (r : Record) (block : ℕ) → Fit img r → Each (LiveIn block img r.map) (live_pages r.map block)
unfolding live_pages
live_pages_in img r block fit =
    which_each (is_live_page r.map) pages_in_block (block * pages_in_block) (LiveIn block img r.map) (λ g a l e. live_in_lem img r block fit g (omega arith) e)

pub live-apart : (map : List ℕ) (block : ℕ) → Apart (live_pages map block)
unfolding live_pages
live-apart map block = which_apart (is_live_page map) pages_in_block (block * pages_in_block)

pub gather_copying : (img : List ℕ) (r : Record) (block : ℕ) → GatherTaken img r block → Copying block (live_pages r.map block) img r
gather_copying img r block t =
    let fit = fits_is img r t.ready.fit in
    record {
      size = t.ready.size;
      full = t.ready.buffers.map_full;
      filled = data_filled img r.numbers block t.data_block;
      single = λ x y h k l b e. one_place img r block fit x y h k l e;
      lives = live_pages_in img r block fit;
      different = live-apart r.map block;
      room = t.room;
      from_one = fit.sequence.0;
      numbers_left = t.numbers_left;
    }

-- ---- afterwards no page of the block is live
module _ (block g : ℕ) (gs img : List ℕ) (r : Record) (c : Copying block (g ∷ gs) img r) where
  pub was_live : (h : ℕ) → h / pages_in_block ≡ block → is_live_page (copied block img r g).map h ≡ true → (h ≡ g → ⊥) × (is_live_page r.map h ≡ true)
  was_live h b e =
      let w = live-place (copied block img r g).map h e in
      let y = place_on (copied block img r g).map h in
      let o = old_place block g gs img r c y w.1 (rw w.2 b) in
      let v = live-place r.map g c.lives.0.live in
      let p : page_of r.map y ≡ h = sym o.1 ∙ w.2 in (
        λ q. o.0 (c.single (place_on r.map g) y v.0 w.0 v.1 (rw v.2 c.lives.0.in_block) (v.2 ∙ sym q ∙ sym p)),
        place-live r.map h y
            w.0 (rw (← o.1) w.1) p,
      )

pub copies_emptied : (block : ℕ) (gs img : List ℕ) (r : Record) → Copying block gs img r → (h : ℕ) → h / pages_in_block ≡ block
    → is_live_page (copied_all block gs img r).map h ≡ true
    → (is_live_page r.map h ≡ true) × Each (λ (g : ℕ). h ≡ g → ⊥) gs
unfolding copied_all
copies_emptied block [] img r c h b e = (e, tt)
copies_emptied block (g ∷ gs) img r c h b e =
    let rest = copies_emptied block gs _ _ (copying_next block g gs img r c) h b e in
    let w = was_live block g gs img r c h b rest.0 in
    (w.1, (w.0, rest.1))

which_has : (p : ℕ → Bool) (n i h : ℕ) → i ≤ h → h < i + n → p h ≡ true → Each (λ (g : ℕ). h ≡ g → ⊥) (which_from p n i) → ⊥
unfolding which_from
which_has p zero i h a l e n = omega arith
which_has p (suc m) i h a l e n = elim (ℕ_discrete h i) [
  | yes q ↦ (let v : p i ≡ true = rw q at e in let z : Each (λ (g : ℕ). h ≡ g → ⊥) (i ∷ which_from p m (suc i)) = rw v at n in z.0 q)
  | no q ↦ which_has p m (suc i) h (omega arith) (omega arith) e (go (p i) n)
]
  where
    go : (t : Bool) → Each (λ (g : ℕ). h ≡ g → ⊥) (cond t (i ∷ which_from p m (suc i)) (which_from p m (suc i)))
        → Each (λ (g : ℕ). h ≡ g → ⊥) (which_from p m (suc i))
    go true v = v.1
    go false v = v

which_empty : (p : ℕ → Bool) (n i : ℕ) → ((j : ℕ) → i ≤ j → j < i + n → p j ≡ false) → which_from p n i ≡ []
unfolding which_from
which_empty p zero i h = refl
which_empty p (suc n) i h = rw (h i (omega arith) (omega arith), which_empty p n (suc i) (λ j a l. h j (omega arith) (omega arith)))

live-listed : (map : List ℕ) (block h : ℕ) → block * pages_in_block ≤ h → h < block * pages_in_block + pages_in_block → is_live_page map h ≡ true
    → Each (λ (g : ℕ). h ≡ g → ⊥) (live_pages map block) → ⊥
unfolding live_pages
live-listed map block h a l e n = which_has (is_live_page map) pages_in_block (block * pages_in_block) h a l e n

live-none : (map : List ℕ) (block : ℕ) → ((h : ℕ) → block * pages_in_block ≤ h → h < block * pages_in_block + pages_in_block → is_live_page map h ≡ false)
    → live_pages map block ≡ []
unfolding live_pages
live-none map block f = which_empty (is_live_page map) pages_in_block (block * pages_in_block) f

pub gather-emptied : (img : List ℕ) (r : Record) (block : ℕ) → GatherTaken img r block
    → live_pages (copied_all block (live_pages r.map block) img r).map block ≡ []
gather-emptied img r block t = live-none (copied_all block (live_pages r.map block) img r).map block
    (λ h a l. none-live h a l (is_live_page (copied_all block (live_pages r.map block) img r).map h) refl)
  where
    none-live : (h : ℕ) → block * pages_in_block ≤ h → h < block * pages_in_block + pages_in_block → (v : Bool)
        → is_live_page (copied_all block (live_pages r.map block) img r).map h ≡ v → v ≡ false
    none-live h a l true e =
        let w = copies_emptied block (live_pages r.map block) img r (gather_copying img r block t) h (omega arith) e in
        absurd (live-listed r.map block h a l w.0 w.1)
    none-live h a l false e = refl

-- ---- a place that goes on with its key: the record that a write under that key would leave is the one with the page moved
pub placed-moved : (img : List ℕ) (r : Record) (x g : ℕ) → Fit img r → Buffers r.map r.letters → x < places → live r.map x ≡ true
    → placed r x g (key_of r.map x) ≡ moved r x g
placed-moved img r x g fit full h l =
    let p = key_of r.map x in
    let below = live-key img r fit x h l in
    let same_map : set (set r.map x g) (places + x) p ≡ set r.map x g = ext_get_or none _ _ (length-set (set r.map x g) (places + x) p)
    (λ i k. elim (ℕ_discrete i (places + x)) [
      | yes e ↦ rw e (get_or-set_same (set r.map x g) (places + x) p none (omega (arith, length-set r.map x g, full.map_full))
          ∙ sym (get_or-set_other r.map x (places + x) g none (λ q. omega arith)))
      | no e ↦ get_or-set_other (set r.map x g) (places + x) i p none e
    ]) in
    let same-letters : set (set r.letters p deleted_letter) p used_letter ≡ r.letters = ext_get_or 0 _ _
    (length-set (set r.letters p deleted_letter) p used_letter ∙ length-set r.letters p deleted_letter) (λ i k. elim (ℕ_discrete i p) [
      | yes e ↦ rw e (get_or-set_same (set r.letters p deleted_letter) p used_letter 0
          (omega (arith, length-set r.letters p deleted_letter, full.letters_full)) ∙ sym (live_used img r fit x h l))
      | no e ↦ get_or-set_other (set r.letters p deleted_letter) p i used_letter 0 e ∙ get_or-set_other r.letters p i deleted_letter 0 e
    ]) in
    rw (l, same_map, same-letters)

-- ---- a block has no more live pages than pages
pub live-few : (map : List ℕ) (block : ℕ) → length (live_pages map block) ≤ pages_in_block
unfolding live_pages
live-few map block = rw (length_which (is_live_page map) pages_in_block (block * pages_in_block)) (count_most (is_live_page map) pages_in_block (block * pages_in_block))

-- ---- the block is then one that a commit erases: a data block still, and without a live page
chosen_same : (block : ℕ) (img : List ℕ) (r : Record) (g b : ℕ) → is_chosen (copied block img r g).numbers b ≡ is_chosen r.numbers b
unfolding copied
chosen_same block img r g b = refl

copies_block : (block : ℕ) (gs img : List ℕ) (r : Record) → Copying block gs img r
    → (block_at (play_all (copy_steps block gs img r) img) block ≡ block_at img block)
    × ((b : ℕ) → is_chosen (copied_all block gs img r).numbers b ≡ is_chosen r.numbers b)
unfolding copy_steps copied_all play_all
copies_block block [] img r c = (refl, λ b. refl)
copies_block block (g ∷ gs) img r c =
    let rest = copies_block block gs _ _ (copying_next block g gs img r c) in
    (rest.0 ∙ block_same block g gs img r c, λ b. rest.1 b ∙ chosen_same block img r g b)

none_here : (img : List ℕ) (r : Record) (block : ℕ) → GatherTaken img r block → (x : ℕ) → x < places → (t : Bool)
    → live (copied_all block (live_pages r.map block) img r).map x ≡ t
    → t && eqb (page_of (copied_all block (live_pages r.map block) img r).map x / pages_in_block) block ≡ false
none_here img r block t x h false e = refl
none_here img r block t x h true e = elim (ℕ_discrete (page_of (copied_all block (live_pages r.map block) img r).map x / pages_in_block) block) [
  | yes q ↦ absurd (
      let w = copies_emptied block (live_pages r.map block) img r (gather_copying img r block t)
      (page_of (copied_all block (live_pages r.map block) img r).map x) q
      (place-live (copied_all block (live_pages r.map block) img r).map _ x h e refl) in
      live-listed r.map block (page_of (copied_all block (live_pages r.map block) img r).map x) (omega arith) (omega arith) w.0 w.1)
  | no q ↦ ne_eqb _ _ q
]

pub gathered_dead : (img : List ℕ) (r : Record) (block : ℕ) → GatherTaken img r block
    → is_dead (play_all (copy_steps block (live_pages r.map block) img r) img) (copied_all block (live_pages r.map block) img r) block ≡ true
unfolding is_dead has_live is_data
gathered_dead img r block t =
    let gs = live_pages r.map block in
    let after = play_all (copy_steps block gs img r) img in
    let s = copies_block block gs img r (gather_copying img r block t) in
    let d : is_data img r.numbers block ≡ true = t.data_block in
    let a = and-true (has_events img block) (not (is_chosen r.numbers block)) d in
    let e : has_events after block ≡ true = any_agree _ _ pages_in_block 0
    (λ i h l. ap headed (form_same img after (page_in block i) (page_of-same img after (page_in block i)
    (let q : page_in block i / pages_in_block ≡ block = omega arith in rw q s.0)))) ∙ a.0 in
    let n = any_all_fail (λ x. live (copied_all block gs img r).map x && eqb (page_of (copied_all block gs img r).map x / pages_in_block) block) places 0
    (λ x h l. none_here img r block t x (omega arith) (live (copied_all block gs img r).map x) refl) in
    rw (e, s.1 block, a.1, n)
