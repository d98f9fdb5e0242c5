-- A call that succeeds leaves a record that fits the image that it leaves, on every image and record that fits: write and cut-off.
use Prim.Native.Nat.{ℕ, ◌+◌, ◌*◌, ◌/◌, ◌<◌, ◌≤◌}
use native.Mathlib.Omega.{arith}
use mathlib.Core.Path.{◌≡◌, refl, sym, ◌∙◌}
use mathlib.Core.Bool.{Bool, true, false, cond, ◌&&◌}
use mathlib.Core.List.{List, [], ◌∷◌}
use lib.Dec.{eqb}
use lib.ListN.{length, get_or}
use Rattle.page.specs.Frame.{page_size}
use Rattle.page.specs.Key.{positions}
use Rattle.page.specs.Entry.{none, free_letter, used_letter, deleted_letter}
use Rattle.page.specs.Plan.{file_plan, places}
use Rattle.page.specs.Header.{node_frame, last_number}
use Rattle.page.specs.Page.{enciphered, node_page, cut_off_page}
use Rattle.page.specs.declared.Form.TheVariants.{Whole}
use Rattle.page.proofs.Plans.{place_at_lem}
use Rattle.page.proofs.Ranges.{NodeRange, node_range}
use Rattle.page.proofs.Pages.{enciphered-length, node-length, cut_off-length}
use Rattle.image.specs.Size.{pages_in_block}
use Rattle.image.specs.Look.{form_at}
use Rattle.image.specs.Step.{Step, program, whole, play_all}
use Rattle.image.proofs.Step.{page_program_other}
use Rattle.image.proofs.Forms.{form_same, empty_form_at, form_program}
use Rattle.image.proofs.Plays.{play_all_nil, play_all_cons}
use Rattle.store.specs.Kind.{page_in, kind_of}
use Rattle.store.specs.Record.{Record, with_numbers, map_size, page_of, key_of, live, fits}
use Rattle.store.specs.Find.{new_page, is_found, found_at, lowest_free}
use Rattle.store.specs.Write.{place_at, key_held, next_sequence, released, placed, append_steps, append_of}
use Rattle.store.specs.CutOff.{emptied, removed, cut_off_steps, cut_off_of}
use Rattle.store.specs.Taken.{Filling, WriteTaken, CutOffTaken}
use Rattle.store.specs.declared.Kind.TheVariants.{Other}
use Rattle.store.specs.declared.Numbers.{Numbers}
use Rattle.store.specs.Reply.{Done}
use Rattle.store.proofs.Verdicts.{write_taken_lem, cut_off_taken_lem}
use Rattle.store.proofs.BlockKinds.{kind_agree}
use Rattle.store.proofs.Finds.{found_is, lowest_free_lem, write-page-is_empty, write_page_is_apart}
use Rattle.store.proofs.Fits.{Fit, Named, fits_is, fit-fits}
use Rattle.store.proofs.Outcomes.{still_full, emptied-as_long, write_outcome, cut_off_outcome}
use Rattle.store.proofs.Calls.{place_below}
use Rattle.store.proofs.Records.{put, put_page, put_key, page_stays, key_stays}
use Rattle.store.proofs.Fitting.{Chosen, Counted, fit_over, fit-counted, fit_chosen, released_at, emptied-fit, removed-fit, node-fit}

-- ---- a page on the page that the search finds: the chosen blocks and the named pages stay
module _ (img : List ℕ) (r : Record) (page : List ℕ) (f : Fit img r) (size : length page ≡ page_size) (room : is_found (new_page img r.numbers) ≡ true) where
  abbrev g : ℕ
  g = found_at (new_page img r.numbers)

  abbrev last : List ℕ
  last = whole (program g page) img

  inside : g * page_size + page_size ≤ length img
  inside = omega (arith, (write-page-is_empty img r.numbers g (found_is (new_page img r.numbers) room)).0)

  kind_stays : (b : ℕ) → (kind_of img b ≡ Other → ⊥) → kind_of last b ≡ kind_of img b
  kind_stays b k =
      let apart : b ≡ g / pages_in_block → ⊥ = λ e. k (rw e (write_page_is_apart img r.numbers g (found_is (new_page img r.numbers) room))) in
      kind_agree last img b (λ i h. page_program_other g page img (inside, size) (page_in b i) (λ e. apart (omega arith)))

  chosen_stays : Chosen last r.numbers
  chosen_stays =
      let c = fit_chosen img r f in
      record {
        keys0 = (c.keys0.0, kind_stays r.numbers.keys0 (λ o. let k = c.keys0.1 in let z : ◌≡◌ {A = ℕ} 0 1 = cc in omega arith) ∙ c.keys0.1);
        keys1 = (c.keys1.0, kind_stays r.numbers.keys1 (λ o. let k = c.keys1.1 in let z : ◌≡◌ {A = ℕ} 0 1 = cc in omega arith) ∙ c.keys1.1);
        commit = (c.commit.0, c.commit.1, kind_stays r.numbers.commit (λ o. let k = c.commit.2 in let z : ◌≡◌ {A = ℕ} 0 1 = cc in omega arith) ∙ c.commit.2);
      }

  form_stays : (m : List ℕ) (x : ℕ) → Named img m x → form_at last (page_of m x) ≡ form_at img (page_of m x)
  form_stays m x n =
      let e = empty_form_at img g (write-page-is_empty img r.numbers g (found_is (new_page img r.numbers) room)).1 in
      let apart : page_of m x ≡ g → ⊥ = λ d. let w : form_at img g ≡ Whole n.header = rw d at n.whole in let z : ◌≡◌ {A = ℕ} 0 1 = cc in omega arith in
      form_same img last (page_of m x) (page_program_other g page img (inside, size) (page_of m x) apart)

-- a sequence used
chosen_next : (img : List ℕ) (n : Numbers) → Chosen img n → Chosen img (next_sequence n)
chosen_next img n c = record { keys0 = c.keys0; keys1 = c.keys1; commit = c.commit }

counted_next : (n : Numbers) → Counted n → n.sequence ≤ last_number → Counted (next_sequence n)
counted_next n c h = record { sequence = (omega arith, omega arith); epoch = c.epoch }

-- one step
one_step : (s : Step) (img : List ℕ) → play_all (s ∷ []) img ≡ whole s img
one_step s img = play_all_cons s [] img ∙ play_all_nil (whole s img)

-- ---- cut-off
cut_off_record_fits : (img : List ℕ) (r : Record) (file offset : ℕ) → CutOffTaken img r file offset
    → Fit (play_all (cut_off_steps img r file offset) img) (with_numbers (removed r file offset) (next_sequence r.numbers))
unfolding cut_off_steps
cut_off_record_fits img r file offset t =
    let n = r.numbers in
    let f = fits_is img r t.ready.fit in
    let page = cut_off_page n.sequence file offset in
    let size = cut_off-length n.sequence file offset in
    rw (one_step (program (found_at (new_page img n)) page) img)
    (fit_over img (last img r page f size t.room) (removed r file offset) (next_sequence n) (removed-fit img r file offset f t.ready.size t.ready.buffers t.planned.offset_right)
    (chosen_next (last img r page f size t.room) n (chosen_stays img r page f size t.room)) (counted_next n (fit-counted img r f) t.numbers_left)
    (λ x h d. form_stays img r page f size t.room (removed r file offset).map x d))

pub cut_off-fits : (img : List ℕ) (r : Record) (file offset : ℕ) → (cut_off_of img r file offset).reply ≡ Done
    → fits (play_all (cut_off_of img r file offset).steps img) (cut_off_of img r file offset).after ≡ true
cut_off-fits img r file offset e =
    rw (cut_off_outcome img r file offset e) (fit-fits _ _ (cut_off_record_fits img r file offset (cut_off_taken_lem img r file offset e)))

-- ---- write
module _ (img : List ℕ) (r : Record) (file offset second : ℕ) (bytes : List ℕ) (t : WriteTaken img r file offset second bytes) where
  abbrev n : Numbers
  n = r.numbers

  abbrev x : ℕ
  x = place_at file offset

  abbrev at : ℕ
  at = found_at (new_page img n)

  abbrev p : ℕ
  p = found_at (lowest_free r.letters)

  abbrev node : List ℕ
  node = node_page n.sequence file offset p second (key_held img n p) bytes

  fit : Fit img r
  fit = fits_is img r t.ready.fit

  node-size : length node ≡ page_size
  node-size = node-length n.sequence file offset p second (key_held img n p) bytes t.filling.bytes_full

  abbrev after : List ℕ
  after = whole (program at node) img

  free : (p < positions) × (get_or r.letters p 0 ≡ free_letter)
  free = let l = lowest_free_lem r.letters p (found_is (lowest_free r.letters) t.key_free) in (l.0, l.1)

  full : length r.map ≡ map_size
  full = t.ready.buffers.map_full

  below : x < places
  below = place_below file offset t.planned

  -- the record without the place, on the new image
  abbrev short : Record
  short = with_numbers (emptied x r) (next_sequence n)

  short_fits : Fit after short
  short_fits =
      fit_over img after (emptied x r) (next_sequence n) (emptied-fit img r x fit t.ready.size t.ready.buffers below)
      (chosen_next after n (chosen_stays img r node fit node-size t.room)) (counted_next n (fit-counted img r fit) t.numbers_left)
      (λ y h d. form_stays img r node fit node-size t.room (emptied x r).map y d)

  node_there_lem : Named after (put r.map x at p) x
  unfolding node_page
  node_there_lem =
      let w = (write-page-is_empty img n at (found_is (new_page img n) t.room)).0 in
      let range : NodeRange (node_frame n.sequence file offset p second)
      = record { from_one = fit.sequence.0; number = t.numbers_left; file = t.planned.file_right; offset = t.planned.offset_right; position = omega (arith, free.0); second = t.filling.second_most } in
      record {
        header = node_frame n.sequence file offset p second;
        whole = rw (put_page r.map x at p full below)
            (form_program at (node_frame n.sequence file offset p second) (enciphered (key_held img n p) bytes) img ((node_range (node_frame n.sequence file offset p second) refl).1 range) (enciphered-length (key_held img n p) bytes ∙ t.filling.bytes_full) (omega arith));
        node = refl;
        place = place_at_lem file_plan file offset t.planned.offset_right;
        key = sym (put_key r.map x at p full below);
      }

  write_record_fits : Fit after (placed r x at p)
  write_record_fits =
      node-fit after short (put r.map x at p) x p short_fits
      (record { no_page = put_page r.map x none none full below; no_key = put_key r.map x none none full below })
      below free.0 (still_full r (emptied x r) (emptied-as_long x r) t.ready.buffers).letters_full unused
      (λ y h o. page_stays r.map x at p full below y h o ∙ sym (page_stays r.map x none none full below y h o))
      (λ y o. key_stays r.map x at p full below y o ∙ sym (key_stays r.map x none none full below y o))
      (put_key r.map x at p full below) node_there_lem
    where
      -- f may have become d, and did not become u
      unused : get_or (released r.map r.letters x) p 0 ≡ used_letter → ⊥
      unused u = go (live r.map x && eqb (key_of r.map x) p) (sym (released_at r.map r.letters x p t.ready.buffers.letters_full free.0) ∙ u)
        where
          go : (b : Bool) → cond b deleted_letter (get_or r.letters p 0) ≡ used_letter → ⊥
          go true e = omega arith
          go false e = omega (arith, free.1)

  write-steps-fit : Fit (play_all (append_steps img r file offset second bytes) img) (placed r x at p)
  unfolding append_steps
  write-steps-fit = rw (one_step (program at node) img) write_record_fits

pub write-fits : (img : List ℕ) (r : Record) (file offset : ℕ) (right : Bool) (second : ℕ) (bytes : List ℕ) → (right ≡ true → Filling second bytes) → (append_of img r file offset right second bytes).reply ≡ Done
    → fits (play_all (append_of img r file offset right second bytes).steps img) (append_of img r file offset right second bytes).after ≡ true
write-fits img r file offset right second bytes fills e =
    rw (write_outcome img r file offset right second bytes e) (fit-fits _ _ (write-steps-fit img r file offset second bytes (write_taken_lem img r file offset right second bytes fills e)))
