-- A gather that succeeds leaves a record that fits, whatever record it was given that did.
use Prim.Native.Nat.{ℕ, ◌+◌, ◌/◌, ◌<◌}
use native.Mathlib.Omega.{arith}
use native.Mathlib.Decide.{ℕ_discrete}
use mathlib.Core.Path.{◌≡◌, refl, sym, ap, subst, ◌∙◌}
use mathlib.Core.Logic.{◌⊎◌, inl, inr}
use mathlib.Core.Bool.{true}
use mathlib.Core.List.{List, [], ◌∷◌}
use lib.ListN.{length}
use lib.Seq.{get_or-set_other}
use Rattle.page.specs.Plan.{file_plan, places, place_of}
use Rattle.page.specs.Entry.{none}
use Rattle.page.specs.Page.{page_bytes}
use Rattle.page.specs.declared.Frame.{Frame}
use Rattle.page.specs.declared.Form.TheVariants.{Whole}
use Rattle.image.specs.Size.{pages_in_block}
use Rattle.image.specs.Look.{page_at, form_at}
use Rattle.image.specs.Step.{Step, program, whole, Inside, play_all}
use Rattle.image.proofs.Step.{page_program_other}
use Rattle.image.proofs.Forms.{form_same, form_program, empty_form_at}
use Rattle.store.specs.Kind.{page_in, kind_of}
use Rattle.store.specs.Record.{Record, page_of, key_of, fits}
use Rattle.store.specs.Find.{found_at}
use Rattle.store.specs.Gather.{live_pages, place_on, copy_to, copy_step, copied, copy_steps, copied_all, gather_of}
use Rattle.std.specs.Prelude.{Some}
use Rattle.store.specs.declared.Kind.TheVariants.{Other}
use Rattle.store.specs.Reply.{Done}
use Rattle.store.proofs.BlockKinds.{kind_agree}
use Rattle.store.proofs.Finds.{new_page_is_apart}
use Rattle.store.proofs.Fits.{Fit, fits_is, fit-fits, Vacant, Named, live_named}
use Rattle.store.proofs.Verdicts.{gather_taken_lem}
use Rattle.store.proofs.Outcomes.{gather_outcome}
use Rattle.store.proofs.Gathers.{Copying, live-place, header, payload, payload-length, header_range, copy_found, copy_is, copy_inside, copy_empty, page_new, page_old, sequence_next, copying_next, gather_copying}

module _ (block g : ℕ) (gs img : List ℕ) (r : Record) (c : Copying block (g ∷ gs) img r) (fit : Fit img r) where
  abbrev to : ℕ
  to = found_at (copy_to block img r.numbers)

  abbrev x : ℕ
  x = place_on r.map g

  abbrev page : List ℕ
  page = page_bytes (header block g gs img r c) (payload block g gs img r c)

  abbrev last : List ℕ
  last = whole (copy_step block img r g) img

  abbrev map' : List ℕ
  map' = (copied block img r g).map

  last_is : last ≡ whole (program to page) img
  last_is = ap (λ (d : Step). whole d img) (copy_is block g gs img r c)

  inside : Inside (length img) (program to page)
  inside = rw (copy_is block g gs img r c) at (copy_inside block g gs img r c)

  page_stays : (h : ℕ) → (h ≡ to → ⊥) → page_at last h ≡ page_at img h
  page_stays h n = rw last_is (page_program_other to page img inside h n)

  -- a block of some kind is not the one that the copy went to
  kind_stays : (b : ℕ) → (kind_of img b ≡ Other → ⊥) → kind_of last b ≡ kind_of img b
  kind_stays b k =
      let apart : b ≡ to / pages_in_block → ⊥ = λ e. k (rw e (new_page_is_apart (Some block) img r.numbers to (copy_found block g gs img r c))) in
      kind_agree last img b (λ i h. page_stays (page_in b i) (λ e. apart (omega arith)))

  named_stays : (y : ℕ) → Named img r.map y → page_of r.map y ≡ to → ⊥
  named_stays y n e =
      let w : form_at img to ≡ Whole n.header = rw e at n.whole in
      let v = empty_form_at img to (copy_empty block g gs img r c).1 in
      let z : ◌≡◌ {A = ℕ} 0 1 = cc in omega arith

  key-same : (y : ℕ) → key_of map' y ≡ key_of r.map y
  unfolding copied
  key-same y = get_or-set_other r.map x (places + y) to none (λ q. omega (arith, (live-place r.map g c.lives.0.live).0))

  numbers-same : ((copied block img r g).numbers.epoch ≡ r.numbers.epoch) × ((copied block img r g).numbers.keys0 ≡ r.numbers.keys0)
      × ((copied block img r g).numbers.keys1 ≡ r.numbers.keys1) × ((copied block img r g).numbers.commit ≡ r.numbers.commit)
  unfolding copied
  numbers-same = (refl, refl, refl, refl)

  letters-same : (copied block img r g).letters ≡ r.letters
  unfolding copied
  letters-same = refl

  here : Named last map' x
  here =
      let p = live-place r.map g c.lives.0.live in
      let n = live_named img r fit x p.0 p.1 in
      let q : Whole n.header ≡ Whole c.lives.0.header = sym n.whole ∙ rw p.2 c.lives.0.whole in
      let same : n.header ≡ c.lives.0.header = cc in
      record {
        header = header block g gs img r c;
        whole = rw (page_new block g gs img r c, last_is) (form_program to (header block g gs img r c) (payload block g gs img r c) img
            (header_range block g gs img r c) (payload-length block g gs img r c) inside.0);
        node = c.lives.0.node;
        place = ap (λ (f : Frame). place_of file_plan f.unit f.part) (sym same) ∙ n.place;
        key = ap (λ (f : Frame). f.key) (sym same) ∙ n.key ∙ sym (key-same x);
      }

  place_fits_lem : (y : ℕ) → y < places → Vacant map' y ⊎ Named last map' y
  place_fits_lem y h = elim (ℕ_discrete x y) [
    | yes e ↦ inr (subst (Named last map') e here)
    | no e ↦ go e (fit.place y h)
  ]
    where
      go : (x ≡ y → ⊥) → Vacant r.map y ⊎ Named img r.map y → Vacant map' y ⊎ Named last map' y
      go e (inl v) = inl (record { no_page = page_old block g gs img r c y e ∙ v.no_page; no_key = key-same y ∙ v.no_key })
      go e (inr n) =
          inr (record {
            header = n.header;
            whole = rw (page_old block g gs img r c y e) (form_same img last (page_of r.map y) (page_stays (page_of r.map y) (named_stays y n))
                ∙ n.whole);
            node = n.node;
            place = n.place;
            key = n.key ∙ sym (key-same y);
          })

  copied-fit : Fit last (copied block img r g)
  copied-fit =
      let s = numbers-same in
      let l = letters-same in
      let q = sequence_next block g gs img r c in
      record {
        sequence = (omega arith, omega (arith, c.numbers_left));
        epoch = rw s.0 fit.epoch;
        keys0 = rw s.1 (
          fit.keys0.0,
          kind_stays r.numbers.keys0 (λ o. let k = fit.keys0.1 in let z : ◌≡◌ {A = ℕ} 0 1 = cc in omega arith)
              ∙ fit.keys0.1,
        );
        keys1 = rw s.2 (
          fit.keys1.0,
          kind_stays r.numbers.keys1 (λ o. let k = fit.keys1.1 in let z : ◌≡◌ {A = ℕ} 0 1 = cc in omega arith)
              ∙ fit.keys1.1,
        );
        commit = rw s.3 (
          fit.commit.0,
          fit.commit.1,
          kind_stays r.numbers.commit
              (λ o. let k = fit.commit.2 in let z : ◌≡◌ {A = ℕ} 0 1 = cc in omega arith) ∙ fit.commit.2,
        );
        place = place_fits_lem;
        apart = λ y z h k e m. fit.apart y z h k (sym (key-same y) ∙ e ∙ key-same z) (rw (key-same y) at m);
        letter = rw l fit.letter;
        used = λ p h e. let u = fit.used p h (rw l at e) in (u.0, u.1, key-same u.0 ∙ u.2);
        named = λ p y h k e. rw l (fit.named p y h k (sym (key-same y) ∙ e));
      }

copies_fit : (block : ℕ) (gs img : List ℕ) (r : Record) → Copying block gs img r → Fit img r
    → Fit (play_all (copy_steps block gs img r) img) (copied_all block gs img r)
unfolding copy_steps copied_all play_all
copies_fit block [] img r c fit = fit
copies_fit block (g ∷ gs) img r c fit = copies_fit block gs _ _ (copying_next block g gs img r c) (copied-fit block g gs img r c fit)

pub gather-fits : (img : List ℕ) (r : Record) (block : ℕ) → (gather_of img r block).reply ≡ Done
    → fits (play_all (gather_of img r block).steps img) (gather_of img r block).after ≡ true
gather-fits img r block e =
    let t = gather_taken_lem img r block e in
    rw (gather_outcome img r block e) (fit-fits _ _ (copies_fit block (live_pages r.map block) img r (gather_copying img r block t)
    (fits_is img r t.ready.fit)))
