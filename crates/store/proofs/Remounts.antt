-- Mount, twice: what an accepted mount of any image leaves fits the image that it leaves, and a second mount of that image leaves the same, byte for byte.
use Prim.Native.Nat.{ℕ, zero, suc, ◌+◌, ◌/◌, ◌<◌, ◌≤◌}
use native.Mathlib.Omega.{arith}
use mathlib.Core.Path.{◌≡◌, refl, sym, ap, ◌∙◌}
use mathlib.Core.Logic.{◌⊎◌, inl, inr}
use mathlib.Core.Bool.{Bool, true, false, cond, ◌||◌, or-true}
use mathlib.Core.List.{List, [], ◌∷◌, map as each}
use lib.Dec.{eqb, ltb}
use lib.ListN.{length}
use borrow.Author.Tests.{eq-eqb}
use Rattle.base.specs.Each.{Each}
use Rattle.base.specs.Search.{which_from, highest_from}
use Rattle.base.specs.Fold.{list_from}
use Rattle.base.proofs.Choice.{true-false}
use Rattle.base.proofs.Searches.{any_agree, all_agree, highest_bounds, highest_least}
use Rattle.base.proofs.Folds.{list_from_agree}
use Rattle.page.specs.Frame.{payload_size}
use Rattle.page.specs.Plan.{places}
use Rattle.page.specs.Key.{positions}
use Rattle.page.specs.Entry.{none, entry_part}
use Rattle.page.specs.declared.Form.{Form}
use Rattle.image.specs.Size.{pages_in_block, blocks, pages, size_right}
use Rattle.image.specs.Look.{page_at, block_at, block_empty, form_at}
use Rattle.image.specs.Step.{erase, play_all}
use Rattle.image.proofs.Looks.{sized, block_inside}
use Rattle.image.proofs.Plays.{play_all_nil, play_all_cons}
use Rattle.image.proofs.Empties.{erase_empty}
use Rattle.image.proofs.Step.{page_of-same}
use Rattle.image.proofs.Forms.{form_same}
use Rattle.store.specs.Kind.{page_in, kind_of, keys_epoch, commit_epoch, covered_by, is_chosen}
use Rattle.store.specs.Record.{Record, page_of, has_live, is_dead, place_fits, fits}
use Rattle.store.specs.Find.{is_found, found_at}
use Rattle.store.specs.Mount.{chosen_commit, chosen_keys, covered_in, letter_in, entry_in, decision, mount_map, mount_scratch, entries_fit, is_spent, mount_letter, sequence_of, epoch_of, mount_numbers, mounted, is_stray, is_covered_dead, is_swept, mount_steps, mount_of}
use Rattle.store.specs.Outcome.{Outcome, left_whole}
use Rattle.store.specs.Taken.{Buffers, MountTaken}
use Rattle.store.specs.declared.Numbers.{Numbers}
use Rattle.store.specs.declared.Kind.{Kind}
use Rattle.store.specs.declared.Kind.TheVariants.{Other}
use Rattle.std.specs.Prelude.{Some}
use Rattle.store.specs.Reply.{Done}
use Rattle.store.proofs.Verdicts.{mount_taken, mount-done}
use Rattle.store.proofs.BlockKinds.{data_agree, page_outside}
use Rattle.store.proofs.Choices.{foremost_at, foremost_lowered, chosen_by, commit_by_epoch, keys_by_epoch}
use Rattle.store.proofs.Finds.{found_is}
use Rattle.store.proofs.Fits.{Vacant, Named, Fit, fits_agree, named_live, live_in_lem, live-headed}
use Rattle.store.proofs.Decisions.{mount_map_agree, mount_scratch_agree}
use Rattle.store.proofs.Mounts.{mounted-fit, mounted-fits}
use Rattle.store.proofs.Outcomes.{mount_outcome}
use Rattle.store.proofs.Sweeps.{Swept, sweep, kept-page, kept_form, kept-kind, gone_form, epoch_lowered}
use Rattle.store.proofs.Views.{note_of, decision_view, spent_view, sequence_view}
use Rattle.store.proofs.SweptBlocks.{swept_unchosen, swept_unlive, swept_page}

-- the blocks that a mount chooses, and the image that it leaves
abbrev commit_at : List ℕ → ℕ
commit_at img = found_at (chosen_commit img)

abbrev keys_at : List ℕ → ℕ → ℕ
keys_at img q = found_at (chosen_keys img q)

-- what it erases
abbrev swept : List ℕ → ℕ → Bool
swept img b = is_swept img (mounted img) b

-- ---- the blocks that mount erases
is_chosen_lem : (r : Numbers) (b : ℕ) → (b ≡ r.keys0) ⊎ (b ≡ r.keys1) ⊎ (b ≡ r.commit) → is_chosen r b ≡ true
is_chosen_lem r b (inl e) = rw (eq-eqb b r.keys0 e)
is_chosen_lem r b (inr (inl e)) = rw (eq-eqb b r.keys1 e, or-true (eqb b r.keys0))
is_chosen_lem r b (inr (inr e)) = rw (eq-eqb b r.commit e) (or-true (eqb b r.keys0 || eqb b r.keys1))

module _ (img : List ℕ) where
  chosen_kept : (b : ℕ) → is_chosen (mounted img).numbers b ≡ true → swept img b ≡ false
  chosen_kept b e = go (swept img b) refl
    where
      go : (t : Bool) → swept img b ≡ t → t ≡ false
      go true q = absurd (true-false e (swept_unchosen img (mounted img) b q))
      go false q = refl

  commit-kept : swept img (commit_at img) ≡ false
  unfolding mounted mount_numbers
  commit-kept = chosen_kept (commit_at img) (is_chosen_lem (mount_numbers img) (commit_at img) (inr (inr refl)))

  keys_kept : (q : ℕ) → q < 2 → swept img (keys_at img q) ≡ false
  unfolding mounted mount_numbers
  keys_kept zero h = chosen_kept (keys_at img 0) (is_chosen_lem (mount_numbers img) (keys_at img 0) (inl refl))
  keys_kept (suc zero) h = chosen_kept (keys_at img 1) (is_chosen_lem (mount_numbers img) (keys_at img 1) (inr (inl refl)))
  keys_kept (suc (suc q)) h = absurd (omega arith)

-- a block's bytes tell whether it is one, where the commit block stays
swept_same : (img img' : List ℕ) (r : Record) (b : ℕ) → covered_in img' r.numbers.commit ≡ covered_in img r.numbers.commit
    → block_at img' b ≡ block_at img b → is_swept img' r b ≡ is_swept img r b
unfolding is_swept is_stray is_covered_dead is_dead
swept_same img img' r b c e =
    rw (
      c,
      data_agree img' img b (λ i h. page_of-same img img' (page_in b i) (let q : page_in b i / pages_in_block ≡ b = omega arith in rw q e)) r.numbers,
      any_agree (λ i. ltb (covered_in img r.numbers.commit) (sequence_of (form_at img' (page_in b i))))
          (λ i. ltb (covered_in img r.numbers.commit) (sequence_of (form_at img (page_in b i)))) pages_in_block 0
          (λ i h l. ap (λ (m : Form). ltb (covered_in img r.numbers.commit) (sequence_of m))
          (form_same img img' (page_in b i) (page_of-same img img' (page_in b i) (let q : page_in b i / pages_in_block ≡ b = omega arith in rw q e)))),
    )

-- to erase empty blocks changes nothing
erases_nothing : (bs : List ℕ) (img : List ℕ) → Each (λ (b : ℕ). (b < blocks img) × (block_empty img b ≡ true)) bs → play_all (each erase bs) img ≡ img
erases_nothing [] img e = play_all_nil img
erases_nothing (b ∷ bs) img e =
    play_all_cons (erase b) (each erase bs) img
    ∙ ap (play_all (each erase bs)) (erase_empty b img (block_inside img b e.0.0) e.0.1)
    ∙ erases_nothing bs img e.1

which_each : (P : ℕ → Type 0) (p : ℕ → Bool) (n i : ℕ) → ((d : ℕ) → i ≤ d → d < i + n → p d ≡ true → P d) → Each P (which_from p n i)
unfolding which_from
which_each P p zero i h = tt
which_each P p (suc n) i h = go (p i) refl (which_each P p n (suc i) (λ d a b e. h d (omega arith) (omega arith) e))
  where
    go : (t : Bool) → p i ≡ t → Each P (which_from p n (suc i)) → Each P (cond t (i ∷ which_from p n (suc i)) (which_from p n (suc i)))
    go true e r = (h i (omega arith) (omega arith) e, r)
    go false e r = r

-- ---- the same image without what mount erases
module _ (img img' map letters scratch : List ℕ) (t : MountTaken img map letters scratch) (gone : Swept (swept img) img img') where
  commit_is : chosen_by commit_epoch img ≡ Some (commit_at img)
  commit_is = sym (commit_by_epoch img) ∙ found_is (chosen_commit img) t.commit_there

  keys_there_lem : (q : ℕ) → q < 2 → is_found (chosen_keys img q) ≡ true
  keys_there_lem zero h = t.keys0_there
  keys_there_lem (suc zero) h = t.keys1_there
  keys_there_lem (suc (suc q)) h = absurd (omega arith)

  keys_are : (q : ℕ) → q < 2 → chosen_by (keys_epoch q) img ≡ Some (keys_at img q)
  keys_are q h = sym (keys_by_epoch img q) ∙ found_is (chosen_keys img q) (keys_there_lem q h)

  count : blocks img' ≡ blocks img
  count = let e = gone.size in rw e

  -- ---- the chosen blocks
  chosen_swept : (epoch : Kind → ℕ) (b : ℕ) → epoch Other ≡ 0 → swept img b ≡ false → chosen_by epoch img ≡ Some b → chosen_by epoch img' ≡ chosen_by epoch img
  chosen_swept epoch b z k e =
      rw count
      (foremost_lowered (λ a. epoch (kind_of img a)) (λ a. epoch (kind_of img' a)) (blocks img) b (ap epoch (kept-kind (swept img) img img' gone b k))
      (epoch_lowered (swept img) img img' gone epoch z) e
      ∙ sym e)

  commit_swept : chosen_commit img' ≡ chosen_commit img
  commit_swept = commit_by_epoch img' ∙ chosen_swept commit_epoch (commit_at img) refl (commit-kept img) commit_is ∙ sym (commit_by_epoch img)

  keys_swept : (q : ℕ) → q < 2 → chosen_keys img' q ≡ chosen_keys img q
  keys_swept q h = keys_by_epoch img' q ∙ chosen_swept (keys_epoch q) (keys_at img q) refl (keys_kept img q h) (keys_are q h) ∙ sym (keys_by_epoch img q)

  -- the highest epoch is that of a chosen block
  of_chosen : (epoch : Kind → ℕ) (b a : ℕ) → swept img b ≡ false → chosen_by epoch img ≡ Some b → ((d : ℕ) → epoch (kind_of img' d) ≤ epoch_of img' d)
      → a < blocks img
      → epoch (kind_of img a) ≤ highest_from (epoch_of img') (blocks img) 0
  of_chosen epoch b a k e below h =
      let f = foremost_at (λ d. epoch (kind_of img d)) (blocks img) b e in
      let z : epoch (kind_of img' b) ≡ epoch (kind_of img b) = ap epoch (kept-kind (swept img) img img' gone b k) in
      omega (arith, f.highest a h, below b, highest_bounds (epoch_of img') (blocks img) 0 b (omega arith) (omega (arith, f.below)))

  epochs_swept : highest_from (epoch_of img') (blocks img') 0 ≡ highest_from (epoch_of img) (blocks img) 0
  epochs_swept =
      let low : highest_from (epoch_of img') (blocks img) 0 ≤ highest_from (epoch_of img) (blocks img) 0
      = highest_least (epoch_of img') (blocks img) 0 _ (λ a h l.
      let i : a < blocks img = omega arith in
      omega (
        arith,
        highest_bounds (epoch_of img) (blocks img) 0 a (omega arith) (omega arith),
        epoch_lowered (swept img) img img' gone commit_epoch refl a i,
        epoch_lowered (swept img) img img' gone (keys_epoch 0) refl a i,
        epoch_lowered (swept img) img img' gone (keys_epoch 1) refl a i,
      )) in
      let up : highest_from (epoch_of img) (blocks img) 0 ≤ highest_from (epoch_of img') (blocks img) 0
      = highest_least (epoch_of img) (blocks img) 0 _ (λ a h l.
      omega (
        arith,
        of_chosen commit_epoch (commit_at img) a (commit-kept img) commit_is (λ d. omega arith) (omega arith),
        of_chosen (keys_epoch 0) (keys_at img 0) a (keys_kept img 0 (omega arith)) (keys_are 0 (omega arith)) (λ d. omega arith) (omega arith),
        of_chosen (keys_epoch 1) (keys_at img 1) a (keys_kept img 1 (omega arith)) (keys_are 1 (omega arith)) (λ d. omega arith) (omega arith),
      )) in
      rw count (omega arith)

  -- ---- what the chosen commit says
  commit_page_lem : (i : ℕ) → i < pages_in_block → page_at img' (page_in (commit_at img) i) ≡ page_at img (page_in (commit_at img) i)
  commit_page_lem i h = kept-page (swept img) img img' gone (page_in (commit_at img) i)
      (let q : page_in (commit_at img) i / pages_in_block ≡ commit_at img = omega arith in rw q (commit-kept img))

  covered_swept : covered_in img' (commit_at img) ≡ covered_in img (commit_at img)
  unfolding covered_in
  covered_swept = ap covered_by (kept-kind (swept img) img img' gone (commit_at img) (commit-kept img))

  letter_swept : (p : ℕ) → p < positions → letter_in img' (commit_at img) p ≡ letter_in img (commit_at img) p
  unfolding letter_in
  letter_swept p h = rw (commit_page_lem (p / payload_size) (omega arith))

  entry_swept : (x : ℕ) → x < places → entry_in img' (commit_at img) x ≡ entry_in img (commit_at img) x
  unfolding entry_in
  entry_swept x h = rw (commit_page_lem (entry_part x) (omega arith))

  -- ---- what the pages say
  abbrev covered : ℕ
  covered = covered_in img (commit_at img)

  note_swept : (g : ℕ) → g < pages img → note_of covered (form_at img' g) ≡ note_of covered (form_at img g)
  unfolding mounted mount_numbers
  note_swept g h = go (swept img (g / pages_in_block)) refl
    where
      go : (b : Bool) → swept img (g / pages_in_block) ≡ b → note_of covered (form_at img' g) ≡ note_of covered (form_at img g)
      go true e =
          let i : g / pages_in_block < blocks img = omega (arith, (sized img t.size).paged) in
          ap (note_of covered) (gone_form (swept img) img img' gone g i e) ∙ sym (swept_page img (mounted img) g e)
      go false e = ap (note_of covered) (kept_form (swept img) img img' gone g e)

  count_pages : pages img' ≡ pages img
  count_pages = let e = gone.size in rw e

  decision_swept : (x : ℕ) → x < places → decision img' (commit_at img) x ≡ decision img (commit_at img) x
  decision_swept x h = decision_view img img' (commit_at img) count_pages covered_swept note_swept x (entry_swept x h)

  spent_swept : (p : ℕ) → is_spent img' (commit_at img) p ≡ is_spent img (commit_at img) p
  spent_swept = spent_view img img' (commit_at img) count_pages covered_swept note_swept

  -- ---- so the record is the same
  map_swept : mount_map img' (commit_at img) ≡ mount_map img (commit_at img)
  map_swept = mount_map_agree img' img (commit_at img) (commit_at img) decision_swept

  scratch_swept : mount_scratch img' (commit_at img) ≡ mount_scratch img (commit_at img)
  scratch_swept = mount_scratch_agree img' img (commit_at img) (commit_at img) decision_swept

  numbers_swept : mount_numbers img' ≡ mount_numbers img
  unfolding mount_numbers
  numbers_swept = rw (
    commit_swept,
    keys_swept 0 (omega arith),
    keys_swept 1 (omega arith),
    sequence_view img img' (commit_at img) count_pages covered_swept note_swept,
    epochs_swept,
  )

  letters_swept : list_from (mount_letter img' (commit_at img)) positions 0 ≡ list_from (mount_letter img (commit_at img)) positions 0
  unfolding mount_letter
  letters_swept = list_from_agree _ _ positions 0 (λ p a b. rw (map_swept, letter_swept p (omega arith), spent_swept p))

  pub mounted_swept : mounted img' ≡ mounted img
  unfolding mounted
  mounted_swept = rw (commit_swept, map_swept, letters_swept, numbers_swept)

  -- ---- and fits
  fit : Fit img (mounted img)
  fit = mounted-fit img t.commit_there t.keys0_there t.keys1_there t.entries t.apart

  -- the block of a live page stays
  live-kept : (x : ℕ) → x < places → Named img (mounted img).map x → swept img (page_of (mounted img).map x / pages_in_block) ≡ false
  live-kept x h n = go (swept img (page_of (mounted img).map x / pages_in_block)) refl
    where
      b : ℕ
      b = page_of (mounted img).map x / pages_in_block

      here : has_live (mounted img).map b ≡ true
      here = live_in_lem (mounted img).map b x h (named_live img (mounted img) fit t.size x n) refl

      go : (v : Bool) → swept img b ≡ v → v ≡ false
      go true e = absurd (true-false here (swept_unlive img (mounted img) b e (live-headed img (mounted img) fit b)))
      go false e = refl

  named_swept : (x : ℕ) → x < places → form_at img' (page_of (mount_map img (commit_at img)) x) ≡ form_at img (page_of (mount_map img (commit_at img)) x)
  unfolding mounted
  named_swept x h = go (fit.place x h)
    where
      go : Vacant (mount_map img (commit_at img)) x ⊎ Named img (mount_map img (commit_at img)) x
          → form_at img' (page_of (mount_map img (commit_at img)) x) ≡ form_at img (page_of (mount_map img (commit_at img)) x)
      go (inl v) =
          let s = sized img t.size in
          let z = gone.size in
          rw v.no_page (form_same img img' none (page_outside img' none (omega (arith, s.bounded)) ∙ sym (page_outside img none (omega (arith, s.bounded)))))
      go (inr n) = kept_form (swept img) img img' gone _ (live-kept x h n)

  pub fits_swept : fits img' (mounted img) ≡ true
  unfolding mounted mount_numbers
  fits_swept =
      fits_agree img' img (mounted img) (kept-kind (swept img) img img' gone (keys_at img 0) (keys_kept img 0 (omega arith)))
      (kept-kind (swept img) img img' gone (keys_at img 1) (keys_kept img 1 (omega arith)))
      (kept-kind (swept img) img img' gone (commit_at img) (commit-kept img)) named_swept
      ∙ mounted-fits img t.commit_there t.keys0_there t.keys1_there t.entries t.apart

  entries_swept : entries_fit img' (commit_at img) ≡ true
  unfolding entries_fit place_fits
  entries_swept = all_agree _ _ places 0 (λ x a b. let h : x < places = omega arith in rw (decision_swept x h, map_swept, named_swept x h)) ∙ t.entries

  -- ---- a second mount: accepted, with the same record and scratch, and with nothing to erase
  pub mount_again : (map' letters' scratch' : List ℕ) → Buffers map' letters' → length scratch' ≡ places → MountTaken img' map' letters' scratch'
  unfolding size_right
  mount_again map' letters' scratch' buffers full =
      let z = gone.size in
      record {
        size = rw z t.size;
        buffers = buffers;
        scratch_full = full;
        commit_there = rw commit_swept t.commit_there;
        keys0_there = rw (keys_swept 0 (omega arith)) t.keys0_there;
        keys1_there = rw (keys_swept 1 (omega arith)) t.keys1_there;
        entries = rw commit_swept entries_swept;
        apart = rw (commit_swept, map_swept) t.apart;
      }

  pub scratch_again : mount_scratch img' (commit_at img') ≡ mount_scratch img (commit_at img)
  scratch_again = rw commit_swept scratch_swept

  -- what it still has to erase is empty
  again_empty : (b : ℕ) → b < blocks img → is_swept img' (mounted img) b ≡ true → block_empty img' b ≡ true
  unfolding mounted mount_numbers
  again_empty b h e = go (swept img b) refl
    where
      go : (v : Bool) → swept img b ≡ v → block_empty img' b ≡ true
      go true q = gone.gone b h q
      go false q = absurd (true-false e (swept_same img img' (mounted img) b covered_swept (gone.kept b q) ∙ q))

  pub image_again : play_all (mount_steps img') img' ≡ img'
  unfolding mount_steps
  image_again =
      rw mounted_swept
      (erases_nothing (which_from (is_swept img' (mounted img)) (blocks img') 0) img'
      (which_each (λ (b : ℕ). (b < blocks img') × (block_empty img' b ≡ true)) (is_swept img' (mounted img)) (blocks img') 0
      (λ b a l e. (omega arith, again_empty b (let z = count in omega arith) e))))

-- ---- the call: accepted, it leaves a record that fits the image that it leaves
module _ (img map letters scratch : List ℕ) (done : (mount_of img map letters scratch).reply ≡ Done) where
  abbrev left : List ℕ
  left = (left_whole (mount_of img map letters scratch) img).image

  pub left_swept : Swept (swept img) img left
  unfolding left_whole mount_steps
  left_swept = rw (mount_outcome img map letters scratch done) (sweep (swept img) img)

  left_after : (left_whole (mount_of img map letters scratch) img).after ≡ mounted img
  unfolding left_whole
  left_after = ap (λ (o : Outcome). o.after) (mount_outcome img map letters scratch done)

  pub mount_fits_lem : fits left (left_whole (mount_of img map letters scratch) img).after ≡ true
  mount_fits_lem = ap (fits left) left_after ∙ fits_swept img left map letters scratch (mount_taken img map letters scratch done) left_swept

  -- a second mount of that image, with any buffers of the right lengths, leaves the same: reply, record and scratch, and the image byte for byte
  pub mount_twice : (map' letters' scratch' : List ℕ) → Buffers map' letters' → length scratch' ≡ places
      → left_whole (mount_of left map' letters' scratch') left ≡ left_whole (mount_of img map letters scratch) img
  unfolding left_whole
  mount_twice map' letters' scratch' buffers full =
      let t = mount_taken img map letters scratch done in
      let again = mount-done left map' letters' scratch' (mount_again img left map letters scratch t left_swept map' letters' scratch' buffers full) in
      let second = mount_outcome left map' letters' scratch' again in
      let same = image_again img left map letters scratch t left_swept in
      let same-record = mounted_swept img left map letters scratch t left_swept in
      let lent = scratch_again img left map letters scratch t left_swept in
      rw second (rw same (rw (same-record, lent, mount_outcome img map letters scratch done)))
