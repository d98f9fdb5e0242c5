-- A mount that passes its tests makes a record that fits the image.
use Prim.Native.Nat.{ℕ, ◌<◌, ◌≤◌}
use native.Mathlib.Omega.{arith}
use native.Mathlib.Nat.{zero-add}
use mathlib.Core.Path.{◌≡◌, refl, sym, ap, ◌∙◌}
use mathlib.Core.Logic.{◌⊎◌, inl, inr}
use mathlib.Core.Bool.{Bool, true, false, cond, not, ◌||◌}
use mathlib.Core.List.{List}
use lib.Dec.{eqb, leb}
use lib.ListN.{get_or, length}
use Rattle.base.proofs.Searches.{all_holds, highest_least}
use Rattle.base.proofs.Folds.{list_from_at, length-list_from}
use Rattle.page.specs.Plan.{places}
use Rattle.page.specs.Header.{last_number, is_event_letter}
use Rattle.page.specs.Key.{positions}
use Rattle.page.specs.Entry.{free_letter, used_letter, deleted_letter}
use Rattle.page.specs.declared.Form.{Form}
use Rattle.page.specs.declared.Form.TheVariants.{Empty, Whole, Torn, Spoilt}
use Rattle.image.specs.Size.{blocks, pages}
use Rattle.image.specs.Look.{form_at}
use Rattle.store.specs.Kind.{kind_of, covered_by}
use Rattle.store.specs.Record.{place_fits, named_times, keys_apart, fits}
use Rattle.store.specs.Find.{is_found, found_at}
use Rattle.store.specs.Mount.{chosen_commit, chosen_keys, covered_in, letter_in, mount_map, entries_fit, is_spent, mount_letter, sequence_of, epoch_of, mount_numbers, mounted}
use Rattle.store.proofs.BlockKinds.{whole_in_range, torn-in_range, number_range, keys_range, commit_range}
use Rattle.store.proofs.Choices.{of_commit_epoch, of_keys_epoch, commit_chosen, keys_chosen}
use Rattle.store.proofs.Finds.{found_is}
use Rattle.store.proofs.Fits.{Fit, fit-fits, place_fits_lem, named_by, by_name, keys_apart_lem}
use Rattle.store.proofs.Decisions.{entries_fit_lem}

-- ---- next numbers: sequences and epochs end at 99,999,999
pub sequence_most_lem : (img : List ℕ) (g : ℕ) → sequence_of (form_at img g) ≤ last_number
sequence_most_lem img g = go (form_at img g) refl
  where
    by_letter : (b : Bool) (n : ℕ) → n ≤ last_number → cond b n 0 ≤ last_number
    by_letter true n h = h
    by_letter false n h = omega arith

    go : (m : Form) → form_at img g ≡ m → sequence_of m ≤ last_number
    go Empty e = omega arith
    go (Whole f) e = by_letter (is_event_letter f.kind) f.number (number_range f (whole_in_range img g f e)).1
    go (Torn f) e = by_letter (is_event_letter f.kind) f.number (number_range f (torn-in_range img g f e)).1
    go Spoilt e = omega arith

pub epoch_most_lem : (img : List ℕ) (b : ℕ) → epoch_of img b ≤ last_number
epoch_most_lem img b =
    let c = of_commit_epoch (λ e. e ≤ last_number) (kind_of img b) (omega arith) (λ e s k. (commit_range img b e s k).1) in
    let k0 = of_keys_epoch (λ e. e ≤ last_number) 0 (kind_of img b) (omega arith) (λ e k. (keys_range img b 0 e k).2) in
    let k1 = of_keys_epoch (λ e. e ≤ last_number) 1 (kind_of img b) (omega arith) (λ e k. (keys_range img b 1 e k).2) in
    omega (arith, c, k0, k1)

-- ---- letters: f, u or d, and u exactly where a live node names the position
module _ (img : List ℕ) (c p : ℕ) where
  pub mount_letter_lem : (mount_letter img c p ≡ free_letter) ⊎ (mount_letter img c p ≡ used_letter) ⊎ (mount_letter img c p ≡ deleted_letter)
  unfolding mount_letter
  mount_letter_lem = go (leb 1 (named_times (mount_map img c) p)) (not (eqb (letter_in img c p) free_letter) || is_spent img c p)
    where
      go : (u d : Bool) → (cond u used_letter (cond d deleted_letter free_letter) ≡ free_letter) ⊎ (cond u used_letter (cond d deleted_letter free_letter) ≡ used_letter) ⊎ (cond u used_letter (cond d deleted_letter free_letter) ≡ deleted_letter)
      go true d = inr (inl refl)
      go false true = inr (inr refl)
      go false false = inl refl

  pub mount_used : mount_letter img c p ≡ used_letter → leb 1 (named_times (mount_map img c) p) ≡ true
  unfolding mount_letter
  mount_used = go (leb 1 (named_times (mount_map img c) p)) (not (eqb (letter_in img c p) free_letter) || is_spent img c p)
    where
      go : (u d : Bool) → cond u used_letter (cond d deleted_letter free_letter) ≡ used_letter → u ≡ true
      go true d e = refl
      go false true e = absurd (omega arith)
      go false false e = absurd (omega arith)

  pub used_mount : leb 1 (named_times (mount_map img c) p) ≡ true → mount_letter img c p ≡ used_letter
  unfolding mount_letter
  used_mount e = rw e

-- ---- the record
module _ (img : List ℕ) where
  pub mounted-letter : (p : ℕ) → p < positions → get_or (mounted img).letters p 0 ≡ mount_letter img (found_at (chosen_commit img)) p
  unfolding mounted
  mounted-letter p h =
      list_from_at (mount_letter img (found_at (chosen_commit img))) positions 0 p 0 h ∙ ap (mount_letter img (found_at (chosen_commit img))) (zero-add p)

  pub mounted-letters-length : length (mounted img).letters ≡ positions
  unfolding mounted
  mounted-letters-length = length-list_from _ positions 0

-- the tests are mount's: a whole commit block, a whole copy of each key block, live entries that fit, no key named twice
module _ (img : List ℕ) (commit-found : is_found (chosen_commit img) ≡ true) (keys0-found : is_found (chosen_keys img 0) ≡ true) (keys1-found : is_found (chosen_keys img 1) ≡ true)
    (entries : entries_fit img (found_at (chosen_commit img)) ≡ true) (apart : keys_apart (mount_map img (found_at (chosen_commit img))) ≡ true) where
  pub mounted-fit : Fit img (mounted img)
  unfolding mounted mount_numbers covered_in
  mounted-fit =
      let c = found_at (chosen_commit img) in
      let chosen = commit_chosen img c (found_is (chosen_commit img) commit-found) in
      let keys0 = keys_chosen img 0 (found_at (chosen_keys img 0)) (found_is (chosen_keys img 0) keys0-found) in
      let keys1 = keys_chosen img 1 (found_at (chosen_keys img 1)) (found_is (chosen_keys img 1) keys1-found) in
      let covered : covered_by (kind_of img c) ≤ last_number = rw chosen.whole (commit_range img c chosen.epoch chosen.covered chosen.whole).2 in
      let sequences = highest_least (λ g. sequence_of (form_at img g)) (pages img) 0 last_number (λ g h k. sequence_most_lem img g) in
      let epochs = highest_least (epoch_of img) (blocks img) 0 last_number (λ b h k. epoch_most_lem img b) in
      let letter : (p : ℕ) → p < positions → get_or (mounted img).letters p 0 ≡ mount_letter img c p = λ p h. mounted-letter img p h in
      record {
        sequence = (omega arith, omega (arith, covered, sequences));
        epoch = (omega arith, omega (arith, epochs));
        keys0 = (keys0.epoch, keys0.whole);
        keys1 = (keys1.epoch, keys1.whole);
        commit = (chosen.epoch, chosen.covered, chosen.whole);
        place = λ x h. place_fits_lem img (mount_map img c) x (all_holds (place_fits img (mount_map img c)) places 0 x (sym (entries_fit_lem img c) ∙ entries) (omega arith) (omega arith));
        apart = keys_apart_lem (mount_map img c) apart;
        letter = λ p h. rw (letter p h) (mount_letter_lem img c p);
        used = λ p h u. named_by (mount_map img c) p (mount_used img c p (sym (letter p h) ∙ u));
        named = λ p x h i e. letter p h ∙ used_mount img c p (by_name (mount_map img c) p x i e);
      }

  pub mounted-fits : fits img (mounted img) ≡ true
  mounted-fits = fit-fits img (mounted img) mounted-fit
