-- A commit and a wipe that succeed leave a record that fits the image that they leave, on every image and record that fits: each stage does.
use Prim.Native.Nat.{ℕ, zero, suc, ◌+◌, ◌-◌, ◌*◌, ◌/◌, ◌%◌, ◌<◌, ◌≤◌}
use native.Mathlib.Omega.{arith}
use mathlib.Core.Path.{◌≡◌, refl, sym, ap, ◌∙◌}
use mathlib.Core.Logic.{◌⊎◌, inl, inr}
use mathlib.Core.Bool.{Bool, true, false, cond, ◌&&◌}
use mathlib.Core.List.{List, [], ◌∷◌, ◌++◌}
use lib.Dec.{eqb}
use lib.ListN.{length}
use borrow.Author.Tests.{eq-eqb}
use Rattle.base.specs.Search.{which_from}
use Rattle.base.specs.Each.{Each}
use Rattle.base.proofs.Choice.{and_intro, true-false}
use Rattle.base.proofs.Searches.{any_intro}
use Rattle.base.proofs.Eachs.{each_append}
use Rattle.page.specs.Frame.{page_size}
use Rattle.page.specs.Plan.{places}
use Rattle.page.specs.Header.{last_number, keys_frame, commit_frame}
use Rattle.page.specs.Key.{key_size, keys_in_page, keys_in_block, positions}
use Rattle.page.specs.Entry.{parts, commit_payload}
use Rattle.page.specs.Page.{keys_page, commit_page}
use Rattle.page.specs.declared.Form.TheVariants.{Whole}
use Rattle.page.proofs.FormLaws.{form_page}
use Rattle.page.proofs.Pages.{payload_back}
use Rattle.page.proofs.Commits.{InRange, payload-length, payload-valid}
use Rattle.page.proofs.Ranges.{keys_range, commit_range}
use Rattle.image.specs.Size.{block_size, pages_in_block, blocks, size_right}
use Rattle.image.specs.Look.{block_at, page_at, form_at, block_empty, lowest_empty, empty_blocks}
use Rattle.image.specs.Step.{Step, erase, Inside, whole, play_all}
use Rattle.image.specs.Block.{renewed_key, keys_from, key_block_steps, commit_block_steps, key_block_page, commit_block_page}
use Rattle.image.proofs.Step.{block_of, block_whole_other, page_of-same}
use Rattle.image.proofs.Empties.{empty_block_page, page_empty-same, erase_empties}
use Rattle.image.proofs.Forms.{form_same, form_of-page, empty_form_at}
use Rattle.image.proofs.Looks.{sized, size_same, block_inside, blocks-same, lowest_empty_lem, lowest_below, lowest_some}
use Rattle.image.proofs.Plays.{play_all_nil, play_all_cons, play_all-append, play_all-length, block_play_all_other}
use Rattle.image.proofs.Rows.{row_in_no_other, row-page-done, row-page-rest}
use Rattle.image.proofs.KeyBlock.{key_block_steps_lem, key_block_inside, key_page-size, keys_from-length, renewed_at_length}
use Rattle.image.proofs.CommitBlock.{commit_block_steps_lem, commit_block_inside, commit_page-size}
use Rattle.store.specs.Kind.{page_in, kind_of, headed, has_events, is_chosen, is_data}
use Rattle.store.specs.Record.{Record, with_numbers, page_of, key_of, live, fits, is_dead, has_live}
use Rattle.store.specs.Format.{noise_size}
use Rattle.store.specs.Write.{keys_block}
use Rattle.store.specs.CutOff.{removed}
use Rattle.store.specs.Commit.{Stage, begin, with_keys, with_commit, next_epoch, replace_keys, replace_commit, keys_replaced, commit_replaced, dead_erased, cleaned, commit_stages, commit_of}
use Rattle.store.specs.Wipe.{removed_first, wipe_of}
use Rattle.store.specs.Stages.{erases}
use Rattle.store.specs.Taken.{Ready, Planned}
use Rattle.store.specs.declared.Kind.TheVariants.{Keys, Commit, Other}
use Rattle.store.specs.declared.Numbers.{Numbers}
use Rattle.store.specs.Reply.{Done}
use Rattle.store.proofs.Verdicts.{commit_taken_lem, wipe_taken_lem}
use Rattle.store.proofs.BlockKinds.{kind_agree, kind_unbegun, chosen_is_no_data, keys-kind, commit-kind, page_block}
use Rattle.store.proofs.Fits.{Fit, Vacant, Named, fits_is, fit-fits, fit_inside, is_letter_lem, named_inside, named_position, named_live}
use Rattle.store.proofs.Outcomes.{Full, still_full, cleaned-as_long, removed-as_long, commit_outcome, wipe_outcome}
use Rattle.store.proofs.Removals.{removed-numbers}
use Rattle.store.proofs.Spares.{keys0_chosen, keys1_chosen, commit_chosen}
use Rattle.store.proofs.Fitting.{Chosen, fit_over, removed-fit}
use Rattle.store.proofs.FittingRecords.{cleaned-fit}

-- ---- blocks and pages that stay
kind_stays : (img img' : List ℕ) (b : ℕ) → block_at img' b ≡ block_at img b → kind_of img' b ≡ kind_of img b
kind_stays img img' b e = kind_agree img' img b (λ i h. page_of-same img img' (page_in b i) (rw (page_block b i h).0 e))

form_stays : (img img' : List ℕ) (g : ℕ) → block_at img' (g / pages_in_block) ≡ block_at img (g / pages_in_block) → form_at img' g ≡ form_at img g
form_stays img img' g e = form_same img img' g (page_of-same img img' g e)

-- a page that a place names is in no empty block, and in no whole key or commit block
named_not_empty : (img m : List ℕ) (x b : ℕ) → Named img m x → block_empty img b ≡ true → page_of m x / pages_in_block ≡ b → ⊥
named_not_empty img m x b n e q =
    let w = empty_form_at img (page_of m x) (empty_block_page img (page_of m x) (rw q e)) in
    let v = n.whole in
    let z : ◌≡◌ {A = ℕ} 0 1 = cc in
    omega arith

named_not_whole : (img m : List ℕ) (x b : ℕ) → Named img m x → (kind_of img b ≡ Other → ⊥) → page_of m x / pages_in_block ≡ b → ⊥
named_not_whole img m x b n k q =
    let g = page_of m x in
    let at : page_in b (g % pages_in_block) ≡ g = omega (arith, q) in
    let here : headed (form_at img (page_in b (g % pages_in_block))) ≡ true = rw (at, n.whole, n.node) in
    true-false (any_intro (λ i. headed (form_at img (page_in b i))) pages_in_block 0 (g % pages_in_block) (omega arith) (omega arith) here) (chosen_is_no_data img b k)

-- ---- steps in block nb, then block old erased
module _ (img : List ℕ) (made : List Step) (nb old : ℕ) (inside : Each (Inside (length img)) made) (only : (b : ℕ) → (b ≡ nb → ⊥) → Each (λ (s : Step). block_of s ≡ b → ⊥) made)
    (there : old < blocks img) (other : nb ≡ old → ⊥) where
  abbrev last : List ℕ
  last = play_all (made ++ (erase old ∷ [])) img

  all_inside : Each (Inside (length img)) (made ++ (erase old ∷ []))
  all_inside = each_append (Inside (length img)) made (erase old ∷ []) inside (block_inside img old there, tt)

  last_length : length last ≡ length img
  last_length = play_all-length (made ++ (erase old ∷ [])) img all_inside

  last_is : last ≡ whole (erase old) (play_all made img)
  last_is = play_all-append made (erase old ∷ []) img ∙ play_all_cons (erase old) [] (play_all made img) ∙ play_all_nil (whole (erase old) (play_all made img))

  old_inside : old * block_size + block_size ≤ length (play_all made img)
  old_inside = rw (play_all-length made img inside) (block_inside img old there)

  block_new : block_at last nb ≡ block_at (play_all made img) nb
  block_new = rw last_is (block_whole_other (erase old) (play_all made img) old_inside nb (λ e. other (sym e)))

  block_elsewhere : (b : ℕ) → (b ≡ nb → ⊥) → (b ≡ old → ⊥) → block_at last b ≡ block_at img b
  block_elsewhere b n o =
      block_play_all_other (made ++ (erase old ∷ [])) img b all_inside (each_append (λ (s : Step). block_of s ≡ b → ⊥) made (erase old ∷ []) (only b n) (λ e. o (sym e), tt))

  -- the block just erased is empty
  room_after : lowest_empty last < blocks last
  room_after =
      let e : block_empty last old ≡ true = rw last_is (erase_empties old (play_all made img) old_inside) in
      omega (arith, lowest_below last old e, blocks-same img last last_length)

  -- pages that places name stay where they were
  named_stays : (m : List ℕ) (x : ℕ) → block_empty img nb ≡ true → (kind_of img old ≡ Other → ⊥) → Named img m x → form_at last (page_of m x) ≡ form_at img (page_of m x)
  named_stays m x e k n = form_stays img last (page_of m x) (block_elsewhere (page_of m x / pages_in_block) (named_not_empty img m x nb n e) (named_not_whole img m x old n k))

-- ---- what a stage needs and leaves
pub record Sure (img : List ℕ) (r : Record) : Type 0 where
  pub size : size_right img ≡ true
  pub buffers : Full r
  pub fit : Fit img r
  pub room : lowest_empty img < blocks img
  pub epoch : r.numbers.epoch ≤ last_number

module _ (img : List ℕ) (r : Record) (s : Sure img r) where
  abbrev n : Numbers
  n = r.numbers

  abbrev new : ℕ
  new = lowest_empty img

  empty : block_empty img new ≡ true
  empty = lowest_empty_lem img s.room

  new_other : kind_of img new ≡ Other
  new_other = let z : page_in new 0 / pages_in_block ≡ new = omega arith in kind_unbegun img new (empty_block_page img (page_in new 0) (rw z empty))

  -- the three blocks are whole, so none of them is the empty one, and no two are one
  keys0-whole : kind_of img n.keys0 ≡ Other → ⊥
  keys0-whole o = let k = s.fit.keys0.1 in let z : ◌≡◌ {A = ℕ} 0 1 = cc in omega arith

  keys1-whole : kind_of img n.keys1 ≡ Other → ⊥
  keys1-whole o = let k = s.fit.keys1.1 in let z : ◌≡◌ {A = ℕ} 0 1 = cc in omega arith

  commit-whole : kind_of img n.commit ≡ Other → ⊥
  commit-whole o = let k = s.fit.commit.2 in let z : ◌≡◌ {A = ℕ} 0 1 = cc in omega arith

  not_new : (b : ℕ) → (kind_of img b ≡ Other → ⊥) → b ≡ new → ⊥
  not_new b k e = k (rw e new_other)

  keys_apart_lem : n.keys0 ≡ n.keys1 → ⊥
  keys_apart_lem e = let a = s.fit.keys0.1 in let b = s.fit.keys1.1 in let z : ◌≡◌ {A = ℕ} 0 1 = cc in omega arith

  keys0_apart_lem : n.keys0 ≡ n.commit → ⊥
  keys0_apart_lem e = let a = s.fit.keys0.1 in let b = s.fit.commit.2 in let z : ◌≡◌ {A = ℕ} 0 1 = cc in omega arith

  keys1_apart_lem : n.keys1 ≡ n.commit → ⊥
  keys1_apart_lem e = let a = s.fit.keys1.1 in let b = s.fit.commit.2 in let z : ◌≡◌ {A = ℕ} 0 1 = cc in omega arith

  below : (n.keys0 < blocks img) × (n.keys1 < blocks img) × (n.commit < blocks img)
  below = fit_inside img r s.fit s.size

  -- a block replaced: sure again where the new blocks are whole
  sure_after : (made : List Step) (old : ℕ) (next : Numbers) (inside : Each (Inside (length img)) made) (only : (b : ℕ) → (b ≡ new → ⊥) → Each (λ (t : Step). block_of t ≡ b → ⊥) made)
      (there : old < blocks img) (other : new ≡ old → ⊥) → (kind_of img old ≡ Other → ⊥) → next.sequence ≡ n.sequence → next.epoch ≡ n.epoch
      → Chosen (play_all (made ++ (erase old ∷ [])) img) next → Sure (play_all (made ++ (erase old ∷ [])) img) (with_numbers r next)
  sure_after made old next inside only there other k a b c =
      let l = last_length img made new old inside only there other in
      record {
        size = size_same _ (length img) l ∙ sym (size_same img (length img) refl) ∙ s.size;
        buffers = record { map_full = s.buffers.map_full; letters_full = s.buffers.letters_full };
        fit = fit_over img (play_all (made ++ (erase old ∷ [])) img) r next s.fit c
            (record { sequence = rw a s.fit.sequence; epoch = rw b s.fit.epoch })
            (λ x h d. named_stays img made new old inside only there other r.map x empty k d);
        room = room_after img made new old inside only there other;
        epoch = rw b s.epoch;
      }

  -- ---- key block 0 or 1
  module _ (noise : List ℕ) (noise_full : length noise ≡ noise_size) where
    module _ (q : ℕ) (small : q < 2) (there : keys_block n q < blocks img) where
      abbrev key : ℕ → List ℕ
      key = renewed_key (block_at img (keys_block n q)) r.letters noise

      abbrev keys_made : List Step
      keys_made = key_block_steps n.epoch q new key

      key_sizes : (p : ℕ) → p < positions → length (key p) ≡ key_size
      key_sizes = renewed_at_length img r.letters noise (keys_block n q) (block_inside img (keys_block n q) there) noise_full

      made_inside : Each (Inside (length img)) keys_made
      made_inside = key_block_inside n.epoch q key key_sizes small (length img) new (block_inside img new s.room)

      made_only : (b : ℕ) → (b ≡ new → ⊥) → Each (λ (t : Step). block_of t ≡ b → ⊥) keys_made
      made_only b o = rw (key_block_steps_lem n.epoch q new key) (row_in_no_other new (key_block_page n.epoch q key) pages_in_block 0 b (omega arith) o)

      made_form : (i : ℕ) → i < pages_in_block → form_at (play_all keys_made img) (page_in new i) ≡ Whole (keys_frame n.epoch q i)
      unfolding keys_page
      made_form i h =
          let keys = keys_from key keys_in_page (keys_in_block * q + keys_in_page * i) in
          rw (key_block_steps_lem n.epoch q new key)
          (form_of-page _ (page_in new i) (key_block_page n.epoch q key i) (row-page-done new (key_block_page n.epoch q key) (key_page-size n.epoch q key key_sizes small) pages_in_block img (omega arith) (block_inside img new s.room) i h)
          ∙ form_page (keys_frame n.epoch q i) keys
          ((keys_range (keys_frame n.epoch q i) refl).1 (record { from_one = s.fit.epoch.0; number = s.epoch; block = omega arith; page = omega arith; key = refl; second = refl }))
          (keys_from-length key keys_in_page (keys_in_block * q + keys_in_page * i) (λ j a b. key_sizes j (omega arith))))

      made_kind : kind_of (play_all keys_made img) new ≡ Keys q n.epoch
      made_kind = keys-kind (play_all keys_made img) new q n.epoch (record { pages = made_form })

    pub keys0_sure : Sure (play_all (replace_keys img r noise 0) img) (with_numbers r (with_keys n 0 new))
    unfolding replace_keys
    keys0_sure =
        let k = below.0 in
        let other : new ≡ n.keys0 → ⊥ = λ e. not_new n.keys0 keys0-whole (sym e) in
        let made = keys_made 0 (omega arith) k in
        let ins = made_inside 0 (omega arith) k in
        let only = made_only 0 (omega arith) k in
        let image = play_all (made ++ (erase n.keys0 ∷ [])) img in
        let far : (b : ℕ) → (b ≡ new → ⊥) → (b ≡ n.keys0 → ⊥) → kind_of image b ≡ kind_of img b = λ b a o. kind_stays img image b (block_elsewhere img made new n.keys0 ins only k other b a o) in
        sure_after made n.keys0 (with_keys n 0 new) ins only k other keys0-whole refl refl
        (record {
          keys0 = (n.epoch, kind_stays (play_all made img) image new (block_new img made new n.keys0 ins only k other) ∙ made_kind 0 (omega arith) k);
          keys1 = (s.fit.keys1.0, far n.keys1 (not_new n.keys1 keys1-whole) (λ e. keys_apart_lem (sym e)) ∙ s.fit.keys1.1);
          commit = (s.fit.commit.0, s.fit.commit.1, far n.commit (not_new n.commit commit-whole) (λ e. keys0_apart_lem (sym e)) ∙ s.fit.commit.2);
        })

    pub keys1_sure : Sure (play_all (replace_keys img r noise 1) img) (with_numbers r (with_keys n 1 new))
    unfolding replace_keys
    keys1_sure =
        let k = below.1 in
        let other : new ≡ n.keys1 → ⊥ = λ e. not_new n.keys1 keys1-whole (sym e) in
        let made = keys_made 1 (omega arith) k in
        let ins = made_inside 1 (omega arith) k in
        let only = made_only 1 (omega arith) k in
        let image = play_all (made ++ (erase n.keys1 ∷ [])) img in
        let far : (b : ℕ) → (b ≡ new → ⊥) → (b ≡ n.keys1 → ⊥) → kind_of image b ≡ kind_of img b = λ b a o. kind_stays img image b (block_elsewhere img made new n.keys1 ins only k other b a o) in
        sure_after made n.keys1 (with_keys n 1 new) ins only k other keys1-whole refl refl
        (record {
          keys0 = (s.fit.keys0.0, far n.keys0 (not_new n.keys0 keys0-whole) keys_apart_lem ∙ s.fit.keys0.1);
          keys1 = (n.epoch, kind_stays (play_all made img) image new (block_new img made new n.keys1 ins only k other) ∙ made_kind 1 (omega arith) k);
          commit = (s.fit.commit.0, s.fit.commit.1, far n.commit (not_new n.commit commit-whole) (λ e. keys1_apart_lem (sym e)) ∙ s.fit.commit.2);
        })

  -- ---- the commit block
  abbrev covered : ℕ
  covered = n.sequence - 1

  abbrev commit_made : List Step
  commit_made = commit_block_steps n.epoch covered new r.map r.letters

  abbrev commit_pages : ℕ → List ℕ
  commit_pages = commit_block_page n.epoch covered r.map r.letters

  commit_sizes : (i : ℕ) → i < pages_in_block → length (commit_pages i) ≡ page_size
  commit_sizes = commit_page-size n.epoch covered r.map r.letters s.buffers.letters_full

  commit_page_there : (i : ℕ) → i < parts → page_at (play_all commit_made img) (page_in new i) ≡ commit_pages i
  commit_page_there i h =
      rw (commit_block_steps_lem n.epoch covered r.map r.letters new) (row-page-done new commit_pages commit_sizes parts img (omega arith) (block_inside img new s.room) i h)

  -- entries are in range
  in_range_lem : (x : ℕ) → x < places → InRange (page_of r.map x) (key_of r.map x)
  in_range_lem x h = go (s.fit.place x h)
    where
      go : Vacant r.map x ⊎ Named img r.map x → InRange (page_of r.map x) (key_of r.map x)
      go (inl v) = inl v.no_page
      go (inr d) = let z = sized img s.size in inr (omega (arith, named_inside img r.map x d, z.most, z.paged), omega (arith, named_position img r.map x d))

  commit_made_kind : kind_of (play_all commit_made img) new ≡ Commit n.epoch covered
  unfolding commit_page
  commit_made_kind =
      commit-kind (play_all commit_made img) new n.epoch covered
      (record {
        pages = λ i h. form_of-page (play_all commit_made img) (page_in new i) (commit_pages i) (commit_page_there i h)
            ∙ form_page (commit_frame n.epoch i covered) (commit_payload r.map r.letters i)
            ((commit_range (commit_frame n.epoch i covered) refl).1 (record { from_one = s.fit.epoch.0; number = s.epoch; unit = refl; part = omega arith; key = refl; covered = omega (arith, s.fit.sequence.1) }))
            (payload-length r.map r.letters i s.buffers.letters_full);
        valid = λ i h. rw (commit_page_there i h, payload_back (commit_frame n.epoch i covered) (commit_payload r.map r.letters i) (payload-length r.map r.letters i s.buffers.letters_full))
            (payload-valid r.map r.letters i h (λ p l. is_letter_lem _ (s.fit.letter p l)) in_range_lem);
        rest = λ i h l.
            let z : page_in new i / pages_in_block ≡ new = omega arith in
            rw (commit_block_steps_lem n.epoch covered r.map r.letters new)
            (page_empty-same img _ (page_in new i) (row-page-rest new commit_pages commit_sizes parts img (omega arith) (block_inside img new s.room) i h) ∙ empty_block_page img (page_in new i) (rw z empty));
      })

  pub commit_sure : Sure (play_all (replace_commit img r) img) (with_numbers r (with_commit n new))
  unfolding replace_commit
  commit_sure =
      let k = below.2 in
      let other : new ≡ n.commit → ⊥ = λ e. not_new n.commit commit-whole (sym e) in
      let ins = commit_block_inside n.epoch covered r.map r.letters (length img) new s.buffers.letters_full (block_inside img new s.room) in
      let only : (b : ℕ) → (b ≡ new → ⊥) → Each (λ (t : Step). block_of t ≡ b → ⊥) commit_made = λ b o. rw (commit_block_steps_lem n.epoch covered r.map r.letters new) (row_in_no_other new commit_pages parts 0 b (omega arith) o) in
      let image = play_all (commit_made ++ (erase n.commit ∷ [])) img in
      let far : (b : ℕ) → (b ≡ new → ⊥) → (b ≡ n.commit → ⊥) → kind_of image b ≡ kind_of img b = λ b a o. kind_stays img image b (block_elsewhere img commit_made new n.commit ins only k other b a o) in
      sure_after commit_made n.commit (with_commit n new) ins only k other commit-whole refl refl
      (record {
        keys0 = (s.fit.keys0.0, far n.keys0 (not_new n.keys0 keys0-whole) keys0_apart_lem ∙ s.fit.keys0.1);
        keys1 = (s.fit.keys1.0, far n.keys1 (not_new n.keys1 keys1-whole) keys1_apart_lem ∙ s.fit.keys1.1);
        commit = (n.epoch, covered, kind_stays (play_all commit_made img) image new (block_new img commit_made new n.commit ins only k other) ∙ commit_made_kind);
      })

-- ---- erases of the blocks that a test picks, of which b is none
picked_inside : (p : ℕ → Bool) (k i m : ℕ) → (i + k) * block_size ≤ m → Each (Inside m) (erases (which_from p k i))
unfolding which_from
picked_inside p zero i m h = tt
picked_inside p (suc k) i m h = go (p i) (picked_inside p k (suc i) m (omega arith))
  where
    go : (t : Bool) → Each (Inside m) (erases (which_from p k (suc i))) → Each (Inside m) (erases (cond t (i ∷ which_from p k (suc i)) (which_from p k (suc i))))
    go true r = (omega arith, r)
    go false r = r

picked_apart : (p : ℕ → Bool) (k i b : ℕ) → p b ≡ false → Each (λ (s : Step). block_of s ≡ b → ⊥) (erases (which_from p k i))
unfolding which_from
picked_apart p zero i b e = tt
picked_apart p (suc k) i b e = go (p i) refl (picked_apart p k (suc i) b e)
  where
    go : (t : Bool) → p i ≡ t → Each (λ (s : Step). block_of s ≡ b → ⊥) (erases (which_from p k (suc i)))
        → Each (λ (s : Step). block_of s ≡ b → ⊥) (erases (cond t (i ∷ which_from p k (suc i)) (which_from p k (suc i))))
    go true f r = (λ z. true-false (rw (← z) f) e, r)
    go false f r = r

-- ---- the data blocks without a live page erased, and the epoch used
module _ (img : List ℕ) (r : Record) (s : Sure img r) where
  abbrev swept : List ℕ
  swept = play_all (erases (which_from (is_dead img r) (blocks img) 0)) img

  inside_all : Each (Inside (length img)) (erases (which_from (is_dead img r) (blocks img) 0))
  inside_all = picked_inside (is_dead img r) (blocks img) 0 (length img) (let h : (0 + blocks img) * block_size ≤ length img = omega arith in h)

  pub swept_length : length swept ≡ length img
  swept_length = play_all-length (erases (which_from (is_dead img r) (blocks img) 0)) img inside_all

  block_kept : (b : ℕ) → is_dead img r b ≡ false → block_at swept b ≡ block_at img b
  block_kept b e = block_play_all_other (erases (which_from (is_dead img r) (blocks img) 0)) img b inside_all (picked_apart (is_dead img r) (blocks img) 0 b e)

  -- a chosen block is none of them, nor is the block of a live page
  chosen_kept : (b : ℕ) → is_chosen r.numbers b ≡ true → is_dead img r b ≡ false
  unfolding is_dead is_data
  chosen_kept b e = rw e (go (has_events img b) _)
    where
      go : (a b : Bool) → a && false && b ≡ false
      go true b = refl
      go false b = refl

  live-kept : (x : ℕ) → x < places → Named img r.map x → is_dead img r (page_of r.map x / pages_in_block) ≡ false
  unfolding is_dead has_live
  live-kept x h d =
      let b = page_of r.map x / pages_in_block in
      let here : live r.map x && eqb (page_of r.map x / pages_in_block) b ≡ true = and_intro (live r.map x) (eqb (page_of r.map x / pages_in_block) b) (named_live img r s.fit s.size x d) (eq-eqb b b refl) in
      rw (any_intro (λ y. live r.map y && eqb (page_of r.map y / pages_in_block) b) places 0 x (omega arith) (omega arith) here) (go (is_data img r.numbers b))
    where
      go : (a : Bool) → a && false ≡ false
      go true = refl
      go false = refl

  pub swept_fit : Fit swept (with_numbers r (next_epoch r.numbers))
  swept_fit =
      let c = s.fit in
      let kept : (b : ℕ) → is_chosen r.numbers b ≡ true → kind_of swept b ≡ kind_of img b = λ b e. kind_stays img swept b (block_kept b (chosen_kept b e)) in
      fit_over img swept r (next_epoch r.numbers) c
      (record {
        keys0 = (c.keys0.0, kept r.numbers.keys0 (keys0_chosen r.numbers) ∙ c.keys0.1);
        keys1 = (c.keys1.0, kept r.numbers.keys1 (keys1_chosen r.numbers) ∙ c.keys1.1);
        commit = (c.commit.0, c.commit.1, kept r.numbers.commit (commit_chosen r.numbers) ∙ c.commit.2);
      })
      (record { sequence = c.sequence; epoch = (omega (arith, c.epoch.0), omega (arith, s.epoch)) })
      (λ x h d. form_stays img swept (page_of r.map x) (block_kept (page_of r.map x / pages_in_block) (live-kept x h d)))

-- ---- all the stages
stages_fit : (noise : List ℕ) (s : Stage) → length noise ≡ noise_size → Sure s.image s.after → Fit (commit_stages noise s).image (commit_stages noise s).after
unfolding commit_stages dead_erased commit_replaced keys_replaced
stages_fit noise s full h =
    let s₁ = keys_replaced noise 0 s in
    let s₂ = keys_replaced noise 1 s₁ in
    let h₁ : Sure s₁.image s₁.after = keys0_sure s.image s.after h noise full in
    let h₂ : Sure s₂.image s₂.after = keys1_sure s₁.image s₁.after h₁ noise full in
    swept_fit _ _ (commit_sure s₂.image s₂.after h₂)

-- the image of a stage is that of its steps
played_more : (img : List ℕ) (steps more : List Step) (image : List ℕ) → image ≡ play_all steps img → play_all more image ≡ play_all (steps ++ more) img
played_more img steps more image e = ap (play_all more) e ∙ sym (play_all-append steps more img)

stages_played : (img noise : List ℕ) (s : Stage) → s.image ≡ play_all s.steps img → (commit_stages noise s).image ≡ play_all (commit_stages noise s).steps img
unfolding commit_stages dead_erased commit_replaced keys_replaced
stages_played img noise s e =
    let s₁ = keys_replaced noise 0 s in
    let s₂ = keys_replaced noise 1 s₁ in
    let s₃ = commit_replaced s₂ in
    let e₁ : s₁.image ≡ play_all s₁.steps img = played_more img s.steps _ s.image e in
    let e₂ : s₂.image ≡ play_all s₂.steps img = played_more img s₁.steps _ s₁.image e₁ in
    let e₃ : s₃.image ≡ play_all s₃.steps img = played_more img s₂.steps _ s₂.image e₂ in
    played_more img s₃.steps _ s₃.image e₃

-- ---- commit
begin_sure : (img : List ℕ) (r t : Record) → Ready img r → 1 ≤ empty_blocks img → r.numbers.epoch ≤ last_number → Fit img t → Full t → t.numbers ≡ r.numbers → Sure img t
begin_sure img r t ready room epoch f full same = record { size = ready.size; buffers = full; fit = f; room = lowest_some img room; epoch = rw same epoch }

pub commit-fits : (img : List ℕ) (r : Record) (noise : List ℕ) → (commit_of img r noise).reply ≡ Done → fits (play_all (commit_of img r noise).steps img) (commit_of img r noise).after ≡ true
commit-fits img r noise e =
    let t = commit_taken_lem img r noise e in
    let s = begin img (cleaned r) in
    let sure = begin_sure img r (cleaned r) t.ready t.room t.numbers_left (cleaned-fit img r (fits_is img r t.ready.fit)) (still_full r (cleaned r) (cleaned-as_long r) t.ready.buffers) refl in
    rw (commit_outcome img r noise e, ← stages_played img noise s (sym (play_all_nil img))) (fit-fits _ _ (stages_fit noise s t.noise_full sure))

-- ---- wipe
module _ (img : List ℕ) (r : Record) (file offset : ℕ) (ready : Ready img r) (planned : Planned file offset) (room : 1 ≤ empty_blocks img) (epochs : r.numbers.epoch + 1 ≤ last_number) where
  abbrev short : Record
  short = removed r file offset

  short_sure : Sure img short
  short_sure =
      begin_sure img r short ready room (omega arith) (removed-fit img r file offset (fits_is img r ready.fit) ready.size ready.buffers planned.offset_right)
      (still_full r short (removed-as_long r file offset) ready.buffers) (removed-numbers r file offset)

  first_sure : Sure (removed_first img r file offset).image (removed_first img r file offset).after
  unfolding removed_first commit_replaced
  first_sure =
      let h = commit_sure img short short_sure in
      let f = h.fit in
      let same = removed-numbers r file offset in
      let next = next_epoch (with_commit short.numbers (lowest_empty img)) in
      let t = with_numbers short next in
      let fit = fit_over _ (play_all (replace_commit img short) img) (with_numbers short (with_commit short.numbers (lowest_empty img))) next f
      (record { keys0 = f.keys0; keys1 = f.keys1; commit = f.commit })
      (record { sequence = f.sequence; epoch = (omega (arith, f.epoch.0), rw same (omega arith)) }) (λ x k d. refl) in
      record {
        size = h.size;
        buffers = still_full t (cleaned t) (cleaned-as_long t) (record { map_full = h.buffers.map_full; letters_full = h.buffers.letters_full });
        fit = cleaned-fit _ t fit;
        room = h.room;
        epoch = rw same epochs;
      }

  first_played : (removed_first img r file offset).image ≡ play_all (removed_first img r file offset).steps img
  unfolding removed_first commit_replaced
  first_played = played_more img [] (replace_commit img short) img (sym (play_all_nil img))

pub wipe-fits : (img : List ℕ) (r : Record) (noise : List ℕ) (file offset : ℕ) → (wipe_of img r noise file offset).reply ≡ Done
    → fits (play_all (wipe_of img r noise file offset).steps img) (wipe_of img r noise file offset).after ≡ true
wipe-fits img r noise file offset e =
    let t = wipe_taken_lem img r noise file offset e in
    let s = removed_first img r file offset in
    rw (wipe_outcome img r noise file offset e, ← stages_played img noise s (first_played img r file offset t.ready t.planned t.room t.numbers_left))
    (fit-fits _ _ (stages_fit noise s t.noise_full (first_sure img r file offset t.ready t.planned t.room t.numbers_left)))
