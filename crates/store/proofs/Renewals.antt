-- What the code of commit and wipe needs where a call is taken, and that it leaves what the call's definition says.
use Prim.Native.Nat.{ℕ, ◌+◌, ◌/◌, ◌≤◌}
use native.Mathlib.Omega.{arith}
use native.Mathlib.Decide.{ℕ_discrete}
use mathlib.Core.Path.{◌≡◌, refl, sym, ap, ◌∙◌}
use mathlib.Core.Bool.{Bool, true, false, cond}
use mathlib.Core.List.{List, [], map}
use lib.ListN.{length}
use Rattle.base.proofs.Choice.{true-false}
use Rattle.base.proofs.Searches.{first_agree}
use Rattle.page.specs.Key.{positions}
use Rattle.image.specs.Size.{pages_in_block, blocks}
use Rattle.image.specs.Look.{block_empty, lowest_empty, empty_blocks}
use Rattle.image.specs.Power.{Device, device, power_for, run}
use Rattle.image.specs.declared.Power.{Power}
use Rattle.image.proofs.Empties.{empty_block_page}
use Rattle.image.proofs.Looks.{sized, size_same, blocks-same, lowest_some}
use Rattle.image.proofs.Plays.{play_all_nil}
use Rattle.image.proofs.Runs.{run_nil, run_length}
use Rattle.store.specs.Reply.{Reply, Done, verdict, is_done}
use Rattle.store.specs.Kind.{page_in, kind_of, is_chosen}
use Rattle.store.specs.Record.{Record, record_of}
use Rattle.store.specs.Outcome.{left, most_steps}
use Rattle.store.specs.CutOff.{removed}
use Rattle.store.specs.Commit.{Stage, begin, next_epoch, clean_letter, cleaned, commit_replaced, commit_stages, commit_tests, commit_of}
use Rattle.store.specs.Wipe.{removed_first, wipe_tests, wipe_of}
use Rattle.store.specs.Stages.{is_spare, lowest_spare, Work, after, commit_moved, renewed, Able}
use Rattle.store.specs.Taken.{Ready, CommitTaken, WipeTaken}
use Rattle.store.specs.declared.Kind.TheVariants.{Other}
use Rattle.store.specs.declared.Numbers.{Numbers}
use Rattle.std.specs.Prelude.{Err}
use Rattle.store.specs.declared.Error.TheVariants.{PowerCut}
use Rattle.store.proofs.Verdicts.{commit-reply, commit_taken_lem, commit_done_lem, wipe-reply, wipe_taken_lem, wipe-done}
use Rattle.store.proofs.BlockKinds.{kind_unbegun}
use Rattle.store.proofs.Fits.{Fit, fits_is, fit_inside}
use Rattle.store.proofs.Outcomes.{leaves, commit_outcome, commit-refused, wipe_outcome, wipe-refused, stages_map, stages_letters, still_full, cleaned-as_long, removed-as_long, first_as_long}
use Rattle.store.proofs.Counts.{replaced, dead_few, commit-steps, wipe-steps}
use Rattle.store.proofs.Cuts.{run-left, taken_few}
use Rattle.store.proofs.Calls.{refused-left}
use Rattle.store.proofs.Removals.{removed-numbers}
use Rattle.store.proofs.Spares.{working, none_chosen, keys0_chosen, keys1_chosen, commit_chosen}
use Rattle.store.proofs.Follows.{Reached, lowest_spare_lem, lowest_at_work, new_below, reached_commit, follows_commit, follows_stages, replaced_blocks}

-- ---- a call begins on a record that fits: its spare blocks are the empty ones
-- a block of a kind is not empty
kind-full : (img : List ℕ) (b : ℕ) → (kind_of img b ≡ Other → ⊥) → block_empty img b ≡ false
kind-full img b h = go (block_empty img b) refl
  where
    go : (t : Bool) → block_empty img b ≡ t → t ≡ false
    go true e =
        let z : page_in b 0 / pages_in_block ≡ b = omega arith in
        absurd (h (kind_unbegun img b (empty_block_page img (page_in b 0) (rw z e))))
    go false e = refl

module _ (img : List ℕ) (r : Record) (ready : Ready img r) where
  fit : Fit img r
  fit = fits_is img r ready.fit

  chosen_full_lem : (b : ℕ) → is_chosen r.numbers b ≡ true → block_empty img b ≡ false
  chosen_full_lem b c = go (ℕ_discrete b r.numbers.keys0) (ℕ_discrete b r.numbers.keys1) (ℕ_discrete b r.numbers.commit)
    where
      go : Dec (b ≡ r.numbers.keys0) → Dec (b ≡ r.numbers.keys1) → Dec (b ≡ r.numbers.commit) → block_empty img b ≡ false
      go (yes e) k l = rw e (kind-full img r.numbers.keys0 (λ o. let a = fit.keys0.1 in let z : ◌≡◌ {A = ℕ} 0 1 = cc in omega arith))
      go (no d) (yes e) l = rw e (kind-full img r.numbers.keys1 (λ o. let a = fit.keys1.1 in let z : ◌≡◌ {A = ℕ} 0 1 = cc in omega arith))
      go (no d) (no e) (yes f) = rw f (kind-full img r.numbers.commit (λ o. let a = fit.commit.2 in let z : ◌≡◌ {A = ℕ} 0 1 = cc in omega arith))
      go (no d) (no e) (no f) = absurd (true-false c (none_chosen r.numbers b (record { not_keys0 = d; not_keys1 = e; not_commit = f })))

  empty_spare : (b : ℕ) → block_empty img b ≡ is_spare img r.numbers r.numbers b
  unfolding is_spare
  empty_spare b = go (is_chosen r.numbers b) refl
    where
      go : (t : Bool) → is_chosen r.numbers b ≡ t → block_empty img b ≡ is_spare img r.numbers r.numbers b
      go true e = chosen_full_lem b e ∙ rw e
      go false e = rw e

  lowest_is : lowest_empty img ≡ lowest_spare img r.numbers r.numbers
  unfolding lowest_empty lowest_spare
  lowest_is = first_agree (block_empty img) (is_spare img r.numbers r.numbers) (blocks img) 0 (λ b h k. empty_spare b)

  module _ (room : 1 ≤ empty_blocks img) where
    pub begin_able : Able img r.numbers r.numbers
    begin_able =
        let i = fit_inside img r fit ready.size in
        let a = fit.keys0.1 in
        let b = fit.keys1.1 in
        let c = fit.commit.2 in
        record {
          size = ready.size;
          keys0 = i.0;
          keys1 = i.1;
          commit = i.2;
          keys_apart = λ e. let z : ◌≡◌ {A = ℕ} 0 1 = cc in omega arith;
          keys0_apart = λ e. let z : ◌≡◌ {A = ℕ} 0 1 = cc in omega arith;
          keys1_apart = λ e. let z : ◌≡◌ {A = ℕ} 0 1 = cc in omega arith;
          spare = rw (← lowest_is) (lowest_some img room);
        }

    begin_reached : (s : Record) → s.numbers ≡ r.numbers → Reached img r.numbers (begin img s)
    begin_reached s e =
        record {
          image = sym (play_all_nil img);
          inside = tt;
          apart = λ b f n. tt;
          empties = λ b h. rw e (empty_spare b);
          able = rw e begin_able;
        }

    -- the lowest empty block is the lowest spare one
    pub begin-spare : lowest_empty img ≡ lowest_spare img r.numbers r.numbers
    begin-spare = lowest_spare_lem img r.numbers (begin img r) (begin_reached r refl)

  pub sequence-some : 1 ≤ r.numbers.sequence
  sequence-some = fit.sequence.0

-- ---- what the next stage needs of the flash as a power left it
pub after_able : (img : List ℕ) (first : Numbers) (s : Stage) → Reached img first s → (p q : Power) (img' : List ℕ) (m : Numbers) → working q img' m ≡ after p img s → Able img' first m
after_able img first s g p q img' m e =
    let n : m ≡ s.after.numbers = ap (λ (w : Work). w.numbers) e in
    let i : img' ≡ (run s.steps (device p img)).image = ap (λ (w : Work). w.flash.image) e in
    let l : length img' ≡ length img = rw i (run_length s.steps (device p img) g.inside) in
    let c : blocks img' ≡ blocks img = blocks-same img img' l in
    let a = g.able in
    rw n
    (record {
      size = size_same img' (length img) l ∙ sym (size_same img (length img) refl) ∙ a.size;
      keys0 = omega (arith, a.keys0);
      keys1 = omega (arith, a.keys1);
      commit = omega (arith, a.commit);
      keys_apart = a.keys_apart;
      keys0_apart = a.keys0_apart;
      keys1_apart = a.keys1_apart;
      spare = let z : lowest_spare img' first s.after.numbers ≡ lowest_empty s.image = rw i (lowest_at_work img first s g p) in omega (arith, new_below img first s g);
    })

-- a record by its parts
pub record_is : {m l : List ℕ} {n : Numbers} (a : Record) → m ≡ a.map → l ≡ a.letters → n ≡ a.numbers → record_of m l n ≡ a
record_is a e f g = rw (e, f, g)

-- ---- commit
module _ (img : List ℕ) (r : Record) (noise : List ℕ) where
  pub commit_refuse : (n k : ℕ) (v : Reply) → v ≡ verdict (commit_tests img r noise) → is_done v ≡ false → leaves v img r [] ≡ left n k (commit_of img r noise) img
  commit_refuse n k v e d = refused-left n k img r v (e ∙ sym (commit-reply img r noise)) d (commit-refused img r noise)

  pub commit-take : verdict (commit_tests img r noise) ≡ Done → CommitTaken img r noise
  commit-take e = commit_taken_lem img r noise (commit-reply img r noise ∙ e)

  -- what the work leaves
  pub commit-left : (n k : ℕ) (img' letters' : List ℕ) (q : Power) (m : Numbers) → CommitTaken img r noise → letters' ≡ map clean_letter r.letters
      → working q img' m ≡ renewed r.map letters' noise r.numbers (working (power_for n k) img r.numbers)
      → leaves (cond q.on Done (Err PowerCut)) img' (record_of r.map letters' m) [] ≡ left n k (commit_of img r noise) img
  commit-left n k img' letters' q m t l d =
      let s = begin img (cleaned r) in
      let g = begin_reached img r t.ready t.room (cleaned r) refl in
      let w : working (power_for n k) img r.numbers ≡ after (power_for n k) img s = ap (λ (x : Device). record { flash = x; numbers = r.numbers }) (sym (run_nil (device (power_for n k) img))) in
      let e : working q img' m ≡ after (power_for n k) img (commit_stages noise s)
      = d ∙ rw (l, w) (follows_stages img noise r.numbers s g t.noise_full (keys0_chosen r.numbers) (keys1_chosen r.numbers) (power_for n k)) in
      let o = commit_outcome img r noise (commit_done_lem img r noise t) in
      let f : m ≡ (commit_stages noise s).after.numbers = ap (λ (x : Work). x.numbers) e in
      let b : record_of r.map letters' m ≡ (commit_stages noise s).after = record_is (commit_stages noise s).after (sym (stages_map noise s)) (l ∙ sym (stages_letters noise s)) f in
      rw b (run-left n k img img' q o (ap (λ (x : Work). x.flash) e))

  -- no commit has more steps than the replaced blocks' and one for each block
  pub commit-few : length (commit_of img r noise).steps ≤ most_steps
  commit-few =
      taken_few most_steps (commit_of img r noise)
      (λ e.
      let t = commit_taken_lem img r noise e in
      let s = begin img (cleaned r) in
      let g = begin_reached img r t.ready t.room (cleaned r) refl in
      let full = still_full r (cleaned r) (cleaned-as_long r) t.ready.buffers in
      omega (arith, commit-steps img r noise e, dead_few (replaced noise s), replaced_blocks img noise r.numbers s g t.noise_full full.letters_full (keys0_chosen r.numbers) (keys1_chosen r.numbers), (sized img t.ready.size).most))
      (λ d. rw (commit-refused img r noise d))

-- ---- wipe
module _ (img : List ℕ) (r : Record) (file offset : ℕ) where
  -- its first commit block
  module _ (ready : Ready img r) (room : 1 ≤ empty_blocks img) where
    abbrev short : Record
    short = removed r file offset

    begun : Reached img r.numbers (begin img short)
    begun = begin_reached img r ready room short (removed-numbers r file offset)

    short_letters : length short.letters ≡ positions
    short_letters = (still_full r short (removed-as_long r file offset) ready.buffers).letters_full

    pub first_reached : Reached img r.numbers (removed_first img r file offset)
    unfolding removed_first is_spare lowest_spare
    first_reached =
        let g = reached_commit img r.numbers (begin img short) begun short_letters (rw (removed-numbers r file offset) (commit_chosen r.numbers)) in
        let a = g.able in
        record {
          image = g.image;
          inside = g.inside;
          apart = g.apart;
          empties = g.empties;
          able = record {
            size = a.size;
            keys0 = a.keys0;
            keys1 = a.keys1;
            commit = a.commit;
            keys_apart = a.keys_apart;
            keys0_apart = a.keys0_apart;
            keys1_apart = a.keys1_apart;
            spare = a.spare;
          };
        }

    pub first_left : (n k : ℕ) (map₁ letters₁ letters₂ img₁ : List ℕ) (q : Power) (n₁ m : Numbers) → record_of map₁ letters₁ r.numbers ≡ short
        → working q img₁ n₁ ≡ commit_moved map₁ letters₁ r.numbers (working (power_for n k) img r.numbers) → letters₂ ≡ map clean_letter letters₁ → m ≡ next_epoch n₁
        → (working q img₁ m ≡ after (power_for n k) img (removed_first img r file offset)) × (record_of map₁ letters₂ m ≡ (removed_first img r file offset).after)
    unfolding removed_first commit_replaced
    first_left n k map₁ letters₁ letters₂ img₁ q n₁ m e d l f =
        let s = begin img short in
        let a : map₁ ≡ short.map = ap (λ (x : Record). x.map) e in
        let b : letters₁ ≡ short.letters = ap (λ (x : Record). x.letters) e in
        let w : working (power_for n k) img r.numbers ≡ after (power_for n k) img s = rw (run_nil (device (power_for n k) img), removed-numbers r file offset) in
        let h : working q img₁ n₁ ≡ after (power_for n k) img (commit_replaced s) = d ∙ rw (a, b, w) (follows_commit img r.numbers s begun (power_for n k)) in
        let u : n₁ ≡ (commit_replaced s).after.numbers = ap (λ (x : Work). x.numbers) h in (
          rw f (ap (λ (x : Work). record { flash = x.flash; numbers = next_epoch x.numbers }) h),
          record_is (removed_first img r file offset).after a (l ∙ ap (map clean_letter) b) (f ∙ ap next_epoch u),
        )

module _ (img : List ℕ) (r : Record) (noise : List ℕ) (file offset : ℕ) where
  pub wipe_refuse : (n k : ℕ) (v : Reply) → v ≡ verdict (wipe_tests img r noise file offset) → is_done v ≡ false → leaves v img r [] ≡ left n k (wipe_of img r noise file offset) img
  wipe_refuse n k v e d = refused-left n k img r v (e ∙ sym (wipe-reply img r noise file offset)) d (wipe-refused img r noise file offset)

  pub wipe-take : verdict (wipe_tests img r noise file offset) ≡ Done → WipeTaken img r noise file offset
  wipe-take e = wipe_taken_lem img r noise file offset (wipe-reply img r noise file offset ∙ e)

  -- the key blocks that its commit replaces are those that it began with
  pub first_keys : WipeTaken img r noise file offset
      → (is_chosen r.numbers (removed_first img r file offset).after.numbers.keys0 ≡ true) × (is_chosen r.numbers (removed_first img r file offset).after.numbers.keys1 ≡ true)
  unfolding removed_first commit_replaced
  first_keys t = rw (removed-numbers r file offset) (keys0_chosen r.numbers, keys1_chosen r.numbers)

  pub first_numbers_lem : WipeTaken img r noise file offset
      → ((removed_first img r file offset).after.numbers.sequence ≡ r.numbers.sequence) × ((removed_first img r file offset).after.numbers.epoch ≡ r.numbers.epoch + 1)
  unfolding removed_first commit_replaced
  first_numbers_lem t = rw (removed-numbers r file offset) (refl, refl)

  -- what the work leaves
  pub wipe-left : (n k : ℕ) (map₁ letters₁ img₁ img' : List ℕ) (q₁ q : Power) (n₁ m : Numbers) → WipeTaken img r noise file offset
      → working q₁ img₁ n₁ ≡ after (power_for n k) img (removed_first img r file offset) → record_of map₁ letters₁ n₁ ≡ (removed_first img r file offset).after
      → working q img' m ≡ renewed map₁ letters₁ noise r.numbers (working q₁ img₁ n₁)
      → leaves (cond q.on Done (Err PowerCut)) img' (record_of map₁ letters₁ m) [] ≡ left n k (wipe_of img r noise file offset) img
  wipe-left n k map₁ letters₁ img₁ img' q₁ q n₁ m t d e f =
      let s = removed_first img r file offset in
      let g = first_reached img r file offset t.ready t.room in
      let a : map₁ ≡ s.after.map = ap (λ (x : Record). x.map) e in
      let b : letters₁ ≡ s.after.letters = ap (λ (x : Record). x.letters) e in
      let c = first_keys t in
      let h : working q img' m ≡ after (power_for n k) img (commit_stages noise s) = f ∙ rw (a, b, d) (follows_stages img noise r.numbers s g t.noise_full c.0 c.1 (power_for n k)) in
      let o = wipe_outcome img r noise file offset (wipe-done img r noise file offset t) in
      let i : record_of map₁ letters₁ m ≡ (commit_stages noise s).after
      = record_is (commit_stages noise s).after (a ∙ sym (stages_map noise s)) (b ∙ sym (stages_letters noise s)) (ap (λ (x : Work). x.numbers) h) in
      rw i (run-left n k img img' q o (ap (λ (x : Work). x.flash) h))

  pub wipe-few : length (wipe_of img r noise file offset).steps ≤ most_steps
  wipe-few =
      taken_few most_steps (wipe_of img r noise file offset)
      (λ e.
      let t = wipe_taken_lem img r noise file offset e in
      let s = removed_first img r file offset in
      let g = first_reached img r file offset t.ready t.room in
      let c = first_keys t in
      let full = still_full r s.after (first_as_long img r file offset) t.ready.buffers in
      omega (arith, wipe-steps img r noise file offset e, dead_few (replaced noise s), replaced_blocks img noise r.numbers s g t.noise_full full.letters_full c.0 c.1, (sized img t.ready.size).most))
      (λ d. rw (wipe-refused img r noise file offset d))
