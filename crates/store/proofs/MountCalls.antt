-- What the code of a mount needs where it goes on, and that it leaves what the call's definition says.
use Prim.Native.Nat.{ℕ, ◌<◌, ◌≤◌}
use native.Mathlib.Omega.{arith}
use mathlib.Core.Path.{◌≡◌, refl, sym, ap, ◌∙◌}
use mathlib.Core.Bool.{Bool, true, false, cond, ◌||◌}
use mathlib.Core.List.{List, [], map as each}
use lib.Dec.{eqb, leb}
use lib.ListN.{length, drop}
use borrow.Author.Tests.{leb-true, eqb-true, eq-eqb}
use Rattle.base.specs.Search.{which_from, highest_from}
use Rattle.base.proofs.Choice.{and-true}
use Rattle.base.proofs.Searches.{highest_least}
use Rattle.page.specs.Plan.{places}
use Rattle.page.specs.Header.{last_number}
use Rattle.image.specs.Size.{blocks, pages, size_right}
use Rattle.image.specs.Look.{form_at}
use Rattle.image.specs.Step.{erase}
use Rattle.image.specs.Power.{device, power_for, run}
use Rattle.image.specs.declared.Power.{Power}
use Rattle.image.proofs.Looks.{sized}
use Rattle.store.specs.Reply.{Reply, Done, verdict, number_of, is_done}
use Rattle.store.specs.Kind.{kind_of, covered_by}
use Rattle.store.specs.Record.{record_of, is_dead, keys_apart}
use Rattle.store.specs.Outcome.{left, most_steps}
use Rattle.store.specs.Find.{is_found, found_at}
use Rattle.store.specs.Format.{buffers_right, no_numbers}
use Rattle.store.specs.Mount.{chosen_commit, chosen_keys, covered_in, sequence_of, epoch_of, mount_numbers, mount_map, entries_fit, mounted, is_covered_dead, is_swept, mount_steps, mount_tests, size_tests, block_tests, mount_of}
use Rattle.store.specs.Survey.{survey_of, covered_at, blocks_found, survey_numbers, Surveyed}
use Rattle.store.specs.Rebuild.{mount_fits, highest_sequence, Rebuilding, Sweeping, Cleared}
use Rattle.store.specs.Taken.{Buffers, MountChosen}
use Rattle.store.specs.declared.Numbers.{Numbers}
use Rattle.store.specs.declared.mount.Chosen.{Chosen}
use Rattle.store.specs.declared.replay.Seen.{Seen}
use Rattle.store.specs.declared.survey.Survey.{Survey}
use Rattle.std.specs.Prelude.{Err}
use Rattle.store.specs.declared.Kind.TheVariants.{Commit}
use Rattle.store.specs.declared.Error.TheVariants.{EntryUnfit, PowerCut}
use Rattle.store.proofs.Verdicts.{verdict-done, verdict_among, done-true, buffers-true, buffers_right_lem, mount-reply, mount_taken}
use Rattle.store.proofs.Refusals.{refuses_first, passes_first}
use Rattle.store.proofs.BlockKinds.{commit_range}
use Rattle.store.proofs.Choices.{commit_chosen, keys_chosen}
use Rattle.store.proofs.Finds.{found_is}
use Rattle.store.proofs.Fits.{live-headed}
use Rattle.store.proofs.Mounts.{mounted-fit, sequence_most_lem, epoch_most_lem}
use Rattle.store.proofs.Outcomes.{leaves, left_stepless, mount_outcome, mount-refused, mount_as_lent, mount-filled}
use Rattle.store.proofs.Counts.{mount-few}
use Rattle.store.proofs.Cuts.{run-left, taken_few}

-- ---- what the pass over the blocks found
module _ (img : List ℕ) where
  surveyed_commit : (survey_of img (blocks img)).commit.at ≡ chosen_commit img
  unfolding survey_of chosen_commit
  surveyed_commit = refl

  surveyed_keys0 : (survey_of img (blocks img)).keys0.at ≡ chosen_keys img 0
  unfolding survey_of chosen_keys
  surveyed_keys0 = refl

  surveyed_keys1 : (survey_of img (blocks img)).keys1.at ≡ chosen_keys img 1
  unfolding survey_of chosen_keys
  surveyed_keys1 = refl

  surveyed_covered : is_found (chosen_commit img) ≡ true → (survey_of img (blocks img)).covered ≡ covered_in img (found_at (chosen_commit img))
  unfolding survey_of chosen_commit
  surveyed_covered h = ap (covered_at img) (found_is (chosen_commit img) h)

  surveyed_highest : (survey_of img (blocks img)).highest ≡ highest_from (epoch_of img) (blocks img) 0
  unfolding survey_of
  surveyed_highest = refl

  module _ (s : Survey) (found : s ≡ survey_of img (blocks img)) where
    pub survey_tests : block_tests s.commit.at s.keys0.at s.keys1.at ≡ block_tests (chosen_commit img) (chosen_keys img 0) (chosen_keys img 1)
    survey_tests = rw (found, surveyed_commit, surveyed_keys0, surveyed_keys1)

    pub survey_commit : (c : ℕ) → c ≡ found_at s.commit.at → c ≡ found_at (chosen_commit img)
    survey_commit c e = e ∙ rw (found, surveyed_commit)

    -- the commit that was chosen, as the pass over the pages needs it
    pub survey_kind : is_found (chosen_commit img) ≡ true → (c : ℕ) → c ≡ found_at (chosen_commit img) → (e : ℕ) × (kind_of img c ≡ Commit e s.covered)
    unfolding covered_in
    survey_kind h c e =
        let b = commit_chosen img (found_at (chosen_commit img)) (found_is (chosen_commit img) h) in
        (b.epoch, ap (kind_of img) e ∙ b.whole ∙ ap (Commit b.epoch) (sym (ap (λ (t : Survey). t.covered) found ∙ surveyed_covered h ∙ ap covered_by b.whole)))

    pub survey_numbers_lem : is_found (chosen_commit img) ≡ true → (h : ℕ) → h ≡ highest_sequence img → survey_numbers s h ≡ mount_numbers img
    unfolding survey_numbers mount_numbers
    survey_numbers_lem c h e = rw (found, e, surveyed_covered c, surveyed_highest, surveyed_commit, surveyed_keys0, surveyed_keys1)

    pub survey_ranges : size_right img ≡ true → is_found (chosen_commit img) ≡ true → is_found (chosen_keys img 0) ≡ true → is_found (chosen_keys img 1) ≡ true
        → (h : ℕ) → h ≡ highest_sequence img → Surveyed s h
    survey_ranges z c k l h e =
        let most = (sized img z).most in
        let commit = survey_kind c (found_at (chosen_commit img)) refl in
        record {
          covered_most = (commit_range img (found_at (chosen_commit img)) commit.0 s.covered commit.1).2;
          sequence_most = rw e (highest_least (λ g. sequence_of (form_at img g)) (pages img) 0 last_number (λ g a b. sequence_most_lem img g));
          epoch_most = rw (found, surveyed_highest) (highest_least (epoch_of img) (blocks img) 0 last_number (λ b a d. epoch_most_lem img b));
          keys0_inside = rw (found, surveyed_keys0) (omega (arith, most, (keys_chosen img 0 (found_at (chosen_keys img 0)) (found_is (chosen_keys img 0) k)).inside));
          keys1_inside = rw (found, surveyed_keys1) (omega (arith, most, (keys_chosen img 1 (found_at (chosen_keys img 1)) (found_is (chosen_keys img 1) l)).inside));
          commit_inside = rw (found, surveyed_commit) (omega (arith, most, (commit_chosen img (found_at (chosen_commit img)) (found_is (chosen_commit img) c)).inside));
        }

-- the commit block, of those that the tests hand on
pub commit_block : (s : Survey) (chosen : Chosen) → chosen ≡ blocks_found s → chosen.commit ≡ found_at s.commit.at
commit_block s chosen e = rw e

-- ---- the tests, part by part
module _ (img map letters scratch : List ℕ) where
  -- refused with 1 or 2, all stays as lent
  pub sizes_refuse : (n k : ℕ) (v : Reply) → v ≡ verdict (size_tests img map letters scratch) → is_done v ≡ false
      → leaves v img (record_of map letters no_numbers) scratch ≡ left n k (mount_of img map letters scratch) img
  sizes_refuse n k v e d =
      let q : (mount_of img map letters scratch).reply ≡ v
      = mount-reply img map letters scratch ∙ refuses_first (size_tests img map letters scratch) (drop 2 (mount_tests img map letters scratch)) e d in
      let few : leb (number_of v) 2 ≡ true = rw e (verdict_among (λ r. leb (number_of r) 2) (size_tests img map letters scratch) refl refl) in
      let m : number_of (mount_of img map letters scratch).reply < 12 = rw q (omega (arith, leb-true (number_of v) 2 few)) in
      rw (← q) (sym (left_stepless n k img (mount_as_lent img map letters scratch (ap is_done q ∙ d) m)))

  -- what the passed tests say
  pub sizes_passed : (v : Reply) → v ≡ verdict (size_tests img map letters scratch) → is_done v ≡ true → (size_right img ≡ true) × Buffers map letters × (length scratch ≡ places)
  sizes_passed v e d =
      let t = verdict-done (size_tests img map letters scratch) (sym e ∙ done-true v d) in
      let b = and-true (buffers_right map letters) (eqb (length scratch) places) t.1.0 in
      (t.0, buffers-true map letters b.0, eqb-true _ _ b.1)

  pub blocks-passed : (v w : Reply) → v ≡ verdict (size_tests img map letters scratch) → is_done v ≡ true
      → w ≡ verdict (block_tests (chosen_commit img) (chosen_keys img 0) (chosen_keys img 1)) → is_done w ≡ true → MountChosen img map letters scratch
  blocks-passed v w e d f h =
      let s = sizes_passed v e d in
      let t = verdict-done (block_tests (chosen_commit img) (chosen_keys img 0) (chosen_keys img 1)) (sym f ∙ done-true w h) in
      let k = and-true (is_found (chosen_keys img 0)) (is_found (chosen_keys img 1)) t.1.0 in
      record { size = s.0; buffers = s.1; scratch_full = s.2; commit_there = t.0; keys0_there = k.0; keys1_there = k.1 }

  -- refused with 12 to 14, all is cleared
  cleared_refuse : (n k : ℕ) (v : Reply) (m l s : List ℕ) → (mount_of img map letters scratch).reply ≡ v → 12 ≤ number_of v → Cleared m l s
      → leaves v img (record_of m l no_numbers) s ≡ left n k (mount_of img map letters scratch) img
  cleared_refuse n k v m l s q h c =
      rw (c.map_cleared, c.letters_cleared, c.scratch_cleared, ← q) (sym (left_stepless n k img (mount-filled img map letters scratch (rw q h))))

  pub blocks_refuse : (n k : ℕ) (v w : Reply) (m l s : List ℕ) → v ≡ verdict (size_tests img map letters scratch) → is_done v ≡ true
      → w ≡ verdict (block_tests (chosen_commit img) (chosen_keys img 0) (chosen_keys img 1)) → is_done w ≡ false → Cleared m l s
      → leaves w img (record_of m l no_numbers) s ≡ left n k (mount_of img map letters scratch) img
  blocks_refuse n k v w m l s e d f h c =
      let tests = block_tests (chosen_commit img) (chosen_keys img 0) (chosen_keys img 1) in
      let q : (mount_of img map letters scratch).reply ≡ w
      = mount-reply img map letters scratch ∙ passes_first (size_tests img map letters scratch) (drop 2 (mount_tests img map letters scratch)) e d
      ∙ refuses_first tests (drop 4 (mount_tests img map letters scratch)) f h in
      let many : is_done w || leb 12 (number_of w) ≡ true = rw f (verdict_among (λ r. is_done r || leb 12 (number_of r)) tests refl refl) in
      cleared_refuse n k w m l s q (leb-true _ _ (rw h at many)) c

  module _ (chosen : MountChosen img map letters scratch) where
    -- the tests before the last are passed
    last_test_lem : verdict (mount_tests img map letters scratch) ≡ cond (mount_fits img (found_at (chosen_commit img))) Done (Err EntryUnfit)
    last_test_lem =
        rw (
          chosen.size,
          buffers_right_lem map letters chosen.buffers,
          eq-eqb _ _ chosen.scratch_full,
          chosen.commit_there,
          chosen.keys0_there,
          chosen.keys1_there,
        )

    -- what the work leaves, with the commit in block c
    module _ (n k c : ℕ) (m l s : List ℕ) (commit : c ≡ found_at (chosen_commit img)) where
      pub pages_refuse : mount_fits img c ≡ false → Cleared m l s → leaves (Err EntryUnfit) img (record_of m l no_numbers) s ≡ left n k (mount_of img map letters scratch) img
      pages_refuse f clear =
          cleared_refuse n k (Err EntryUnfit) m l s (mount-reply img map letters scratch ∙ last_test_lem ∙ rw (← commit, f)) (omega arith) clear

      pub mount-left : (seen : Seen) (img' : List ℕ) (survey : Survey) (numbers : Numbers) (q : Power) → Rebuilding img c m l s seen
          → survey ≡ survey_of img (blocks img) → numbers ≡ survey_numbers survey seen.highest
          → device q img' ≡ run (each erase (which_from (is_swept img (record_of m [] numbers)) (blocks img) 0)) (device (power_for n k) img)
          → leaves (cond q.on Done (Err PowerCut)) img' (record_of m l numbers) s ≡ left n k (mount_of img map letters scratch) img
      unfolding mounted mount_steps is_swept is_covered_dead is_dead
      mount-left seen img' survey numbers q t found counted d =
          let e : numbers ≡ mount_numbers img = counted ∙ survey_numbers_lem img survey found chosen.commit_there seen.highest t.highest_made in
          let o = mount_outcome img map letters scratch (mount-reply img map letters scratch ∙ last_test_lem ∙ rw (← commit, t.fit)) in
          let map_is : m ≡ (mounted img).map = t.map_made ∙ ap (mount_map img) commit in
          rw (t.map_made, t.letters_made, t.scratch_made, e, commit) (run-left n k img img' q o (rw (map_is, e) at d))

      -- and what the erases go by
      pub mount_sweeping : (seen : Seen) (survey : Survey) (numbers : Numbers) → Rebuilding img c m l s seen
          → survey ≡ survey_of img (blocks img) → numbers ≡ survey_numbers survey seen.highest → Sweeping img m seen.events numbers
      unfolding mounted mount_numbers
      mount_sweeping seen survey numbers t found counted =
          let e : numbers ≡ mount_numbers img = counted ∙ survey_numbers_lem img survey found chosen.commit_there seen.highest t.highest_made in
          let both = and-true (entries_fit img c) (keys_apart (mount_map img c)) t.fit in
          let fit = mounted-fit img chosen.commit_there chosen.keys0_there chosen.keys1_there (rw commit at both.0) (rw commit at both.1) in
          record {
            few = (sized img chosen.size).most;
            told = λ b k. t.events_made b k ∙ rw (e, commit);
            headed = λ b k. live-headed img (mounted img) fit b (rw (t.map_made, commit) at k);
          }

  -- no more steps than there are blocks
  pub mount-call-few : length (mount_of img map letters scratch).steps ≤ most_steps
  mount-call-few =
      taken_few most_steps (mount_of img map letters scratch)
      (λ e. rw (mount_outcome img map letters scratch e) (omega (arith, mount-few img, (sized img (mount_taken img map letters scratch e).size).most)))
      (λ d. rw (mount-refused img map letters scratch d))
