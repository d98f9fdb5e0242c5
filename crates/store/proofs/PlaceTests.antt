-- The test of all places, place by place and run by run: how far it has come, and what its answer says.
use Prim.Native.Nat.{ℕ, ◌+◌, ◌-◌, ◌%◌, ◌<◌, ◌≤◌}
use native.Mathlib.Omega.{arith}
use native.Mathlib.Decide.{dec_lt}
use mathlib.Core.Path.{◌≡◌, refl, sym, ◌∙◌}
use mathlib.Core.Bool.{Bool, true, false, not, ◌&&◌, ◌||◌}
use mathlib.Core.List.{List}
use lib.Dec.{eqb}
use lib.ListN.{length, get_or, set, replicate, take, drop, get_or-eq_default}
use borrow.Author.Tests.{eqb-true, eqb-false, not-true, not-false}
use Rattle.base.specs.Part.{part}
use Rattle.base.specs.Search.{all_from}
use Rattle.base.proofs.Choice.{and-true, and_intro, both_ways, true-false}
use Rattle.base.proofs.Parts.{part_length, part_at}
use Rattle.base.proofs.Searches.{below_suc, all_holds, all_intro}
use Rattle.page.specs.Plan.{file_plan, last_file, places, count_of, start_of}
use Rattle.page.specs.Key.{positions}
use Rattle.page.specs.Entry.{none}
use Rattle.page.proofs.Plans.{start-after, plan_sum}
use Rattle.page.proofs.Slices.{get_d_there}
use Rattle.image.specs.Look.{form_at}
use Rattle.store.specs.Record.{map_size, page_of, key_of, vacant_at, node_at, place_fits, named_times, keys_apart}
use Rattle.store.specs.Testing.{run_length, InFile, places_fit, Tested}
use Rattle.store.proofs.Names.{tallied-none, tallied_next, tallied_unnamed, tallied-run, tallied_twice, tallied_all, tallied-apart}

-- ---- a file's places are places of the plan
pub file-end : (file : ℕ) → file ≤ last_file → start_of file_plan file + count_of file_plan file ≤ places
file-end file h = rw plan_sum at (start-after file_plan file (length file_plan) (omega arith))

-- and are whole runs
pub file_runs : (file : ℕ) → file ≤ last_file → count_of file_plan file % run_length ≡ 0
unfolding count_of all_from
file_runs file h = eqb-true _ _ (all_holds (λ f. eqb (get_or file_plan f 0 % run_length) 0) (last_file + 1) 0 file refl (omega arith) (omega arith))

pub in_places : (file first x end : ℕ) → InFile file first x end → end ≤ places
in_places file first x end i = omega (arith, file-end file i.known)

-- ---- a place as the code reads it
module _ (map : List ℕ) (x : ℕ) (size : length map ≡ map_size) (inside : x < places) where
  pub vacant-read : eqb (get_or map x 0) none && eqb (get_or map (places + x) 0) none ≡ vacant_at map x
  vacant-read = rw (get_d_there map x none 0 (omega arith), get_d_there map (places + x) none 0 (omega arith))

  pub node-read : (img : List ℕ) (y : ℕ) (r : Bool) → eqb (get_or map x 0) none && eqb (get_or map (places + x) 0) none ≡ false → y ≡ x
      → r ≡ node_at y (get_or map (places + x) 0) (form_at img (get_or map x 0)) → place_fits img map x ≡ r
  unfolding place_fits
  node-read img y r v e n =
      let w : vacant_at map x ≡ false = sym vacant-read ∙ v in
      rw (w, get_d_there map x none 0 (omega arith), get_d_there map (places + x) none 0 (omega arith)) (sym (rw e at n))

-- the places of a run, or their keys, as code that takes them out of the map reads them
pub run-read : (map : List ℕ) (a n i : ℕ) → i < length (take n (drop a map)) → a + n ≤ length map → get_or (take n (drop a map)) i 0 ≡ get_or map (a + i) none
unfolding part
run-read map a n i h k =
    let l : length (take n (drop a map)) ≡ n = part_length map a n k in
    part_at map a n i 0 (omega arith) ∙ get_d_there map (a + i) 0 none (omega arith)

pub vacant-place : (img map : List ℕ) (x : ℕ) → vacant_at map x ≡ true → place_fits img map x ≡ true
unfolding place_fits
vacant-place img map x v = rw v

-- ---- before the first place
pub tested_none : (img map named : List ℕ) → named ≡ replicate positions 0 → Tested img map named 0
tested_none img map named e = record { fit = λ y h. absurd (omega arith); tallied = tallied-none map named e }

-- ---- place x
module _ (img map named : List ℕ) (x : ℕ) (inside : x < places) (tested : Tested img map named x) where
  fit_next : place_fits img map x ≡ true → (y : ℕ) → y < x + 1 → place_fits img map y ≡ true
  fit_next e y h = below_suc (λ y. place_fits img map y ≡ true) x tested.fit e y (omega arith)

  pub tested_vacant : vacant_at map x ≡ true → Tested img map named (x + 1)
  tested_vacant v =
      record {
        fit = fit_next (vacant-place img map x v);
        tallied = tallied_unnamed map named x inside tested.tallied (eqb-true _ _ (and-true (eqb (page_of map x) none) (eqb (key_of map x) none) v).1);
      }

  pub tested_node : (next : List ℕ) → place_fits img map x ≡ true → get_or named (key_of map x) 0 ≡ 0 → next ≡ set named (key_of map x) 1 → Tested img map next (x + 1)
  tested_node next e z s =
      record { fit = fit_next e; tallied = tallied_next map named x inside tested.tallied next (key_of map x) refl z s }

  pub tested_twice : (get_or named (key_of map x) 0 ≡ 0 → ⊥) → places_fit img map ≡ false
  tested_twice z = last_fails (all_from (place_fits img map) places 0) (tallied_twice map named x inside tested.tallied (key_of map x) refl z)
    where
      last_fails : (a : Bool) {b : Bool} → b ≡ false → a && b ≡ false
      last_fails true e = e
      last_fails false e = refl

  -- by the test that the position is not marked with 1
  pub tested_unnamed : (next : List ℕ) → place_fits img map x ≡ true → not (eqb (get_or named (key_of map x) 0) 1) ≡ true → next ≡ set named (key_of map x) 1
      → Tested img map next (x + 1)
  tested_unnamed next e t s = tested_node next e (unnamed (dec_lt (key_of map x) positions)) s
    where
      other : get_or named (key_of map x) 0 ≡ 1 → ⊥
      other = eqb-false _ _ (not-true _ t)

      unnamed : Dec (key_of map x < positions) → get_or named (key_of map x) 0 ≡ 0
      unnamed (yes h) = omega (arith, other, tested.tallied.few (key_of map x) h)
      unnamed (no h) = get_or-eq_default named 0 (omega (arith, tested.tallied.size))

  pub tested_named : not (eqb (get_or named (key_of map x) 0) 1) ≡ false → places_fit img map ≡ false
  tested_named t = let one = eqb-true _ _ (not-false _ t) in tested_twice (λ z. omega arith)

-- a place that does not fit
pub unfit_place : (img map : List ℕ) (x : ℕ) → x < places → place_fits img map x ≡ false → places_fit img map ≡ false
unfit_place img map x h e = go (all_from (place_fits img map) places 0) refl
  where
    go : (b : Bool) → all_from (place_fits img map) places 0 ≡ b → b && keys_apart map ≡ false
    go true t = absurd (true-false (all_holds (place_fits img map) places 0 x t (omega arith) (omega arith)) e)
    go false t = refl

-- ---- vacant places in a row
module _ (img map : List ℕ) (n x : ℕ) (vacant : all_from (vacant_at map) n x ≡ true) where
  run_fits : (y : ℕ) → x ≤ y → y < x + n → place_fits img map y ≡ true
  run_fits y a b = vacant-place img map y (all_holds (vacant_at map) n x y vacant a b)

  pub tested_run : (named : List ℕ) → x + n ≤ places → Tested img map named x → Tested img map named (x + n)
  tested_run named h t =
      record {
        fit = λ y b. elim (dec_lt y x) [ yes l ↦ t.fit y l | no l ↦ run_fits y (omega arith) b ];
        tallied = tallied-run map named n x h vacant t.tallied;
      }

  pub entries-run : (scratch : List ℕ) → all_from (λ y. not (eqb (get_or scratch y 0) 0) || place_fits img map y) n x ≡ true
  entries-run scratch = all_intro (λ y. not (eqb (get_or scratch y 0) 0) || place_fits img map y) n x (λ y a b. either (not (eqb (get_or scratch y 0) 0)) (run_fits y a b))
    where
      either : (s : Bool) {t : Bool} → t ≡ true → s || t ≡ true
      either true e = refl
      either false e = e

-- ---- a test of all, run by run
module _ (p : ℕ → Bool) (n x k : ℕ) (h : x + k ≤ n) where
  pub all_run_passes : all_from p k x ≡ true → all_from p (n - x) x ≡ all_from p (n - (x + k)) (x + k)
  all_run_passes r =
      both_ways _ _ (λ e. all_intro p (n - (x + k)) (x + k) (λ y a b. all_holds p (n - x) x y e (omega arith) (omega arith)))
      (λ e. all_intro p (n - x) x (λ y a b. elim (dec_lt y (x + k)) [
        | yes l ↦ all_holds p k x y r a l
        | no l ↦ all_holds p (n - (x + k)) (x + k) y e (omega arith) (omega arith)
      ]))

  pub all_run_fails : all_from p k x ≡ false → all_from p (n - x) x ≡ false
  all_run_fails r = go (all_from p (n - x) x) refl
    where
      go : (t : Bool) → all_from p (n - x) x ≡ t → t ≡ false
      go true e = absurd (true-false (all_intro p k x (λ y a b. all_holds p (n - x) x y e a (omega arith))) r)
      go false e = refl

-- ---- after the last place
module _ (img map named : List ℕ) (tested : Tested img map named places) where
  pub tested_all : places_fit img map ≡ true
  tested_all =
      and_intro _ _ (all_intro (place_fits img map) places 0 (λ y a b. tested.fit y (omega arith))) (tallied-apart map named places (omega arith) tested.tallied)

  pub tested_times : (p : ℕ) → p < positions → named_times map p ≡ get_or named p 0
  tested_times = tallied_all map named places (omega arith) tested.tallied
