-- One pass over the blocks, block by block: the first state, each step, and what it found at the end.
use Prim.Native.Nat.{ℕ, suc, ◌+◌, ◌*◌, max}
use native.Mathlib.Omega.{arith}
use native.Mathlib.Nat.{zero-add}
use native.Mathlib.Numerals.{add-one}
use mathlib.Core.Path.{◌≡◌, refl, sym, ap, ◌∙◌}
use mathlib.Core.Bool.{false, cond}
use mathlib.Core.List.{List}
use lib.ListN.{get_or}
use lib.Dec.{ltb}
use borrow.Author.Tests.{le-ltb, ne_eqb}
use Rattle.base.specs.Search.{highest_from}
use Rattle.base.proofs.Choice.{cond-ap}
use Rattle.base.proofs.Searches.{highest_join}
use Rattle.page.specs.Frame.{page_size}
use Rattle.image.specs.Size.{block_size, pages_in_block}
use Rattle.store.specs.Kind.{is_block_letter, kind_of, keys_epoch, commit_epoch, covered_by}
use Rattle.store.specs.Mount.{rank_of, foremost, covered_in, epoch_of}
use Rattle.store.specs.Survey.{best_of, covered_at, survey_of, no_best, better_by, no_survey, survey_next, is_lettered}
use Rattle.std.specs.Prelude.{Option, Some, None}
use Rattle.store.specs.declared.Kind.TheVariants.{Keys, Commit, Other}
use Rattle.store.specs.declared.survey.Best.{Best}
use Rattle.store.specs.declared.survey.Survey.{Survey}
use Rattle.store.proofs.BlockKinds.{kind_unlettered}
use Rattle.store.proofs.Choices.{foremost-none, foremost_next}

-- ---- the highest value, with one number more after the others
highest_next : (f : ℕ → ℕ) (n : ℕ) → highest_from f (suc n) 0 ≡ max (highest_from f n 0) (f n)
unfolding highest_from
highest_next f n = ap (λ (m : ℕ). highest_from f m 0) (sym (add-one n)) ∙ highest_join f n 1 0 ∙ rw zero-add (omega arith)

-- ---- the foremost
best_none : (rank : ℕ → ℕ) → best_of rank 0 ≡ no_best
best_none rank = rw (foremost-none rank)

best_next : (rank : ℕ → ℕ) (n : ℕ) → better_by (best_of rank n) n (rank n) ≡ best_of rank (suc n)
best_next rank n =
    sym (ap best (foremost_next rank n) ∙ cond-ap best (ltb (rank_of rank (foremost rank n)) (rank n)) (Some n) (foremost rank n))
  where
    best : Option ℕ → Best
    best x = record { at = x; epoch = rank_of rank x }

covered_next : (img : List ℕ) (b : ℕ) → let f = foremost (λ a. commit_epoch (kind_of img a)) b in
    cond (ltb (rank_of (λ a. commit_epoch (kind_of img a)) f) (commit_epoch (kind_of img b))) (covered_by (kind_of img b)) (covered_at img f) ≡ covered_at img (foremost (λ a. commit_epoch (kind_of img a)) (suc b))
unfolding covered_in
covered_next img b =
    let f = foremost (λ a. commit_epoch (kind_of img a)) b in
    sym (ap (covered_at img) (foremost_next (λ a. commit_epoch (kind_of img a)) b) ∙ cond-ap (covered_at img) (ltb (rank_of (λ a. commit_epoch (kind_of img a)) f) (commit_epoch (kind_of img b))) (Some b) f)

same_best : {b c : Best} → b.at ≡ c.at → b.epoch ≡ c.epoch → b ≡ c
same_best p q = (λ i. record { at = p i; epoch = q i })

survey_none : (img : List ℕ) → no_survey ≡ survey_of img 0
unfolding survey_of highest_from
survey_none img = rw (foremost-none (λ b. commit_epoch (kind_of img b)), foremost-none (λ b. keys_epoch 0 (kind_of img b)), foremost-none (λ b. keys_epoch 1 (kind_of img b)))

-- equal part by part
abbrev parts : Best → ℕ → Best → Best → ℕ → Survey
parts commit covered keys0 keys1 highest = record { commit = commit; covered = covered; keys0 = keys0; keys1 = keys1; highest = highest }

same_parts : {c c' k k' l l' : Best} {s s' h h' : ℕ} → c ≡ c' → s ≡ s' → k ≡ k' → l ≡ l' → h ≡ h' → parts c s k l h ≡ parts c' s' k' l' h'
same_parts p q r u v = rw (p, q, r, u, v)

-- before the first block all is none or 0
pub survey_first : (img : List ℕ) (s : Survey)
    → ((s.commit.at ≡ None) × (s.commit.epoch ≡ 0)) × ((s.covered ≡ 0) × (((s.keys0.at ≡ None) × (s.keys0.epoch ≡ 0)) × (((s.keys1.at ≡ None) × (s.keys1.epoch ≡ 0)) × (s.highest ≡ 0))))
    → s ≡ survey_of img 0
survey_first img s d =
    same_parts (same_best d.0.0 d.0.1) d.1.0 (same_best d.1.1.0.0 d.1.1.0.1) (same_best d.1.1.1.0.0 d.1.1.1.0.1) d.1.1.1.1 ∙ survey_none img

pub survey_next_lem : (img : List ℕ) (b : ℕ) → survey_next (survey_of img b) b (kind_of img b) ≡ survey_of img (b + 1)
unfolding survey_of survey_next
survey_next_lem img b =
    rw add-one
    (same_parts (best_next (λ a. commit_epoch (kind_of img a)) b) (covered_next img b) (best_next (λ a. keys_epoch 0 (kind_of img a)) b) (best_next (λ a. keys_epoch 1 (kind_of img a)) b)
    (sym (highest_next (epoch_of img) b)))

-- ---- one more block, by its kind
module _ (s : Survey) (b : ℕ) where
  pub next_keys0 : (q e : ℕ) → q ≡ 0 → parts s.commit s.covered (better_by s.keys0 b e) s.keys1 (max s.highest e) ≡ survey_next s b (Keys q e)
  unfolding survey_next
  next_keys0 q e z =
      rw (z, le-ltb s.commit.epoch 0 (omega arith), le-ltb s.keys1.epoch 0 (omega arith)) (same_parts refl refl refl refl (omega arith))

  pub next_keys1 : (q e : ℕ) → q ≡ 1 → parts s.commit s.covered s.keys0 (better_by s.keys1 b e) (max s.highest e) ≡ survey_next s b (Keys q e)
  unfolding survey_next
  next_keys1 q e z =
      rw (z, le-ltb s.commit.epoch 0 (omega arith), le-ltb s.keys0.epoch 0 (omega arith)) (same_parts refl refl refl refl (omega arith))

  pub next_commit : (e c : ℕ) → parts (better_by s.commit b e) (cond (ltb s.commit.epoch e) c s.covered) s.keys0 s.keys1 (max s.highest e) ≡ survey_next s b (Commit e c)
  unfolding survey_next
  next_commit e c =
      rw (le-ltb s.keys0.epoch 0 (omega arith), le-ltb s.keys1.epoch 0 (omega arith)) (same_parts refl refl refl refl (omega arith))

  pub next_other_keys : (q e : ℕ) → (q ≡ 0 → ⊥) → (q ≡ 1 → ⊥) → s ≡ survey_next s b (Keys q e)
  unfolding survey_next
  next_other_keys q e h k =
      rw (ne_eqb q 0 h, ne_eqb q 1 k, le-ltb s.commit.epoch 0 (omega arith), le-ltb s.keys0.epoch 0 (omega arith), le-ltb s.keys1.epoch 0 (omega arith))
      (same_parts refl refl refl refl (omega arith))

-- ---- a block that begins with another byte than K and C leaves the survey as it is
unlettered_other : (img : List ℕ) (b : ℕ) → is_lettered img b ≡ false → kind_of img b ≡ Other
unlettered_other img b e =
    let at : b * pages_in_block * page_size ≡ b * block_size = omega arith in
    kind_unlettered img b (ap (λ (i : ℕ). is_block_letter (get_or img i 0)) (sym at) ∙ e)

pub other_stays : (s : Survey) (b : ℕ) → survey_next s b Other ≡ s
unfolding survey_next
other_stays s b =
    rw (le-ltb s.commit.epoch 0 (omega arith), le-ltb s.keys0.epoch 0 (omega arith), le-ltb s.keys1.epoch 0 (omega arith))
    (same_parts refl refl refl refl (omega arith))

pub survey_idle : (img : List ℕ) (b : ℕ) → is_lettered img b ≡ false → survey_of img (b + 1) ≡ survey_of img b
survey_idle img b e =
    sym (survey_next_lem img b) ∙ ap (survey_next (survey_of img b) b) (unlettered_other img b e) ∙ other_stays (survey_of img b) b
