-- The blocks that a record has chosen, the spare blocks of a call at work, and what each of its stages needs and leaves.
use Prim.Native.Nat.{ℕ, ◌+◌, ◌-◌, ◌*◌, ◌<◌, ◌≤◌}
use native.Mathlib.Omega.{arith}
use native.Mathlib.Decide.{ℕ_discrete}
use mathlib.Core.Path.{◌≡◌, refl, sym, ap, ◌∙◌}
use mathlib.Core.Bool.{Bool, true, false, cond, not, ◌&&◌, ◌||◌}
use mathlib.Core.List.{List, [], ◌∷◌, ◌++◌}
use lib.Dec.{eqb}
use lib.ListN.{length}
use borrow.Author.Tests.{eq-eqb, ne_eqb, eqb-false, not-true}
use Rattle.base.specs.Search.{first_from}
use Rattle.base.proofs.Choice.{and-true, true-false, or_left}
use Rattle.base.proofs.Searches.{first_holds, first_least, first_bounds, first_agree}
use Rattle.image.specs.Size.{block_size, blocks, size_right}
use Rattle.image.specs.Look.{block_at, block_empty}
use Rattle.image.specs.Step.{erase}
use Rattle.image.specs.Power.{device, act, run}
use Rattle.image.specs.Block.{renewed_key, key_block_steps, commit_block_steps}
use Rattle.image.specs.declared.Power.{Power}
use Rattle.image.proofs.Empties.{block_empty-same}
use Rattle.image.proofs.Looks.{sized, size_same, block_inside, blocks-same}
use Rattle.image.proofs.Runs.{run-append, run_one}
use Rattle.store.specs.Kind.{is_chosen}
use Rattle.store.specs.Write.{keys_block}
use Rattle.store.specs.Commit.{with_keys, with_commit, next_epoch}
use Rattle.store.specs.Stages.{is_spare, lowest_spare, Work, keys_into, keys_moved, commit_into, commit_moved, unused_erases, renewed, Able}
use Rattle.store.specs.declared.Numbers.{Numbers}

-- ---- chosen blocks
or-none : (a b : Bool) → a || b ≡ false → (a ≡ false) × (b ≡ false)
or-none true b e = absurd (true-false refl e)
or-none false b e = (refl, e)

or_right : (a b : Bool) → b ≡ true → a || b ≡ true
or_right true b e = refl
or_right false b e = e

pub record Unchosen (r : Numbers) (b : ℕ) : Type 0 where
  pub not_keys0 : b ≡ r.keys0 → ⊥
  pub not_keys1 : b ≡ r.keys1 → ⊥
  pub not_commit : b ≡ r.commit → ⊥

module _ (r : Numbers) (b : ℕ) where
  pub chosen_none : is_chosen r b ≡ false → Unchosen r b
  chosen_none e =
      let c = or-none (eqb b r.keys0 || eqb b r.keys1) (eqb b r.commit) e in
      let k = or-none (eqb b r.keys0) (eqb b r.keys1) c.0 in
      record { not_keys0 = eqb-false _ _ k.0; not_keys1 = eqb-false _ _ k.1; not_commit = eqb-false _ _ c.1 }

  pub none_chosen : Unchosen r b → is_chosen r b ≡ false
  none_chosen u = rw (ne_eqb b r.keys0 u.not_keys0, ne_eqb b r.keys1 u.not_keys1, ne_eqb b r.commit u.not_commit)

-- the blocks that it names are chosen
module _ (r : Numbers) where
  pub keys0_chosen : is_chosen r r.keys0 ≡ true
  keys0_chosen = rw (eq-eqb r.keys0 r.keys0 refl)

  pub keys1_chosen : is_chosen r r.keys1 ≡ true
  keys1_chosen = or_left _ (eqb r.keys1 r.commit) (or_right (eqb r.keys1 r.keys0) _ (eq-eqb r.keys1 r.keys1 refl))

  pub commit_chosen : is_chosen r r.commit ≡ true
  commit_chosen = or_right (eqb r.commit r.keys0 || eqb r.commit r.keys1) _ (eq-eqb r.commit r.commit refl)

  -- key block 0 and 1 by number
  pub keys_chosen : (q : ℕ) → is_chosen r (keys_block r q) ≡ true
  keys_chosen q = go (eqb q 0)
    where
      go : (t : Bool) → is_chosen r (cond t r.keys0 r.keys1) ≡ true
      go true = keys0_chosen
      go false = keys1_chosen

-- ---- the lowest spare block
module _ (img : List ℕ) (first now : Numbers) where
  pub spare_unchosen : lowest_spare img first now < blocks img → Unchosen now (lowest_spare img first now)
  unfolding lowest_spare is_spare
  spare_unchosen h =
      let b = lowest_spare img first now in
      let s = first_holds (is_spare img first now) (blocks img) 0 (omega arith) in
      chosen_none now b (not-true (is_chosen now b) (and-true (not (is_chosen now b)) (is_chosen first b || block_empty img b) s).0)

  -- a block of the image that the record had chosen and chooses no more is spare
  pub spare_below : (b : ℕ) → b < blocks img → is_chosen first b ≡ true → is_chosen now b ≡ false → lowest_spare img first now < blocks img
  unfolding lowest_spare is_spare
  spare_below b h f n =
      elim (ℕ_discrete (first_from (is_spare img first now) (blocks img) 0) (blocks img)) [
        | yes e ↦
            let t : is_spare img first now b ≡ true = rw (n, f) in
            absurd (true-false t (first_least (is_spare img first now) (blocks img) 0 b (omega arith) (omega arith)))
        | no e ↦ omega (arith, first_bounds (is_spare img first now) (blocks img) 0)
      ]

-- it goes by the bytes of the blocks that are chosen neither now nor when the call began
pub spare_agree : (img img' : List ℕ) (first now : Numbers) → length img' ≡ length img
    → ((b : ℕ) → is_chosen first b ≡ false → is_chosen now b ≡ false → block_at img' b ≡ block_at img b) → lowest_spare img' first now ≡ lowest_spare img first now
unfolding lowest_spare is_spare
spare_agree img img' first now l same =
    rw l (first_agree (is_spare img' first now) (is_spare img first now) (blocks img) 0 (λ b h k. go b (is_chosen first b) refl (is_chosen now b) refl))
  where
    go : (b : ℕ) (f : Bool) → is_chosen first b ≡ f → (n : Bool) → is_chosen now b ≡ n
        → not n && (f || block_empty img' b) ≡ not n && (f || block_empty img b)
    go b f e true g = refl
    go b true e false g = refl
    go b false e false g = block_empty-same img img' b (same b e g)

-- ---- what a stage needs
module _ (img : List ℕ) (first now : Numbers) (able : Able img first now) where
  abbrev nb : ℕ
  nb = lowest_spare img first now

  -- the block that it takes and the block that it replaces stand in the image, and are two
  pub spare_inside : nb * block_size + block_size ≤ length img
  spare_inside = block_inside img nb able.spare

  pub spare_number : nb < 256
  spare_number = omega (arith, able.spare, (sized img able.size).most)

  keys_below : (q : ℕ) → keys_block now q < blocks img
  keys_below q = go (eqb q 0)
    where
      go : (t : Bool) → cond t now.keys0 now.keys1 < blocks img
      go true = able.keys0
      go false = able.keys1

  pub old_keys_inside : (q : ℕ) → keys_block now q * block_size + block_size ≤ length img
  old_keys_inside q = block_inside img (keys_block now q) (keys_below q)

  pub old_commit_inside : now.commit * block_size + block_size ≤ length img
  old_commit_inside = block_inside img now.commit able.commit

  pub keys_apart-spare : (q : ℕ) → nb ≡ keys_block now q → ⊥
  keys_apart-spare q e = true-false (ap (is_chosen now) e ∙ keys_chosen now q) (none_chosen now nb (spare_unchosen img first now able.spare))

  -- after a stage the next one is able, whatever the power left of the image
  module _ (img' : List ℕ) (same : length img' ≡ length img) where
    right : size_right img' ≡ true
    right = size_same img' (length img) same ∙ sym (size_same img (length img) refl) ∙ able.size

    count : blocks img' ≡ blocks img
    count = blocks-same img img' same

    pub able_keys0 : is_chosen first now.keys0 ≡ true → Able img' first (with_keys now 0 nb)
    able_keys0 f =
        let u = spare_unchosen img first now able.spare in
        record {
          size = right;
          keys0 = omega (arith, able.spare, count);
          keys1 = omega (arith, able.keys1, count);
          commit = omega (arith, able.commit, count);
          keys_apart = u.not_keys1;
          keys0_apart = u.not_commit;
          keys1_apart = able.keys1_apart;
          spare = spare_below img' first (with_keys now 0 nb) now.keys0 (omega (arith, able.keys0, count)) f
              (none_chosen (with_keys now 0 nb) now.keys0 (record { not_keys0 = λ e. u.not_keys0 (sym e); not_keys1 = able.keys_apart; not_commit = able.keys0_apart }));
        }

    pub able_keys1 : is_chosen first now.keys1 ≡ true → Able img' first (with_keys now 1 nb)
    able_keys1 f =
        let u = spare_unchosen img first now able.spare in
        record {
          size = right;
          keys0 = omega (arith, able.keys0, count);
          keys1 = omega (arith, able.spare, count);
          commit = omega (arith, able.commit, count);
          keys_apart = λ e. u.not_keys0 (sym e);
          keys0_apart = able.keys0_apart;
          keys1_apart = u.not_commit;
          spare = spare_below img' first (with_keys now 1 nb) now.keys1 (omega (arith, able.keys1, count)) f
              (none_chosen (with_keys now 1 nb) now.keys1 (record { not_keys0 = λ e. able.keys_apart (sym e); not_keys1 = λ e. u.not_keys1 (sym e); not_commit = able.keys1_apart }));
        }

    pub able_commit : is_chosen first now.commit ≡ true → Able img' first (with_commit now nb)
    able_commit f =
        let u = spare_unchosen img first now able.spare in
        record {
          size = right;
          keys0 = omega (arith, able.keys0, count);
          keys1 = omega (arith, able.keys1, count);
          commit = omega (arith, able.spare, count);
          keys_apart = able.keys_apart;
          keys0_apart = λ e. u.not_keys0 (sym e);
          keys1_apart = λ e. u.not_keys1 (sym e);
          spare = spare_below img' first (with_commit now nb) now.commit (omega (arith, able.commit, count)) f
              (none_chosen (with_commit now nb) now.commit (record { not_keys0 = λ e. able.keys0_apart (sym e); not_keys1 = λ e. able.keys1_apart (sym e); not_commit = λ e. u.not_commit (sym e) }));
        }

-- ---- what the code of a stage leaves: its copy, then the erase
module _ (img img₁ img₂ : List ℕ) (p q₁ q₂ : Power) (first now next : Numbers) (b : ℕ) (at : b ≡ lowest_spare img first now) where
  pub keys_moved_lem : (letters noise : List ℕ) (q old : ℕ) → old ≡ keys_block now q
      → device q₁ img₁ ≡ run (key_block_steps now.epoch q b (renewed_key (block_at img old) letters noise)) (device p img)
      → device q₂ img₂ ≡ act (erase old) (device q₁ img₁) → next ≡ with_keys now q b
      → record { flash = device q₂ img₂; numbers = next } ≡ keys_moved letters noise first q (record { flash = device p img; numbers = now })
  unfolding keys_moved keys_into
  keys_moved_lem letters noise q old o c e n =
      let steps = key_block_steps now.epoch q b (renewed_key (block_at img (keys_block now q)) letters noise) in
      let d : device q₂ img₂ ≡ run (steps ++ (erase (keys_block now q) ∷ [])) (device p img)
      = e ∙ ap (act (erase old)) c ∙ rw o (sym (run-append steps (erase (keys_block now q) ∷ []) (device p img) ∙ run_one (erase (keys_block now q)) (run steps (device p img)))) in
      rw (← at, d, n)

  pub commit_moved_lem : (map letters : List ℕ) → device q₁ img₁ ≡ run (commit_block_steps now.epoch (now.sequence - 1) b map letters) (device p img)
      → device q₂ img₂ ≡ act (erase now.commit) (device q₁ img₁) → next ≡ with_commit now b
      → record { flash = device q₂ img₂; numbers = next } ≡ commit_moved map letters first (record { flash = device p img; numbers = now })
  unfolding commit_moved commit_into
  commit_moved_lem map letters c e n =
      let steps = commit_block_steps now.epoch (now.sequence - 1) b map letters in
      let d : device q₂ img₂ ≡ run (steps ++ (erase now.commit ∷ [])) (device p img)
      = e ∙ ap (act (erase now.commit)) c ∙ sym (run-append steps (erase now.commit ∷ []) (device p img) ∙ run_one (erase now.commit) (run steps (device p img))) in
      rw (← at, d, n)

-- ---- from stage to stage
-- what the next stage needs, and the next numbers as they were
pub record Onward (img : List ℕ) (first now next : Numbers) : Type 0 where
  pub able : Able img first next
  pub sequence : next.sequence ≡ now.sequence
  pub epoch : next.epoch ≡ now.epoch

abbrev pub working : Power → List ℕ → Numbers → Work
working p img r = record { flash = device p img; numbers = r }

module _ (letters noise : List ℕ) (img img' : List ℕ) (p p' : Power) (first now next : Numbers) (able : Able img first now) (same : length img' ≡ length img) where
  keys_next : (q : ℕ) → working p' img' next ≡ keys_moved letters noise first q (working p img now) → next ≡ with_keys now q (lowest_spare img first now)
  unfolding keys_moved
  keys_next q e = ap (λ (w : Work). w.numbers) e

  pub keys0-onward : is_chosen first now.keys0 ≡ true → working p' img' next ≡ keys_moved letters noise first 0 (working p img now)
      → Onward img' first now next × (next.keys1 ≡ now.keys1)
  keys0-onward f e = rw (keys_next 0 e) (record { able = able_keys0 img first now able img' same f; sequence = refl; epoch = refl }, refl)

  pub keys1-onward : is_chosen first now.keys1 ≡ true → working p' img' next ≡ keys_moved letters noise first 1 (working p img now) → Onward img' first now next
  keys1-onward f e = rw (keys_next 1 e) (record { able = able_keys1 img first now able img' same f; sequence = refl; epoch = refl })

module _ (map letters : List ℕ) (img img' : List ℕ) (p p' : Power) (first now next : Numbers) where
  pub commit_next : working p' img' next ≡ commit_moved map letters first (working p img now) → next ≡ with_commit now (lowest_spare img first now)
  unfolding commit_moved
  commit_next e = ap (λ (w : Work). w.numbers) e

  pub commit-onward : Able img first now → length img' ≡ length img → is_chosen first now.commit ≡ true
      → working p' img' next ≡ commit_moved map letters first (working p img now) → Onward img' first now next
  commit-onward able same f e = rw (commit_next e) (record { able = able_commit img first now able img' same f; sequence = refl; epoch = refl })

-- the stages in a row
pub all_renewed : (map letters noise : List ℕ) (first : Numbers) (w w₁ w₂ : Work) (img₃ img₄ : List ℕ) (p₃ p₄ : Power) (n₃ n₄ : Numbers)
    → w₁ ≡ keys_moved letters noise first 0 w → w₂ ≡ keys_moved letters noise first 1 w₁ → working p₃ img₃ n₃ ≡ commit_moved map letters first w₂
    → device p₄ img₄ ≡ run (unused_erases map n₃ img₃) (device p₃ img₃) → n₄ ≡ next_epoch n₃ → working p₄ img₄ n₄ ≡ renewed map letters noise first w
unfolding renewed
all_renewed map letters noise first w w₁ w₂ img₃ img₄ p₃ p₄ n₃ n₄ e₁ e₂ e₃ e₄ e = rw (← e₁, ← e₂, ← e₃, e₄, e)
