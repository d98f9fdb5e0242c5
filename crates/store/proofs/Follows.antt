-- The stages of commit and wipe at work follow the plan: at every power they run the steps of specs/Commit's stages and take the same blocks.
use Prim.Native.Nat.{ℕ, ◌+◌, ◌-◌, ◌*◌, ◌/◌, ◌<◌, ◌≤◌}
use native.Mathlib.Omega.{arith}
use native.Mathlib.Decide.{ℕ_discrete}
use mathlib.Core.Path.{◌≡◌, refl, sym, ap, ◌∙◌}
use mathlib.Core.Bool.{true, false}
use mathlib.Core.List.{List, [], ◌∷◌, ◌++◌}
use lib.ListN.{length}
use borrow.Author.Tests.{ne_eqb}
use Rattle.base.specs.Each.{Each, all_are}
use Rattle.base.proofs.Choice.{true-false}
use Rattle.base.proofs.Searches.{first_agree}
use Rattle.base.proofs.Eachs.{each_append}
use Rattle.page.specs.Frame.{page_size}
use Rattle.page.specs.Key.{key_size, positions}
use Rattle.page.specs.Entry.{parts}
use Rattle.page.specs.Form.{is_empty}
use Rattle.page.specs.Header.{header_bytes}
use Rattle.page.specs.Page.{page_bytes, keys_page, commit_page}
use Rattle.image.specs.Size.{pages_in_block, blocks}
use Rattle.image.specs.Look.{block_at, page_at, page_empty, block_empty, lowest_empty}
use Rattle.image.specs.Step.{Step, erase, Inside, whole, play_all}
use Rattle.image.specs.Power.{Device, device, run}
use Rattle.image.specs.Block.{renewed_key, key_block_steps, commit_block_steps, key_block_page, commit_block_page}
use Rattle.image.specs.declared.Power.{Power}
use Rattle.image.proofs.Step.{block_of, block_whole_other}
use Rattle.image.proofs.Empties.{block_empty-same, full_page_block, erase_empties}
use Rattle.image.proofs.Looks.{block_inside, blocks-same}
use Rattle.image.proofs.Plays.{play_all_nil, play_all_cons, play_all-append, play_all-length, block_play_all_other}
use Rattle.image.proofs.Runs.{run-append, run_bind, run_length, block_run_other}
use Rattle.image.proofs.Rows.{row_steps, row_in_no_other, row-page-done}
use Rattle.image.proofs.KeyBlock.{key_block_steps_lem, key_block_inside, key_page-size, renewed_at_length}
use Rattle.image.proofs.CommitBlock.{commit_block_steps_lem, commit_block_inside, commit_page-size}
use Rattle.store.specs.Kind.{is_chosen}
use Rattle.store.specs.Record.{with_numbers, is_dead}
use Rattle.store.specs.Format.{noise_size}
use Rattle.store.specs.Write.{keys_block}
use Rattle.store.specs.Commit.{Stage, onward, replace_keys, replace_commit, with_keys, with_commit, next_epoch, keys_replaced, commit_replaced, dead_erased, commit_stages}
use Rattle.store.specs.Stages.{is_spare, lowest_spare, Work, after, keys_into, keys_moved, commit_into, commit_moved, has_live, unused_erases, renewed, Able}
use Rattle.store.specs.declared.Numbers.{Numbers}
use Rattle.store.proofs.Counts.{replaced}
use Rattle.store.proofs.Spares.{Unchosen, none_chosen, keys0_chosen, keys1_chosen, commit_chosen, spare_unchosen, spare_agree, able_keys0, able_keys1, able_commit}

-- ---- a row of pages into block b, the first of them not empty, fills it
row-fills : (b : ℕ) (page : ℕ → List ℕ) → ((i : ℕ) → i < pages_in_block → length (page i) ≡ page_size) → (n : ℕ) (img : List ℕ) → 1 ≤ n → n ≤ pages_in_block
    → b < blocks img → is_empty (page 0) ≡ false → block_empty (play_all (row_steps b page n 0) img) b ≡ false
unfolding page_empty
row-fills b page sizes n img some few there full =
    let img' = play_all (row_steps b page n 0) img in
    let e : page_at img' (b * pages_in_block + 0) ≡ page 0 = row-page-done b page sizes n img few (block_inside img b there) 0 (omega arith) in
    let z : (b * pages_in_block + 0) / pages_in_block ≡ b = omega arith in
    rw z at (full_page_block img' (b * pages_in_block + 0) (ap is_empty e ∙ full))

-- ---- a stage of the plan that a call has reached from image img and numbers first
module _ (img : List ℕ) (first : Numbers) where
  pub record Reached (s : Stage) : Type 0 where
    pub image : s.image ≡ play_all s.steps img
    pub inside : Each (Inside (length img)) s.steps
    -- its steps work in chosen blocks alone
    pub apart : (b : ℕ) → is_chosen first b ≡ false → is_chosen s.after.numbers b ≡ false → Each (λ (t : Step). block_of t ≡ b → ⊥) s.steps
    -- its empty blocks are the spare ones
    pub empties : (b : ℕ) → b < blocks img → block_empty s.image b ≡ is_spare img first s.after.numbers b
    pub able : Able img first s.after.numbers

  module _ (s : Stage) (g : Reached s) where
    pub reached_length : length s.image ≡ length img
    reached_length = ap length g.image ∙ play_all-length s.steps img g.inside

    -- the lowest empty block is the lowest spare one, also of an image that a cut left
    pub lowest_spare_lem : lowest_empty s.image ≡ lowest_spare img first s.after.numbers
    unfolding lowest_empty lowest_spare
    lowest_spare_lem =
        rw (blocks-same img s.image reached_length)
        (first_agree (block_empty s.image) (is_spare img first s.after.numbers) (blocks img) 0 (λ b h k. g.empties b (omega arith)))

    pub lowest_at_work : (p : Power) → lowest_spare (run s.steps (device p img)).image first s.after.numbers ≡ lowest_empty s.image
    lowest_at_work p =
        spare_agree img (run s.steps (device p img)).image first s.after.numbers (run_length s.steps (device p img) g.inside)
        (λ b f n. block_run_other s.steps (device p img) b g.inside (g.apart b f n))
        ∙ sym lowest_spare_lem

    abbrev new : ℕ
    new = lowest_empty s.image

    pub new_below : new < blocks img
    new_below = rw lowest_spare_lem g.able.spare

    -- ---- a block is filled and then an old one erased: what is reached then
    module _ (made : List Step) (old : ℕ) (next : Numbers) (made_inside : Each (Inside (length img)) made)
        (made_in : (b : ℕ) → (b ≡ new → ⊥) → Each (λ (t : Step). block_of t ≡ b → ⊥) made) (fills : block_empty (play_all made s.image) new ≡ false)
        (there : old < blocks img) (other : new ≡ old → ⊥) (begun : is_chosen first old ≡ true) (chosen : is_chosen next new ≡ true) (gone : is_chosen next old ≡ false)
        (alike : (b : ℕ) → (b ≡ new → ⊥) → (b ≡ old → ⊥) → is_chosen next b ≡ is_chosen s.after.numbers b) (able : Able img first next) where
      abbrev more : List Step
      more = made ++ (erase old ∷ [])

      abbrev last : List ℕ
      last = play_all more s.image

      more_inside : Each (Inside (length img)) more
      more_inside = each_append (Inside (length img)) made (erase old ∷ []) made_inside (block_inside img old there, tt)

      inside_then : Each (Inside (length s.image)) more
      inside_then = rw reached_length more_inside

      last_is : last ≡ whole (erase old) (play_all made s.image)
      last_is =
          play_all-append made (erase old ∷ []) s.image ∙ play_all_cons (erase old) [] (play_all made s.image) ∙ play_all_nil (whole (erase old) (play_all made s.image))

      erase_inside : Inside (length (play_all made s.image)) (erase old)
      erase_inside =
          let l = play_all-length made s.image (rw reached_length made_inside) ∙ reached_length in
          rw l (block_inside img old there)

      apart_then : (b : ℕ) → (b ≡ new → ⊥) → (b ≡ old → ⊥) → Each (λ (t : Step). block_of t ≡ b → ⊥) more
      apart_then b n o = each_append (λ (t : Step). block_of t ≡ b → ⊥) made (erase old ∷ []) (made_in b n) (λ e. o (sym e), tt)

      -- which blocks are empty then
      empty_then : (b : ℕ) → b < blocks img → Dec (b ≡ new) → Dec (b ≡ old) → block_empty last b ≡ is_spare img first next b
      unfolding is_spare
      empty_then b h (yes n) o =
          rw (n, chosen)
          (rw last_is (block_empty-same (play_all made s.image) (whole (erase old) (play_all made s.image)) new (block_whole_other (erase old) (play_all made s.image) erase_inside new (λ e. other (sym e))) ∙ fills))
      empty_then b h (no n) (yes o) = rw (o, gone, begun) (rw last_is (erase_empties old (play_all made s.image) erase_inside))
      empty_then b h (no n) (no o) =
          block_empty-same s.image last b (block_play_all_other more s.image b inside_then (apart_then b n o)) ∙ g.empties b h ∙ rw (alike b n o)

      pub reached_moved : Reached (onward s more (with_numbers s.after next))
      reached_moved =
          record {
            image = ap (play_all more) g.image ∙ sym (play_all-append s.steps more img);
            inside = each_append (Inside (length img)) s.steps more g.inside more_inside;
            apart = λ b f n.
                let a : b ≡ new → ⊥ = λ e. true-false (rw e chosen) n in
                let o : b ≡ old → ⊥ = λ e. true-false (rw e begun) f in
                each_append (λ (t : Step). block_of t ≡ b → ⊥) s.steps more (g.apart b f (sym (alike b a o) ∙ n)) (apart_then b a o);
            empties = λ b h. empty_then b h (ℕ_discrete b new) (ℕ_discrete b old);
            able = able;
          }

-- ---- the stages of the plan, one by one
-- pages of key blocks and commits are not empty
keys_page-full : (epoch q i : ℕ) (keys : List ℕ) → is_empty (keys_page epoch q i keys) ≡ false
unfolding keys_page page_bytes header_bytes is_empty all_are
keys_page-full epoch q i keys = refl

commit_page-full : (epoch i covered : ℕ) (payload : List ℕ) → is_empty (commit_page epoch i covered payload) ≡ false
unfolding commit_page page_bytes header_bytes is_empty all_are
commit_page-full epoch i covered payload = refl

module _ (img : List ℕ) (first : Numbers) (s : Stage) (g : Reached img first s) where
  abbrev now : Numbers
  now = s.after.numbers

  abbrev copy : ℕ
  copy = lowest_empty s.image

  copy_there : copy < blocks s.image
  copy_there = rw (blocks-same img s.image (reached_length img first s g)) (new_below img first s g)

  free : Unchosen now copy
  free = rw (lowest_spare_lem img first s g) (spare_unchosen img first now g.able.spare)

  -- ---- key block 0 or 1
  module _ (noise : List ℕ) (full : length noise ≡ noise_size) where
    module _ (q : ℕ) (small : q < 2) (there : keys_block now q < blocks img) where
      abbrev key : ℕ → List ℕ
      key = renewed_key (block_at s.image (keys_block now q)) s.after.letters noise

      abbrev keys_made : List Step
      keys_made = key_block_steps now.epoch q copy key

      key_sizes : (p : ℕ) → p < positions → length (key p) ≡ key_size
      key_sizes =
          renewed_at_length s.image s.after.letters noise (keys_block now q)
          (rw (reached_length img first s g) (block_inside img (keys_block now q) there)) full

      keys_inside : Each (Inside (length img)) keys_made
      keys_inside = key_block_inside now.epoch q key key_sizes small (length img) copy (block_inside img copy (new_below img first s g))

      keys_in : (b : ℕ) → (b ≡ copy → ⊥) → Each (λ (t : Step). block_of t ≡ b → ⊥) keys_made
      keys_in b o = rw (key_block_steps_lem now.epoch q copy key) (row_in_no_other copy (key_block_page now.epoch q key) pages_in_block 0 b (omega arith) o)

      keys_fill : block_empty (play_all keys_made s.image) copy ≡ false
      keys_fill =
          rw (key_block_steps_lem now.epoch q copy key)
          (row-fills copy (key_block_page now.epoch q key) (key_page-size now.epoch q key key_sizes small) pages_in_block s.image (omega arith) (omega arith) copy_there (keys_page-full now.epoch q 0 _))

    pub reached_keys0 : is_chosen first now.keys0 ≡ true → Reached img first (keys_replaced noise 0 s)
    unfolding keys_replaced replace_keys
    reached_keys0 f =
        let k = g.able.keys0 in
        let next = with_keys now 0 copy in
        reached_moved img first s g (keys_made 0 (omega arith) k) now.keys0 next (keys_inside 0 (omega arith) k) (keys_in 0 (omega arith) k) (keys_fill 0 (omega arith) k) k
        free.not_keys0 f (keys0_chosen next)
        (none_chosen next now.keys0 (record { not_keys0 = λ e. free.not_keys0 (sym e); not_keys1 = g.able.keys_apart; not_commit = g.able.keys0_apart }))
        (λ b n o. rw (ne_eqb b copy n, ne_eqb b now.keys0 o))
        (rw (lowest_spare_lem img first s g) (able_keys0 img first now g.able img refl f))

    pub reached_keys1 : is_chosen first now.keys1 ≡ true → Reached img first (keys_replaced noise 1 s)
    unfolding keys_replaced replace_keys
    reached_keys1 f =
        let k = g.able.keys1 in
        let next = with_keys now 1 copy in
        reached_moved img first s g (keys_made 1 (omega arith) k) now.keys1 next (keys_inside 1 (omega arith) k) (keys_in 1 (omega arith) k) (keys_fill 1 (omega arith) k) k
        free.not_keys1 f (keys1_chosen next)
        (none_chosen next now.keys1 (record { not_keys0 = λ e. g.able.keys_apart (sym e); not_keys1 = λ e. free.not_keys1 (sym e); not_commit = g.able.keys1_apart }))
        (λ b n o. rw (ne_eqb b copy n, ne_eqb b now.keys1 o))
        (rw (lowest_spare_lem img first s g) (able_keys1 img first now g.able img refl f))

    pub follows_keys : (q : ℕ) (p : Power) → keys_moved s.after.letters noise first q (after p img s) ≡ after p img (keys_replaced noise q s)
    unfolding keys_moved keys_replaced replace_keys keys_into
    follows_keys q p =
        rw (lowest_at_work img first s g p)
        (ap (λ (d : Device). record { flash = d; numbers = with_keys now q copy })
        (run_bind s.steps (keys_into s.after.letters noise now q copy) p img ∙ rw (← g.image)))

  -- ---- the commit block
  abbrev commit_made : List Step
  commit_made = commit_block_steps now.epoch (now.sequence - 1) copy s.after.map s.after.letters

  abbrev commit_pages : ℕ → List ℕ
  commit_pages = commit_block_page now.epoch (now.sequence - 1) s.after.map s.after.letters

  pub reached_commit : length s.after.letters ≡ positions → is_chosen first now.commit ≡ true → Reached img first (commit_replaced s)
  unfolding commit_replaced replace_commit
  reached_commit full f =
      let next = with_commit now copy in
      let sizes = commit_page-size now.epoch (now.sequence - 1) s.after.map s.after.letters full in
      let steps = commit_block_steps_lem now.epoch (now.sequence - 1) s.after.map s.after.letters copy in
      reached_moved img first s g commit_made now.commit next
      (commit_block_inside now.epoch (now.sequence - 1) s.after.map s.after.letters (length img) copy full (block_inside img copy (new_below img first s g)))
      (λ b o. rw steps (row_in_no_other copy commit_pages parts 0 b (omega arith) o))
      (rw steps (row-fills copy commit_pages sizes parts s.image (omega arith) (omega arith) copy_there (commit_page-full now.epoch 0 (now.sequence - 1) _)))
      g.able.commit free.not_commit f (commit_chosen next)
      (none_chosen next now.commit (record { not_keys0 = λ e. g.able.keys0_apart (sym e); not_keys1 = λ e. g.able.keys1_apart (sym e); not_commit = λ e. free.not_commit (sym e) }))
      (λ b n o. rw (ne_eqb b copy n, ne_eqb b now.commit o))
      (rw (lowest_spare_lem img first s g) (able_commit img first now g.able img refl f))

  pub follows_commit : (p : Power) → commit_moved s.after.map s.after.letters first (after p img s) ≡ after p img (commit_replaced s)
  unfolding commit_moved commit_replaced replace_commit commit_into
  follows_commit p =
      rw (lowest_at_work img first s g p)
      (ap (λ (d : Device). record { flash = d; numbers = with_commit now copy })
      (sym (run-append s.steps (commit_made ++ (erase now.commit ∷ [])) (device p img))))

  pub commit-image : (commit_replaced s).image ≡ play_all (commit_replaced s).steps img
  unfolding commit_replaced
  commit-image = ap (play_all (replace_commit s.image s.after)) g.image ∙ sym (play_all-append s.steps (replace_commit s.image s.after) img)

  pub commit-size : length s.after.letters ≡ positions → length (commit_replaced s).image ≡ length img
  unfolding commit_replaced replace_commit
  commit-size full =
      let l = reached_length img first s g in
      play_all-length (commit_made ++ (erase now.commit ∷ [])) s.image
      (rw l (each_append (Inside (length img)) commit_made (erase now.commit ∷ [])
      (commit_block_inside now.epoch (now.sequence - 1) s.after.map s.after.letters (length img) copy full (block_inside img copy (new_below img first s g)))
      (block_inside img now.commit g.able.commit, tt)))
      ∙ l

-- ---- the last erases
abbrev erased : List ℕ → Work → Work
erased map w = record { flash = run (unused_erases map w.numbers w.flash.image) w.flash; numbers = next_epoch w.numbers }

abbrev last_erased : Stage → Stage
last_erased s =
    let t = dead_erased s in
    record { steps = t.steps; image = t.image; after = with_numbers t.after (next_epoch t.after.numbers) }

follows_erases : (img : List ℕ) (s : Stage) (p : Power) → s.image ≡ play_all s.steps img → erased s.after.map (after p img s) ≡ after p img (last_erased s)
unfolding dead_erased is_dead unused_erases has_live
follows_erases img s p e =
    ap (λ (d : Device). record { flash = d; numbers = next_epoch s.after.numbers })
    (run_bind s.steps (unused_erases s.after.map s.after.numbers) p img ∙ rw (← e))

-- ---- all the stages of a commit
module _ (img noise : List ℕ) (first : Numbers) (s : Stage) (g : Reached img first s) (full : length noise ≡ noise_size) where
  pub follows_stages : is_chosen first s.after.numbers.keys0 ≡ true → is_chosen first s.after.numbers.keys1 ≡ true → (p : Power)
      → renewed s.after.map s.after.letters noise first (after p img s) ≡ after p img (commit_stages noise s)
  unfolding renewed commit_stages keys_replaced commit_replaced
  follows_stages f₀ f₁ p =
      let map = s.after.map in
      let letters = s.after.letters in
      let s₁ = keys_replaced noise 0 s in
      let s₂ = keys_replaced noise 1 s₁ in
      let g₁ : Reached img first s₁ = reached_keys0 img first s g noise full f₀ in
      let g₂ : Reached img first s₂ = reached_keys1 img first s₁ g₁ noise full f₁ in
      ap (λ w. erased map (commit_moved map letters first (keys_moved letters noise first 1 w))) (follows_keys img first s g noise full 0 p)
      ∙ ap (λ w. erased map (commit_moved map letters first w)) (follows_keys img first s₁ g₁ noise full 1 p)
      ∙ ap (erased map) (follows_commit img first s₂ g₂ p)
      ∙ follows_erases img (commit_replaced s₂) p (commit-image img first s₂ g₂)

  -- the image keeps its blocks
  pub replaced_blocks : length s.after.letters ≡ positions → is_chosen first s.after.numbers.keys0 ≡ true → is_chosen first s.after.numbers.keys1 ≡ true
      → blocks (replaced noise s).image ≡ blocks img
  unfolding keys_replaced
  replaced_blocks letters f₀ f₁ =
      let s₁ = keys_replaced noise 0 s in
      let g₁ : Reached img first s₁ = reached_keys0 img first s g noise full f₀ in
      let g₂ : Reached img first (keys_replaced noise 1 s₁) = reached_keys1 img first s₁ g₁ noise full f₁ in
      blocks-same img (replaced noise s).image (commit-size img first (keys_replaced noise 1 s₁) g₂ letters)
