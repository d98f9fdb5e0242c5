-- After a finished call every block is chosen, or has an N or D page, or is empty: of what a mount would erase, all but dead data blocks is empty.
-- Here over images, steps and stages.
use Prim.Native.Nat.{ℕ, ◌-◌, ◌/◌, ◌%◌, ◌<◌}
use native.Mathlib.Omega.{arith}
use native.Mathlib.Decide.{ℕ_discrete}
use mathlib.Core.Path.{◌≡◌, refl, sym, ap, subst, ◌∙◌}
use mathlib.Core.Logic.{◌⊎◌, inl, inr}
use mathlib.Core.Bool.{Bool, true, false, cond, not, ◌&&◌, ◌||◌}
use mathlib.Core.List.{List, [], ◌∷◌, ◌++◌, map}
use lib.Dec.{eqb}
use lib.ListN.{length}
use borrow.Author.Tests.{ne_eqb, eqb-false}
use Rattle.base.specs.Each.{Each}
use Rattle.base.specs.Search.{which_from}
use Rattle.base.proofs.Choice.{true-false}
use Rattle.base.proofs.Searches.{any_intro, any_agree, any_all_fail}
use Rattle.base.proofs.Eachs.{each_map}
use Rattle.page.specs.Plan.{places}
use Rattle.page.specs.Entry.{parts}
use Rattle.image.specs.Size.{pages_in_block, blocks}
use Rattle.image.specs.Look.{block_at, block_empty, form_at, lowest_empty}
use Rattle.image.specs.Block.{renewed_key, key_block_steps, commit_block_steps, key_block_page, commit_block_page}
use Rattle.image.specs.Step.{Step, program, erase, AllLegal, whole, play_all}
use Rattle.image.proofs.CommitBlock.{commit_block_steps_lem}
use Rattle.image.proofs.KeyBlock.{key_block_steps_lem}
use Rattle.image.proofs.Rows.{row_in_no_other}
use Rattle.image.proofs.Empties.{block_empty-same, erase_empties}
use Rattle.image.proofs.Forms.{form_same}
use Rattle.image.proofs.Plays.{play_all-append, play_all_cons, play_all_nil}
use Rattle.image.proofs.Step.{block_of, whole_length, block_whole_other, page_of-same}
use Rattle.store.specs.Kind.{page_in, headed, is_chosen, is_data, has_events}
use Rattle.store.specs.Record.{Record, with_numbers, page_of, live, has_live, is_dead}
use Rattle.store.specs.Mount.{is_stray, is_covered_dead, is_swept, mounted, mount_steps}
use Rattle.store.proofs.Erasures.{swept_is}
use Rattle.store.specs.Write.{keys_block}
use Rattle.store.specs.Commit.{replace_keys, replace_commit, with_keys, with_commit, Stage, begin, onward, keys_replaced, commit_replaced, dead_erased, commit_stages}
use Rattle.store.specs.declared.Numbers.{Numbers}
use Rattle.store.proofs.LegalSteps.{legal-length, legal_inside}
use Rattle.guarantee.proofs.NumberedCalls.{legal-rest}
use Rattle.guarantee.proofs.Loosenings.{which_in, which_each}
use Rattle.guarantee.proofs.Room.{sweep_empties}

-- ---- the statement
abbrev pub Neat : List ℕ → Numbers → Type 0
Neat img r = (b : ℕ) → b < blocks img → is_chosen r b ≡ false → has_events img b ≡ false → block_empty img b ≡ true

-- what mount erases of such an image is empty, or dead and covered
pub neat_swept : (img : List ℕ) (r : Record) → Neat img r.numbers → (b : ℕ) → b < blocks img → is_swept img r b ≡ true
    → (block_empty img b ≡ true) ⊎ (is_covered_dead img r b ≡ true)
unfolding is_swept is_stray is_data
neat_swept img r neat b h = go (is_chosen r.numbers b) refl (has_events img b) refl (is_covered_dead img r b) refl
  where
    go : (t : Bool) → is_chosen r.numbers b ≡ t → (v : Bool) → has_events img b ≡ v → (w : Bool) → is_covered_dead img r b ≡ w
        → not t && not (v && not t) || w ≡ true → (block_empty img b ≡ true) ⊎ (is_covered_dead img r b ≡ true)
    go t c v e true q z = inr q
    go true c v e false q z = absurd (true-false z refl)
    go false c true e false q z = absurd (true-false z refl)
    go false c false e false q z = inl (neat b h c e)

-- ---- chosen blocks
pub chosen_not : (r : Numbers) (b : ℕ) → is_chosen r b ≡ false → (b ≡ r.keys0 → ⊥) × (b ≡ r.keys1 → ⊥) × (b ≡ r.commit → ⊥)
chosen_not r b = go (eqb b r.keys0) refl (eqb b r.keys1) refl (eqb b r.commit) refl
  where
    go : (x : Bool) → eqb b r.keys0 ≡ x → (y : Bool) → eqb b r.keys1 ≡ y → (z : Bool) → eqb b r.commit ≡ z → x || y || z ≡ false → (b ≡ r.keys0 → ⊥) × (b ≡ r.keys1 → ⊥) × (b ≡ r.commit → ⊥)
    go true p y q z s f = absurd (true-false refl f)
    go false p true q z s f = absurd (true-false refl f)
    go false p false q true s f = absurd (true-false refl f)
    go false p false q false s f = (eqb-false b r.keys0 p, eqb-false b r.keys1 q, eqb-false b r.commit s)

pub not_chosen : (r : Numbers) (b : ℕ) → (b ≡ r.keys0 → ⊥) → (b ≡ r.keys1 → ⊥) → (b ≡ r.commit → ⊥) → is_chosen r b ≡ false
not_chosen r b x y z = rw (ne_eqb b r.keys0 x, ne_eqb b r.keys1 y, ne_eqb b r.commit z)

-- ---- a change: each block that is neither chosen nor with events now is empty, or is as it was and was not chosen
pub events-same : (img img' : List ℕ) (b : ℕ) → block_at img' b ≡ block_at img b → has_events img' b ≡ has_events img b
events-same img img' b e =
    any_agree (λ i. headed (form_at img' (page_in b i))) (λ i. headed (form_at img (page_in b i))) pages_in_block 0
    (λ i h l. let q : page_in b i / pages_in_block ≡ b = omega arith in ap headed (form_same img img' (page_in b i) (page_of-same img img' (page_in b i) (rw q e))))

neat_change : (img img' : List ℕ) (r r' : Numbers) → length img' ≡ length img → Neat img r
    → ((b : ℕ) → b < blocks img → is_chosen r' b ≡ false → has_events img' b ≡ false → (block_empty img' b ≡ true) ⊎ ((block_at img' b ≡ block_at img b) × (is_chosen r b ≡ false))) → Neat img' r'
neat_change img img' r r' same neat f b h c e = go (f b (rw same at h) c e)
  where
    go : (block_empty img' b ≡ true) ⊎ ((block_at img' b ≡ block_at img b) × (is_chosen r b ≡ false)) → block_empty img' b ≡ true
    go (inl z) = z
    go (inr z) = block_empty-same img img' b z.0 ∙ neat b (rw same at h) z.1 (sym (events-same img img' b z.0) ∙ e)

-- ---- steps that the flash can do
pub legal_first : (ss ts : List Step) (img : List ℕ) → AllLegal img (ss ++ ts) → AllLegal img ss
legal_first [] ts img l = tt
legal_first (s ∷ ss) ts img l = (l.0, legal_first ss ts (whole s img) l.1)

-- a block that they leave alone
pub legal_other : (ss : List Step) (img : List ℕ) (b : ℕ) → AllLegal img ss → Each (λ (s : Step). block_of s ≡ b → ⊥) ss → block_at (play_all ss img) b ≡ block_at img b
unfolding play_all
legal_other [] img b l o = refl
legal_other (s ∷ ss) img b l o = legal_other ss (whole s img) b l.1 o.1 ∙ block_whole_other s img (legal_inside img s l.0) b o.0

-- ---- one program that makes its block one with events
pub program_neat : (img : List ℕ) (r r' : Numbers) (g : ℕ) (page : List ℕ) → AllLegal img (program g page ∷ []) → headed (form_at (whole (program g page) img) g) ≡ true
    → ((b : ℕ) → is_chosen r' b ≡ is_chosen r b) → Neat img r → Neat (play_all (program g page ∷ []) img) r'
unfolding play_all
program_neat img r r' g page legal event same neat =
    neat_change img (whole (program g page) img) r r' (whole_length (program g page) img legal.0.0) neat (λ b h c e. elim (ℕ_discrete (g / pages_in_block) b) [
      | yes z ↦ absurd (true-false (here b z) e)
      | no z ↦ inr (block_whole_other (program g page) img legal.0.0 b z, sym (same b) ∙ c)
    ])
  where
    here : (b : ℕ) → g / pages_in_block ≡ b → has_events (whole (program g page) img) b ≡ true
    here b z =
        let at : page_in b (g % pages_in_block) ≡ g = omega arith in
        any_intro (λ i. headed (form_at (whole (program g page) img) (page_in b i))) pages_in_block 0 (g % pages_in_block) (omega arith) (omega arith) (rw at event)

-- ---- blocks erased in a row: those that p picks
abbrev pub swept : (ℕ → Bool) → List ℕ → List ℕ
swept p img = play_all (map erase (which_from p (blocks img) 0)) img

-- a block is empty then, or p did not pick it and it is as it was
abbrev pub Swept : (ℕ → Bool) → List ℕ → ℕ → Type 0
Swept p img b = (block_empty (swept p img) b ≡ true) ⊎ ((p b ≡ false) × (block_at (swept p img) b ≡ block_at img b))

module _ (p : ℕ → Bool) (img : List ℕ) (legal : AllLegal img (map erase (which_from p (blocks img) 0))) where
  abbrev picked : List ℕ
  picked = which_from p (blocks img) 0

  swept_within : (b : ℕ) → b < blocks (swept p img) → b < blocks img
  swept_within b h = let same = legal-length (map erase picked) img legal in rw same at h

  pub swept_block : (b : ℕ) → b < blocks img → Swept p img b
  swept_block b h = go (p b) refl
    where
      go : (t : Bool) → p b ≡ t → (block_empty (swept p img) b ≡ true) ⊎ ((t ≡ false) × (block_at (swept p img) b ≡ block_at img b))
      go true q = inl (sweep_empties picked img b (which_each (λ (d : ℕ). d < blocks img) p (blocks img) 0 (λ d a l z. omega arith)) (inl (which_in p (blocks img) 0 b (omega arith) (omega (arith, h)) q)))
      go false q =
          let apart = which_each (λ (d : ℕ). d ≡ b → ⊥) p (blocks img) 0 (λ d a l z y. true-false (rw y at z) q) in
          inr (refl, legal_other (map erase picked) img b legal (each_map (λ (d : ℕ). d ≡ b → ⊥) (λ (s : Step). block_of s ≡ b → ⊥) erase (λ d f. f) picked apart))

  sweep_neat : (r : Numbers) → ((b : ℕ) → b < blocks img → p b ≡ false → is_chosen r b ≡ false → has_events img b ≡ false → block_empty img b ≡ true) → Neat (swept p img) r
  sweep_neat r rest b h c e = go (swept_block b (swept_within b h))
    where
      go : Swept p img b → block_empty (swept p img) b ≡ true
      go (inl z) = z
      go (inr z) = block_empty-same img (swept p img) b z.1 ∙ rest b (swept_within b h) z.0 c (sym (events-same img (swept p img) b z.1) ∙ e)

-- mount
pub mount_neat : (img : List ℕ) → AllLegal img (mount_steps img) → Neat (play_all (mount_steps img) img) (mounted img).numbers
unfolding mount_steps
mount_neat img legal =
    sweep_neat (is_swept img (mounted img)) img legal (mounted img).numbers (λ b h s c e.
    let z = swept_is img (mounted img) b in
    absurd (true-false (z ∙ rw (c, e)) s))

-- ---- a row of pages into block nb, then block old erased, where nb is chosen from then on in the place of old
replace_neat : (img : List ℕ) (row : List Step) (nb old : ℕ) (r r' : Numbers) → AllLegal img (row ++ (erase old ∷ [])) → ((b : ℕ) → (b ≡ nb → ⊥) → Each (λ (s : Step). block_of s ≡ b → ⊥) row)
    → ((b : ℕ) → is_chosen r' b ≡ false → (b ≡ nb → ⊥) × ((b ≡ old → ⊥) → is_chosen r b ≡ false)) → Neat img r → Neat (play_all (row ++ (erase old ∷ [])) img) r'
replace_neat img row nb old r r' legal in_row chosen neat =
    let first = legal_first row (erase old ∷ []) img legal in
    let last = (legal-rest row (erase old ∷ []) img legal).0 in
    let copied = play_all row img in
    let p : play_all (row ++ (erase old ∷ [])) img ≡ whole (erase old) copied = play_all-append row (erase old ∷ []) img ∙ play_all_cons (erase old) [] copied ∙ play_all_nil (whole (erase old) copied) in
    rw p (neat_change img (whole (erase old) copied) r r' (whole_length (erase old) copied last ∙ legal-length row img first) neat (λ b h c e. elim (ℕ_discrete b old) [
      | yes z ↦ inl (rw z (erase_empties old copied last))
      | no z ↦ inr (block_whole_other (erase old) copied last b (λ y. z (sym y)) ∙ legal_other row img b first (in_row b (chosen b c).0), (chosen b c).1 z)
    ]))

-- ---- stages: what P says of image and record at the stage's end, where the flash can do the steps so far
abbrev pub Staged : (List ℕ → Record → Type 0) → List ℕ → Stage → Type 0
Staged P img s = (s.image ≡ play_all s.steps img) × (AllLegal img s.steps → P s.image s.after)

pub onward_staged : (P : List ℕ → Record → Type 0) (img : List ℕ) (s : Stage) (more : List Step) (r : Record) → Staged P img s
    → (P s.image s.after → AllLegal s.image more → P (play_all more s.image) r) → Staged P img (onward s more r)
onward_staged P img s more r before here = (
  ap (play_all more) before.0 ∙ sym (play_all-append s.steps more img),
  λ l. here (before.1 (legal_first s.steps more img l)) (rw before.0 (legal-rest s.steps more img l)),
)

-- what was neat at the call's start is so at the stage's end
abbrev IsNeat : List ℕ → Record → Type 0
IsNeat img r = Neat img r.numbers

abbrev pub Neatly : List ℕ → Stage → Type 0
Neatly img s = Staged IsNeat img s

pub begin_neatly : (img : List ℕ) (r : Record) → Neat img r.numbers → Neatly img (begin img r)
begin_neatly img r neat = (sym (play_all_nil img), λ l. neat)

keys_neatly : (noise : List ℕ) (q : ℕ) (img : List ℕ) (s : Stage) → Neatly img s → Neatly img (keys_replaced noise q s)
unfolding keys_replaced replace_keys
keys_neatly noise q img s before =
    let nb = lowest_empty s.image in
    let n = s.after.numbers in
    let old = keys_block n q in
    let key = renewed_key (block_at s.image old) s.after.letters noise in
    onward_staged IsNeat img s (replace_keys s.image s.after noise q) (with_numbers s.after (with_keys n q nb)) before (λ neat legal.
    replace_neat s.image (key_block_steps n.epoch q nb key) nb old n (with_keys n q nb) legal
    (λ b h. rw (key_block_steps_lem n.epoch q nb key) (row_in_no_other nb (key_block_page n.epoch q key) pages_in_block 0 b (omega arith) h))
    (moved (eqb q 0) n nb) neat)
  where
    moved : (t : Bool) (n : Numbers) (nb b : ℕ) → is_chosen (record { sequence = n.sequence; epoch = n.epoch; keys0 = cond t nb n.keys0; keys1 = cond t n.keys1 nb; commit = n.commit }) b ≡ false
        → (b ≡ nb → ⊥) × ((b ≡ cond t n.keys0 n.keys1 → ⊥) → is_chosen n b ≡ false)
    moved true n nb b c = let d = chosen_not (record { sequence = n.sequence; epoch = n.epoch; keys0 = nb; keys1 = n.keys1; commit = n.commit }) b c in (d.0, λ o. not_chosen n b o d.1 d.2)
    moved false n nb b c = let d = chosen_not (record { sequence = n.sequence; epoch = n.epoch; keys0 = n.keys0; keys1 = nb; commit = n.commit }) b c in (d.1, λ o. not_chosen n b d.0 o d.2)

pub commit_neatly : (img : List ℕ) (s : Stage) → Neatly img s → Neatly img (commit_replaced s)
unfolding commit_replaced replace_commit
commit_neatly img s before =
    let nb = lowest_empty s.image in
    let n = s.after.numbers in
    onward_staged IsNeat img s (replace_commit s.image s.after) (with_numbers s.after (with_commit n nb)) before (λ neat legal.
    replace_neat s.image (commit_block_steps n.epoch (n.sequence - 1) nb s.after.map s.after.letters) nb n.commit n (with_commit n nb) legal
    (λ b h. rw (commit_block_steps_lem n.epoch (n.sequence - 1) s.after.map s.after.letters nb)
    (row_in_no_other nb (commit_block_page n.epoch (n.sequence - 1) s.after.map s.after.letters) parts 0 b (omega arith) h))
    (λ b c. let d = chosen_not (with_commit n nb) b c in (d.2, λ o. not_chosen n b d.0 d.1 o)) neat)

dead_neatly : (img : List ℕ) (s : Stage) → Neatly img s → Neatly img (dead_erased s)
unfolding dead_erased
dead_neatly img s before =
    onward_staged IsNeat img s _ s.after before (λ neat legal. sweep_neat (is_dead s.image s.after) s.image legal s.after.numbers (λ b h d. neat b h))

pub stages_neatly : (noise : List ℕ) (img : List ℕ) (s : Stage) → Neatly img s → Neatly img (commit_stages noise s)
unfolding commit_stages
stages_neatly noise img s before = dead_neatly img _ (commit_neatly img _ (keys_neatly noise 1 img _ (keys_neatly noise 0 img s before)))

-- ---- a commit with nothing live leaves all blocks empty but the chosen
-- without live places a data block is dead
bare_dead : (img : List ℕ) (r : Record) → ((x : ℕ) → x < places → live r.map x ≡ false) → (b : ℕ) → is_dead img r b ≡ false → is_chosen r.numbers b ≡ false → has_events img b ≡ false
unfolding is_dead is_data has_live
bare_dead img r none b d c =
    let no-live = any_all_fail (λ x. live r.map x && eqb (page_of r.map x / pages_in_block) b) places 0 (λ x a l. rw (none x (omega arith))) in
    go (has_events img b) (rw (no-live, c) at d)
  where
    go : (t : Bool) → (t && true) && true ≡ false → t ≡ false
    go true z = z
    go false z = refl

dead_bare : (img : List ℕ) (s : Stage) → Neatly img s → AllLegal img (dead_erased s).steps → ((x : ℕ) → x < places → live s.after.map x ≡ false)
    → (b : ℕ) → b < blocks (dead_erased s).image → is_chosen s.after.numbers b ≡ false → block_empty (dead_erased s).image b ≡ true
unfolding dead_erased
dead_bare img s before legal none b inside c = go (swept_block dead s.image last b within)
  where
    dead : ℕ → Bool
    dead = is_dead s.image s.after

    last : AllLegal s.image (map erase (which_from dead (blocks s.image) 0))
    last = subst (λ (i : List ℕ). AllLegal i (map erase (which_from dead (blocks s.image) 0))) (sym before.0) (legal-rest s.steps _ img legal)

    within : b < blocks s.image
    within = swept_within dead s.image last b inside

    go : Swept dead s.image b → block_empty (swept dead s.image) b ≡ true
    go (inl z) = z
    go (inr z) = block_empty-same s.image _ b z.1 ∙ before.1 (legal_first s.steps _ img legal) b within c (bare_dead s.image s.after none b z.0 c)

pub stages_bare : (noise : List ℕ) (img : List ℕ) (s : Stage) → Neatly img s → AllLegal img (commit_stages noise s).steps → ((x : ℕ) → x < places → live s.after.map x ≡ false)
    → (b : ℕ) → b < blocks (commit_stages noise s).image → is_chosen (commit_stages noise s).after.numbers b ≡ false → block_empty (commit_stages noise s).image b ≡ true
unfolding commit_stages dead_erased keys_replaced commit_replaced
stages_bare noise img s before =
    dead_bare img (commit_replaced (keys_replaced noise 1 (keys_replaced noise 0 s))) (commit_neatly img _ (keys_neatly noise 1 img _ (keys_neatly noise 0 img s before)))
