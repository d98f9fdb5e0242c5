-- Each step of a call changes the image that it finds, but for mount's and format's, which erase empty blocks too: `calls_seen`.
use Prim.Native.Nat.{ℕ, zero, suc, ◌-◌, ◌<◌, ◌≤◌}
use native.Mathlib.Omega.{arith}
use mathlib.Core.Path.{◌≡◌, refl, sym, ap, subst, ◌∙◌}
use mathlib.Core.Bool.{Bool, true, false}
use mathlib.Core.List.{List, [], ◌∷◌, ◌++◌}
use lib.ListN.{length}
use borrow.Author.Tests.{ne_eqb}
use Rattle.base.specs.Each.{Each, all_are}
use Rattle.base.specs.Fold.{list_from}
use Rattle.base.specs.Search.{which_from}
use Rattle.base.proofs.Choice.{and-true, true-false}
use Rattle.page.specs.Frame.{erased}
use Rattle.page.specs.Form.{is_empty}
use Rattle.page.specs.Entry.{parts}
use Rattle.page.specs.Header.{header_bytes}
use Rattle.page.specs.Page.{page_bytes, node_page, cut_off_page, keys_page, commit_page}
use Rattle.page.specs.declared.Frame.{Frame}
use Rattle.image.specs.Size.{pages_in_block, blocks}
use Rattle.image.specs.Look.{page_at, block_at, page_empty, block_empty, lowest_empty, empty_blocks}
use Rattle.image.specs.Block.{renewed_key, key_block_steps, commit_block_steps, key_block_page, commit_block_page}
use Rattle.image.specs.Step.{Step, program, erase, Legal, AllLegal, whole, play_all}
use Rattle.image.proofs.CommitBlock.{commit_block_steps_lem}
use Rattle.image.proofs.KeyBlock.{key_block_steps_lem}
use Rattle.image.proofs.Rows.{row_steps, row_in_no_other}
use Rattle.image.proofs.Empties.{block_empty-same, erase_empties}
use Rattle.image.proofs.Looks.{blocks-same, lowest_empty_lem}
use Rattle.image.proofs.Plays.{play_all_nil}
use Rattle.image.proofs.Step.{block_of, page-program, block_whole_other}
use Rattle.store.specs.Reply.{Done, is_done}
use Rattle.store.specs.Kind.{is_chosen, is_data}
use Rattle.store.specs.Record.{Record, is_dead}
use Rattle.store.specs.Outcome.{Outcome}
use Rattle.store.specs.Format.{noise_size}
use Rattle.store.specs.Write.{keys_block, append_steps}
use Rattle.store.specs.CutOff.{removed, cut_off_steps}
use Rattle.store.specs.Commit.{Stage, begin, replace_keys, replace_commit, keys_replaced, commit_replaced, dead_erased, cleaned, commit_stages}
use Rattle.store.specs.Gather.{live_pages, copy_step, copy_steps}
use Rattle.store.specs.Wipe.{removed_first}
use Rattle.store.specs.Stages.{is_spare, erases}
use Rattle.store.specs.Taken.{Ready}
use Rattle.store.specs.declared.Numbers.{Numbers}
use Rattle.store.proofs.Verdicts.{done-true, commit_taken_lem, wipe_taken_lem, gather_taken_lem}
use Rattle.store.proofs.Outcomes.{read_stepless, cut_off_outcome, cut_off-refused, commit_outcome, commit-refused, wipe_outcome, wipe-refused}
use Rattle.store.proofs.Outcomes.{gather_outcome, gather-refused}
use Rattle.store.proofs.Removals.{removed-numbers}
use Rattle.store.proofs.Fits.{fits_is}
use Rattle.store.proofs.Spares.{keys0_chosen, keys1_chosen, commit_chosen, keys_chosen}
use Rattle.store.proofs.Follows.{Reached, reached_length, new_below, reached_keys0, reached_keys1, commit-image}
use Rattle.store.proofs.Renewals.{begin_able, first_reached, first_keys}
use Rattle.store.proofs.GatherRooms.{chosen_full_lem}
use Rattle.store.proofs.Gathers.{Apart, which_apart, which_each, each_with, data_filled, Copying, header, payload, copy_is, copying_next, gather_copying}
use Rattle.guarantee.specs.Call.{Call, mount, write, read, cut_off, commit, wipe, gather, outcome_of, is_mount}
use Rattle.guarantee.specs.OnBus.{AllSeen, CallsSeen}
use Rattle.guarantee.proofs.Givens.{given_outcome, given-refused}
use Rattle.guarantee.proofs.LegalCalls.{call-legal}
use Rattle.guarantee.proofs.NumberedCalls.{legal-rest}
use Rattle.guarantee.proofs.Strays.{legal_first, legal_other}

-- ---- steps that change the image: a page that is programmed is not all FFh, a block that is erased is not empty
abbrev Changing : List ℕ → Step → Type 0
Changing img (program g page) = is_empty page ≡ false
Changing img (erase b) = block_empty img b ≡ false

abbrev AllChanging : List ℕ → List Step → Type 0
AllChanging img [] = Unit {0}
AllChanging img (s ∷ ss) = Changing img s × AllChanging (whole s img) ss

step_seen : (img : List ℕ) (s : Step) → Legal img s → Changing img s → whole s img ≡ img → ⊥
unfolding page_empty
step_seen img (program g page) l f e = true-false l.1 (ap is_empty (ap (λ (i : List ℕ). page_at i g) (sym e) ∙ page-program g page img l.0) ∙ f)
step_seen img (erase b) l f e = true-false (subst (λ (i : List ℕ). block_empty i b ≡ true) e (erase_empties b img l)) f

changing_seen : (ss : List Step) (img : List ℕ) → AllLegal img ss → AllChanging img ss → AllSeen img ss
changing_seen [] img l f = tt
changing_seen (s ∷ ss) img l f = (step_seen img s l.0 f.0, changing_seen ss (whole s img) l.1 f.1)

changing_append : (xs ys : List Step) (img : List ℕ) → AllChanging img xs → AllChanging (play_all xs img) ys → AllChanging img (xs ++ ys)
unfolding play_all
changing_append [] ys img p q = q
changing_append (x ∷ xs) ys img p q = (p.0, changing_append xs ys (whole x img) p.1 q)

-- ---- pages: their first byte is the letter of a kind
page-full : (f : Frame) (payload : List ℕ) → (f.kind ≡ erased → ⊥) → is_empty (page_bytes f payload) ≡ false
unfolding page_bytes header_bytes is_empty all_are
page-full f payload h = rw (ne_eqb f.kind erased h)

abbrev Written : Step → Type 0
Written (program g page) = is_empty page ≡ false
Written (erase b) = ⊥

written_changing : (ss : List Step) (img : List ℕ) → Each Written ss → AllChanging img ss
written_changing [] img w = tt
written_changing (program g page ∷ ss) img w = (w.0, written_changing ss (whole (program g page) img) w.1)
written_changing (erase b ∷ ss) img w = absurd w.0

row_written : (b : ℕ) (page : ℕ → List ℕ) → ((i : ℕ) → is_empty (page i) ≡ false) → (n j : ℕ) → Each Written (row_steps b page n j)
unfolding list_from
row_written b page full zero j = tt
row_written b page full (suc n) j = (full j, row_written b page full n (suc j))

-- ---- erases of different blocks, none of them empty
erases_changing : (bs img : List ℕ) → Apart bs → Each (λ (b : ℕ). block_empty img b ≡ false) bs
    → AllLegal img (erases bs) → AllChanging img (erases bs)
erases_changing [] img a f l = tt
erases_changing (b ∷ bs) img a f l =
    let img' = whole (erase b) img in (
      f.0,
      erases_changing bs img' a.1
          (each_with (λ (c : ℕ). c ≡ b → ⊥) (λ (c : ℕ). block_empty img c ≡ false) (λ (c : ℕ). block_empty img' c ≡ false)
          (λ c n e. block_empty-same img img' c (block_whole_other (erase b) img l.0 c (λ z. n (sym z))) ∙ e) bs a.0 f.1) l.1,
    )

-- ---- stages
abbrev Changes : List ℕ → Stage → Type 0
Changes img s = AllLegal img s.steps → AllChanging img s.steps

module _ (img : List ℕ) (first : Numbers) (s : Stage) (g : Reached img first s) where
  abbrev now : Numbers
  now = s.after.numbers

  abbrev new : ℕ
  new = lowest_empty s.image

  -- a block that is chosen is not empty
  chosen_now : (b : ℕ) → b < blocks img → is_chosen now b ≡ true → block_empty s.image b ≡ false
  unfolding is_spare
  chosen_now b h c = g.empties b h ∙ rw c

  new_empty : block_empty s.image new ≡ true
  new_empty = lowest_empty_lem s.image (rw (blocks-same img s.image (reached_length img first s g)) (new_below img first s g))

  -- a row of pages into the lowest empty block, then a chosen one erased
  moved_changing : (made : List Step) (old : ℕ) → old < blocks img → is_chosen now old ≡ true → Each Written made
      → ((a : ℕ) → (a ≡ new → ⊥) → Each (λ (t : Step). block_of t ≡ a → ⊥) made)
      → Changes img s → AllLegal img (s.steps ++ (made ++ (erase old ∷ []))) → AllChanging img (s.steps ++ (made ++ (erase old ∷ [])))
  moved_changing made old there chosen writes in_row before legal =
      let more = made ++ (erase old ∷ []) in
      let full = chosen_now old there chosen in
      let then : AllLegal s.image more = subst (λ (i : List ℕ). AllLegal i more) (sym g.image) (legal-rest s.steps more img legal) in
      let same = legal_other made s.image old (legal_first made (erase old ∷ []) s.image then) (in_row old (λ e. true-false (rw e new_empty) full)) in
      changing_append s.steps more img (before (legal_first s.steps more img legal))
      (subst (λ (i : List ℕ). AllChanging i more) g.image
      (changing_append made (erase old ∷ []) s.image (written_changing made s.image writes)
      (block_empty-same s.image (play_all made s.image) old same ∙ full, tt)))

  keys_changing : (noise : List ℕ) (q : ℕ) → keys_block now q < blocks img → Changes img s → Changes img (keys_replaced noise q s)
  unfolding keys_replaced replace_keys keys_page
  keys_changing noise q there =
      let key = renewed_key (block_at s.image (keys_block now q)) s.after.letters noise in
      let row = key_block_steps_lem now.epoch q new key in
      moved_changing (key_block_steps now.epoch q new key) (keys_block now q) there (keys_chosen now q)
      (rw row (row_written new (key_block_page now.epoch q key) (λ i. page-full _ _ (λ e. omega arith)) pages_in_block 0))
      (λ a h. rw row (row_in_no_other new (key_block_page now.epoch q key) pages_in_block 0 a (omega arith) h))

  commit_changing : Changes img s → Changes img (commit_replaced s)
  unfolding commit_replaced replace_commit commit_page
  commit_changing =
      let page = commit_block_page now.epoch (now.sequence - 1) s.after.map s.after.letters in
      let row = commit_block_steps_lem now.epoch (now.sequence - 1) s.after.map s.after.letters new in
      moved_changing (commit_block_steps now.epoch (now.sequence - 1) new s.after.map s.after.letters) now.commit g.able.commit (commit_chosen now)
      (rw row (row_written new page (λ i. page-full _ _ (λ e. omega arith)) parts 0))
      (λ a h. rw row (row_in_no_other new page parts 0 a (omega arith) h))

dead_changing : (img : List ℕ) (s : Stage) → s.image ≡ play_all s.steps img → Changes img s → Changes img (dead_erased s)
unfolding dead_erased is_dead
dead_changing img s image before legal =
    let dead = is_dead s.image s.after in
    let bs = which_from dead (blocks s.image) 0 in
    let then : AllLegal s.image (erases bs) = subst (λ (i : List ℕ). AllLegal i (erases bs)) (sym image) (legal-rest s.steps (erases bs) img legal) in
    changing_append s.steps (erases bs) img (before (legal_first s.steps (erases bs) img legal))
    (subst (λ (i : List ℕ). AllChanging i (erases bs)) image
    (erases_changing bs s.image (which_apart dead (blocks s.image) 0)
    (which_each dead (blocks s.image) 0 (λ (b : ℕ). block_empty s.image b ≡ false)
    (λ b a l d. data_filled s.image s.after.numbers b (and-true (is_data s.image s.after.numbers b) _ d).0)) then))

stages_changing : (img noise : List ℕ) (first : Numbers) (s : Stage) → Reached img first s → length noise ≡ noise_size
    → is_chosen first s.after.numbers.keys0 ≡ true → is_chosen first s.after.numbers.keys1 ≡ true → Changes img s → Changes img (commit_stages noise s)
unfolding commit_stages keys_replaced
stages_changing img noise first s g full f₀ f₁ before =
    let s₁ = keys_replaced noise 0 s in
    let s₂ = keys_replaced noise 1 s₁ in
    let g₁ : Reached img first s₁ = reached_keys0 img first s g noise full f₀ in
    let g₂ : Reached img first s₂ = reached_keys1 img first s₁ g₁ noise full f₁ in
    dead_changing img (commit_replaced s₂) (commit-image img first s₂ g₂)
    (commit_changing img first s₂ g₂ (keys_changing img first s₁ g₁ noise 1 g₁.able.keys1 (keys_changing img first s g noise 0 g.able.keys0 before)))

-- a call begins on a record that fits
module _ (img : List ℕ) (r : Record) (ready : Ready img r) (room : 1 ≤ empty_blocks img) where
  empty_spare : (b : ℕ) (t : Bool) → is_chosen r.numbers b ≡ t → block_empty img b ≡ is_spare img r.numbers r.numbers b
  unfolding is_spare
  empty_spare b true c = chosen_full_lem img r 0 (fits_is img r ready.fit) b c ∙ rw c
  empty_spare b false c = rw c

  begin_reached : (s : Record) → s.numbers ≡ r.numbers → Reached img r.numbers (begin img s)
  begin_reached s e =
      record {
        image = sym (play_all_nil img);
        inside = tt;
        apart = λ b f n. tt;
        empties = λ b h. rw e (empty_spare b (is_chosen r.numbers b) refl);
        able = rw e (begin_able img r ready room);
      }

  commit_stages_changing : (noise : List ℕ) → length noise ≡ noise_size → Changes img (commit_stages noise (begin img (cleaned r)))
  commit_stages_changing noise full =
      stages_changing img noise r.numbers (begin img (cleaned r)) (begin_reached (cleaned r) refl) full
      (keys0_chosen r.numbers) (keys1_chosen r.numbers) (λ l. tt)

  first_changing : (file offset : ℕ) → Changes img (removed_first img r file offset)
  unfolding removed_first commit_replaced
  first_changing file offset =
      commit_changing img r.numbers (begin img (removed r file offset)) (begin_reached (removed r file offset) (removed-numbers r file offset)) (λ l. tt)

-- ---- a gather's copies
copies_changing : (block : ℕ) (gs img : List ℕ) (r : Record) → Copying block gs img r → AllChanging img (copy_steps block gs img r)
unfolding copy_steps
copies_changing block [] img r c = tt
copies_changing block (g ∷ gs) img r c = (here, copies_changing block gs _ _ (copying_next block g gs img r c))
  where
    here : Changing img (copy_step block img r g)
    here =
        rw (copy_is block g gs img r c)
        (page-full (header block g gs img r c) (payload block g gs img r c) (λ e. let n = c.lives.0.node in omega arith))

-- ---- a call is taken, or has no steps
by_reply : (img : List ℕ) (o : Outcome) → (o.reply ≡ Done → AllChanging img o.steps) → (is_done o.reply ≡ false → o.steps ≡ []) → AllChanging img o.steps
by_reply img o done refused = go (is_done o.reply) refl
  where
    go : (t : Bool) → is_done o.reply ≡ t → AllChanging img o.steps
    go true e = done (done-true o.reply e)
    go false e = rw (refused e) tt

abbrev steps_of : Outcome → List Step
steps_of o = o.steps

call_changing : (call : Call) → is_mount call ≡ false → (img : List ℕ) (r : Record) → AllChanging img (outcome_of call img r).steps
unfolding append_steps node_page cut_off_steps cut_off_page
call_changing (mount map letters scratch) apart img r = absurd (true-false refl apart)
call_changing (write file offset given) apart img r =
    by_reply img (outcome_of (write file offset given) img r)
    (λ e. rw (given_outcome img r file offset given e) (page-full _ _ (λ z. omega arith), tt))
    (λ e. ap steps_of (given-refused img r file offset given e))
call_changing (read file offset output) apart img r = rw (ap steps_of (read_stepless img r file offset output)) tt
call_changing (cut_off file offset) apart img r =
    by_reply img (outcome_of (cut_off file offset) img r)
    (λ e. rw (cut_off_outcome img r file offset e) (page-full _ _ (λ z. omega arith), tt))
    (λ e. ap steps_of (cut_off-refused img r file offset e))
call_changing (commit noise) apart img r =
    by_reply img (outcome_of (commit noise) img r)
    (λ e.
    let o = commit_outcome img r noise e in
    let t = commit_taken_lem img r noise e in
    let legal = subst (λ (x : Outcome). AllLegal img x.steps) o (call-legal (commit noise) img r) in
    rw o (commit_stages_changing img r t.ready t.room noise t.noise_full legal))
    (λ e. ap steps_of (commit-refused img r noise e))
call_changing (wipe noise file offset) apart img r =
    by_reply img (outcome_of (wipe noise file offset) img r)
    (λ e.
    let o = wipe_outcome img r noise file offset e in
    let t = wipe_taken_lem img r noise file offset e in
    let k = first_keys img r noise file offset t in
    let legal = subst (λ (x : Outcome). AllLegal img x.steps) o (call-legal (wipe noise file offset) img r) in
    rw o
    (stages_changing img noise r.numbers (removed_first img r file offset) (first_reached img r file offset t.ready t.room) t.noise_full k.0 k.1
    (first_changing img r t.ready t.room file offset) legal))
    (λ e. ap steps_of (wipe-refused img r noise file offset e))
call_changing (gather block) apart img r =
    by_reply img (outcome_of (gather block) img r)
    (λ e.
    rw (gather_outcome img r block e)
    (copies_changing block (live_pages r.map block) img r (gather_copying img r block (gather_taken_lem img r block e))))
    (λ e. ap steps_of (gather-refused img r block e))

pub calls_seen : CallsSeen
calls_seen call apart img r = changing_seen (outcome_of call img r).steps img (call-legal call img r) (call_changing call apart img r)
