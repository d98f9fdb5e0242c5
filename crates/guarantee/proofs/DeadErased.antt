-- A commit or wipe that is done leaves no dead block: each that was dead before it is empty after it, a block that was gathered among them.
use Prim.Native.Nat.{ℕ, ◌-◌, ◌/◌, ◌<◌}
use native.Mathlib.Omega.{arith}
use native.Mathlib.Decide.{dec_lt}
use mathlib.Core.Path.{◌≡◌, refl, sym, ap, subst, ◌∙◌}
use mathlib.Core.Logic.{inl, inr}
use mathlib.Core.Bool.{Bool, true, false, cond, not, ◌&&◌}
use mathlib.Core.List.{List, [], ◌∷◌, ◌++◌, map}
use lib.Dec.{T, eqb, ltb}
use lib.ListN.{length}
use borrow.Author.Tests.{not-true, le-ltb, ltb-false}
use Rattle.base.specs.Each.{Each}
use Rattle.base.specs.Search.{which_from}
use Rattle.base.proofs.Choice.{and-true, true-false}
use Rattle.base.proofs.Searches.{any_fails, any_all_fail}
use Rattle.page.specs.Plan.{places, file_plan, count_of}
use Rattle.page.specs.Entry.{none, parts}
use Rattle.image.specs.Size.{pages_in_block, blocks, size_right}
use Rattle.image.specs.Look.{block_at, block_empty, lowest_empty}
use Rattle.image.specs.Block.{renewed_key, key_block_steps, commit_block_steps, key_block_page, commit_block_page}
use Rattle.image.specs.Step.{Step, erase, AllLegal, whole, play, play_all}
use Rattle.image.proofs.CommitBlock.{commit_block_steps_lem}
use Rattle.image.proofs.KeyBlock.{key_block_steps_lem}
use Rattle.image.proofs.Rows.{row_in_no_other}
use Rattle.image.proofs.Looks.{sized, size_same, lowest_empty_lem}
use Rattle.image.proofs.Plays.{play_all_lem, play_all-append, play_all_cons, play_all_nil}
use Rattle.image.proofs.Step.{block_of, whole_length, block_whole_other}
use Rattle.store.specs.Kind.{is_chosen, is_data, has_events}
use Rattle.store.specs.Record.{Record, with_numbers, page_of, live, has_live, is_dead}
use Rattle.store.specs.Outcome.{Outcome, left}
use Rattle.store.specs.Mount.{removes}
use Rattle.store.specs.Write.{keys_block}
use Rattle.store.specs.CutOff.{removed}
use Rattle.store.specs.Commit.{replace_keys, replace_commit, with_keys, with_commit, cleaned}
use Rattle.store.specs.Commit.{Stage, begin, onward, keys_replaced, commit_replaced, dead_erased, commit_stages}
use Rattle.store.specs.Wipe.{removed_first}
use Rattle.store.specs.declared.Numbers.{Numbers}
use Rattle.store.specs.Reply.{Done}
use Rattle.store.proofs.BlockKinds.{data_outside}
use Rattle.store.proofs.Gathers.{data_filled}
use Rattle.store.proofs.LegalSteps.{legal-length}
use Rattle.store.proofs.Legals.{commit-legal, wipe-legal}
use Rattle.store.proofs.Outcomes.{Full, commit_outcome, wipe_outcome, read_stepless}
use Rattle.store.proofs.Removals.{removed-numbers, removed-page}
use Rattle.store.proofs.Verdicts.{wipe_taken_lem}
use Rattle.guarantee.specs.Call.{Call, mount, write, read, cut_off, commit, wipe, gather, Event, outcome_of}
use Rattle.guarantee.specs.Machine.{Machine, outcome_at, left_at, is_cut, step}
use Rattle.guarantee.specs.Statement.{purges}
use Rattle.guarantee.specs.Handover.{Purge, after_purge}
use Rattle.guarantee.proofs.NumberedCalls.{legal-rest}
use Rattle.guarantee.proofs.Alterations.{succeeded}
use Rattle.guarantee.proofs.Events.{on_uncut}
use Rattle.guarantee.proofs.Histories.{History, end_of, while_on, next, standing}
use Rattle.guarantee.proofs.TakenCalls.{gathered_block_dead}
use Rattle.guarantee.proofs.Strays.{chosen_not, not_chosen, events-same, legal_first, legal_other, Swept, swept, swept_block, Staged, onward_staged}
use Rattle.guarantee.proofs.KeysLeft.{purge-on}

-- ---- a dead block of an image
pub record Dead (b : ℕ) (img : List ℕ) (r : Record) : Type 0 where
  pub inside : b < blocks img
  pub events : has_events img b ≡ true
  pub unchosen : is_chosen r.numbers b ≡ false
  pub unnamed : has_live r.map b ≡ false

dead_is : (img : List ℕ) (r : Record) (b : ℕ) → size_right img ≡ true → is_dead img r b ≡ true → Dead b img r
unfolding is_dead is_data
dead_is img r b size d =
    let p = and-true (is_data img r.numbers b) (not (has_live r.map b)) d in
    let q = and-true (has_events img b) (not (is_chosen r.numbers b)) p.0 in
    let z = sized img size in
    record {
      inside = elim (dec_lt b (blocks img)) [
        | yes h ↦ h
        | no h ↦ absurd (true-false p.0 (data_outside img r.numbers b (omega (arith, z.full))))
      ];
      events = q.0;
      unchosen = not-true (is_chosen r.numbers b) q.1;
      unnamed = not-true (has_live r.map b) p.1;
    }

is_dead_lem : (img : List ℕ) (r : Record) (b : ℕ) → Dead b img r → is_dead img r b ≡ true
unfolding is_dead is_data
is_dead_lem img r b d = rw (d.events, d.unchosen, d.unnamed)

module _ (b : ℕ) where
  -- no empty block is dead
  not_lowest : (img : List ℕ) (r : Record) → Dead b img r → b ≡ lowest_empty img → ⊥
  unfolding is_data
  not_lowest img r d e =
      let empty : block_empty img b ≡ true = rw e (lowest_empty_lem img (rw (← e) d.inside)) in
      true-false empty (data_filled img r.numbers b (rw (d.events, d.unchosen)))

  -- a row of pages into another block, then another block erased
  replace_dead : (img : List ℕ) (row : List Step) (nb old : ℕ) (r r' : Record) → AllLegal img (row ++ (erase old ∷ []))
      → ((a : ℕ) → (a ≡ nb → ⊥) → Each (λ (s : Step). block_of s ≡ a → ⊥) row)
      → (b ≡ nb → ⊥) → (b ≡ old → ⊥) → r'.map ≡ r.map → is_chosen r'.numbers b ≡ false → Dead b img r → Dead b (play_all (row ++ (erase old ∷ [])) img) r'
  replace_dead img row nb old r r' legal in_row apart other same free d =
      let first = legal_first row (erase old ∷ []) img legal in
      let last = (legal-rest row (erase old ∷ []) img legal).0 in
      let copied = play_all row img in
      let p : play_all (row ++ (erase old ∷ [])) img ≡ whole (erase old) copied =
      play_all-append row (erase old ∷ []) img ∙ play_all_cons (erase old) [] copied ∙ play_all_nil (whole (erase old) copied) in
      let block : block_at (whole (erase old) copied) b ≡ block_at img b =
      block_whole_other (erase old) copied last b (λ y. other (sym y)) ∙ legal_other row img b first (in_row b apart) in
      let long : length (whole (erase old) copied) ≡ length img = whole_length (erase old) copied last ∙ legal-length row img first in
      rw p (record {
        inside = rw long d.inside;
        events = events-same img (whole (erase old) copied) b block ∙ d.events;
        unchosen = free;
        unnamed = rw same d.unnamed;
      })

  -- ---- stages
  keys_dead : (noise : List ℕ) (q : ℕ) (img : List ℕ) (s : Stage) → Staged (Dead b) img s → Staged (Dead b) img (keys_replaced noise q s)
  unfolding keys_replaced replace_keys
  keys_dead noise q img s before =
      let nb = lowest_empty s.image in
      let n = s.after.numbers in
      let old = keys_block n q in
      let key = renewed_key (block_at s.image old) s.after.letters noise in
      onward_staged (Dead b) img s (replace_keys s.image s.after noise q) (with_numbers s.after (with_keys n q nb)) before (λ d legal.
      let apart = not_lowest s.image s.after d in
      let w = moved (eqb q 0) n nb apart d.unchosen in
      replace_dead s.image (key_block_steps n.epoch q nb key) nb old s.after (with_numbers s.after (with_keys n q nb)) legal
      (λ a h. rw (key_block_steps_lem n.epoch q nb key) (row_in_no_other nb (key_block_page n.epoch q key) pages_in_block 0 a (omega arith) h))
      apart w.0 refl w.1 d)
    where
      with_keys_lem : Numbers → ℕ → ℕ → Numbers
      with_keys_lem n x y = record { sequence = n.sequence; epoch = n.epoch; keys0 = x; keys1 = y; commit = n.commit }

      moved : (t : Bool) (n : Numbers) (nb : ℕ) → (b ≡ nb → ⊥) → is_chosen n b ≡ false
          → (b ≡ cond t n.keys0 n.keys1 → ⊥) × (is_chosen (with_keys_lem n (cond t nb n.keys0) (cond t n.keys1 nb)) b ≡ false)
      moved true n nb apart c = let d = chosen_not n b c in (d.0, not_chosen (with_keys_lem n nb n.keys1) b apart d.1 d.2)
      moved false n nb apart c = let d = chosen_not n b c in (d.1, not_chosen (with_keys_lem n n.keys0 nb) b d.0 apart d.2)

  commit_dead : (img : List ℕ) (s : Stage) → Staged (Dead b) img s → Staged (Dead b) img (commit_replaced s)
  unfolding commit_replaced replace_commit
  commit_dead img s before =
      let nb = lowest_empty s.image in
      let n = s.after.numbers in
      onward_staged (Dead b) img s (replace_commit s.image s.after) (with_numbers s.after (with_commit n nb)) before (λ d legal.
      let apart = not_lowest s.image s.after d in
      let c = chosen_not n b d.unchosen in
      replace_dead s.image (commit_block_steps n.epoch (n.sequence - 1) nb s.after.map s.after.letters) nb n.commit s.after
      (with_numbers s.after (with_commit n nb)) legal
      (λ a h. rw (commit_block_steps_lem n.epoch (n.sequence - 1) s.after.map s.after.letters nb)
      (row_in_no_other nb (commit_block_page n.epoch (n.sequence - 1) s.after.map s.after.letters) parts 0 a (omega arith) h))
      apart c.2 refl (not_chosen (with_commit n nb) b c.0 c.1 apart) d)

  -- ---- then it is erased
  module _ (img : List ℕ) (s : Stage) (before : s.image ≡ play_all s.steps img) (legal : AllLegal img (dead_erased s).steps) where
    abbrev dead : ℕ → Bool
    dead = is_dead s.image s.after

    erases : AllLegal s.image (map erase (which_from dead (blocks s.image) 0))
    unfolding dead_erased
    erases =
        subst (λ (i : List ℕ). AllLegal i (map erase (which_from dead (blocks s.image) 0))) (sym before)
        (legal-rest s.steps (map erase (which_from dead (blocks s.image) 0)) img legal)

    pub erased-before : AllLegal img s.steps
    unfolding dead_erased
    erased-before = legal_first s.steps _ img legal

    pub erased_played : (dead_erased s).image ≡ play_all (dead_erased s).steps img
    unfolding dead_erased
    erased_played = ap (play_all (map erase (which_from dead (blocks s.image) 0))) before ∙ sym (play_all-append s.steps _ img)

    pub erased_empty : Dead b s.image s.after → block_empty (dead_erased s).image b ≡ true
    unfolding dead_erased
    erased_empty d = go (swept_block dead s.image erases b d.inside)
      where
        go : Swept dead s.image b → block_empty (swept dead s.image) b ≡ true
        go (inl z) = z
        go (inr z) = absurd (true-false (is_dead_lem s.image s.after b d) z.0)

    -- and nothing else is left dead
    pub erased-none : size_right s.image ≡ true → is_dead (dead_erased s).image s.after b ≡ false
    unfolding dead_erased is_data
    erased-none size = go (is_dead (swept dead s.image) s.after b) refl
      where
        long : length (swept dead s.image) ≡ length s.image
        long = legal-length (map erase (which_from dead (blocks s.image) 0)) s.image erases

        kept : Dead b (swept dead s.image) s.after → Swept dead s.image b → ⊥
        kept d (inl z) = true-false z (data_filled (swept dead s.image) s.after.numbers b (rw (d.events, d.unchosen)))
        kept d (inr z) =
            let same = events-same s.image (swept dead s.image) b z.1 in
            let was : Dead b s.image s.after =
            record { inside = rw long at d.inside; events = sym same ∙ d.events; unchosen = d.unchosen; unnamed = d.unnamed } in
            true-false (is_dead_lem s.image s.after b was) z.0

        go : (t : Bool) → is_dead (swept dead s.image) s.after b ≡ t → t ≡ false
        go true q =
            let right = size_same (swept dead s.image) (length s.image) long ∙ sym (size_same s.image (length s.image) refl) ∙ size in
            let d = dead_is (swept dead s.image) s.after b right q in
            absurd (kept d (swept_block dead s.image erases b (rw long at d.inside)))
        go false q = refl

-- ---- the length of the image at each stage
abbrev Long : ℕ → List ℕ → Record → Type 0
Long n img r = length img ≡ n

onward-long : (n : ℕ) (img : List ℕ) (s : Stage) (more : List Step) (r : Record) → Staged (Long n) img s → Staged (Long n) img (onward s more r)
onward-long n img s more r before = onward_staged (Long n) img s more r before (λ e l. legal-length more s.image l ∙ e)

keys-long : (n : ℕ) (noise : List ℕ) (q : ℕ) (img : List ℕ) (s : Stage) → Staged (Long n) img s → Staged (Long n) img (keys_replaced noise q s)
unfolding keys_replaced
keys-long n noise q img s before = onward-long n img s (replace_keys s.image s.after noise q) (keys_replaced noise q s).after before

commit-long : (n : ℕ) (img : List ℕ) (s : Stage) → Staged (Long n) img s → Staged (Long n) img (commit_replaced s)
unfolding commit_replaced
commit-long n img s before = onward-long n img s (replace_commit s.image s.after) (commit_replaced s).after before

-- ---- all stages
module _ (b : ℕ) (noise img : List ℕ) (s : Stage) (legal : AllLegal img (commit_stages noise s).steps) where
  abbrev last : Stage
  last = commit_replaced (keys_replaced noise 1 (keys_replaced noise 0 s))

  legal_last : AllLegal img (dead_erased last).steps
  unfolding commit_stages
  legal_last = legal

  stages_empty : Staged (Dead b) img s → block_empty (play_all (commit_stages noise s).steps img) b ≡ true
  unfolding commit_stages
  stages_empty before =
      let d = commit_dead b img _ (keys_dead b noise 1 img _ (keys_dead b noise 0 img s before)) in
      ap (λ (i : List ℕ). block_empty i b) (sym (erased_played b img last d.0 legal_last))
      ∙ erased_empty b img last d.0 legal_last (d.1 (erased-before b img last d.0 legal_last))

  stages_none : size_right img ≡ true → Staged (Long (length img)) img s
      → is_dead (play_all (commit_stages noise s).steps img) (commit_stages noise s).after b ≡ false
  unfolding commit_stages is_dead is_data dead_erased
  stages_none size before =
      let d = commit-long (length img) img _ (keys-long (length img) noise 1 img _ (keys-long (length img) noise 0 img s before)) in
      let same = d.1 (erased-before b img last d.0 legal_last) in
      let right = size_same last.image (length img) same ∙ sym (size_same img (length img) refl) ∙ size in
      ap (λ (i : List ℕ). is_dead i last.after b) (sym (erased_played b img last d.0 legal_last)) ∙ erased-none b img last d.0 legal_last right

-- ---- the calls
module _ (b : ℕ) (img : List ℕ) (r : Record) where
  removed_dead : (file offset : ℕ) → Full r → offset < count_of file_plan file → Dead b img r → Dead b img (removed r file offset)
  unfolding has_live
  removed_dead file offset full right d =
      record {
        inside = d.inside;
        events = d.events;
        unchosen = rw (removed-numbers r file offset) d.unchosen;
        unnamed = any_all_fail (λ x. live (removed r file offset).map x && eqb (page_of (removed r file offset).map x / pages_in_block) b) places 0 (λ x h l.
            rw (removed-page r file offset full right x (omega arith))
            (gone (removes file offset x) (page_of r.map x)
            (any_fails (λ x. live r.map x && eqb (page_of r.map x / pages_in_block) b) places 0 x d.unnamed (omega arith) (omega arith))));
      }
    where
      gone : (t : Bool) (g : ℕ) → ltb g none && eqb (g / pages_in_block) b ≡ false → ltb (cond t none g) none && eqb (cond t none g / pages_in_block) b ≡ false
      gone true g e = refl
      gone false g e = e

  first_dead : (file offset : ℕ) → Dead b img (removed r file offset) → Staged (Dead b) img (removed_first img r file offset)
  unfolding removed_first commit_replaced
  first_dead file offset d =
      let w = commit_dead b img (begin img (removed r file offset)) (sym (play_all_nil img), λ l. d) in
      (w.0, λ l. let e = w.1 l in record { inside = e.inside; events = e.events; unchosen = e.unchosen; unnamed = e.unnamed })

  first_long : (file offset : ℕ) → Staged (Long (length img)) img (removed_first img r file offset)
  unfolding removed_first commit_replaced
  first_long file offset = commit-long (length img) img (begin img (removed r file offset)) (sym (play_all_nil img), λ l. refl)

  abbrev Emptied : Outcome → Type 0
  Emptied o = block_empty (play_all o.steps img) b ≡ true

  abbrev Undead : Outcome → Type 0
  Undead o = is_dead (play_all o.steps img) o.after b ≡ false

  purge_empties : (call : Call) → T (purges call) → (outcome_of call img r).reply ≡ Done → Dead b img r → Emptied (outcome_of call img r)
  purge_empties (mount map letters scratch) t d dead = absurd t
  purge_empties (write file offset given) t d dead = absurd t
  purge_empties (read file offset output) t d dead = absurd t
  purge_empties (cut_off file offset) t d dead = absurd t
  purge_empties (commit noise) t d dead =
      let e = commit_outcome img r noise d in
      subst Emptied (sym e)
      (stages_empty b noise img (begin img (cleaned r)) (subst (λ (o : Outcome). AllLegal img o.steps) e (commit-legal img r noise))
      (sym (play_all_nil img), λ l. record { inside = dead.inside; events = dead.events; unchosen = dead.unchosen; unnamed = dead.unnamed }))
  purge_empties (wipe noise file offset) t d dead =
      let e = wipe_outcome img r noise file offset d in
      let w = wipe_taken_lem img r noise file offset d in
      subst Emptied (sym e)
      (stages_empty b noise img (removed_first img r file offset) (subst (λ (o : Outcome). AllLegal img o.steps) e (wipe-legal img r noise file offset))
      (first_dead file offset (removed_dead file offset w.ready.buffers w.planned.offset_right dead)))
  purge_empties (gather block) t d dead = absurd t

  purge_undead : size_right img ≡ true → (call : Call) → T (purges call) → (outcome_of call img r).reply ≡ Done → Undead (outcome_of call img r)
  purge_undead size (mount map letters scratch) t d = absurd t
  purge_undead size (write file offset given) t d = absurd t
  purge_undead size (read file offset output) t d = absurd t
  purge_undead size (cut_off file offset) t d = absurd t
  purge_undead size (commit noise) t d =
      let e = commit_outcome img r noise d in
      subst Undead (sym e)
      (stages_none b noise img (begin img (cleaned r)) (subst (λ (o : Outcome). AllLegal img o.steps) e (commit-legal img r noise)) size
      (sym (play_all_nil img), λ l. refl))
  purge_undead size (wipe noise file offset) t d =
      let e = wipe_outcome img r noise file offset d in
      subst Undead (sym e)
      (stages_none b noise img (removed_first img r file offset) (subst (λ (o : Outcome). AllLegal img o.steps) e (wipe-legal img r noise file offset)) size
      (first_long file offset))
  purge_undead size (gather block) t d = absurd t

-- ---- the machines
module _ (x : Purge) (b : ℕ) where
  abbrev m : Machine
  m = x.before

  size : size_right m.image ≡ true
  size = (standing m x.history).settled.sound.mountable.size

  played : (after_purge x).image ≡ play_all (outcome_at m x.event).steps m.image
  unfolding step left
  played = play_all_lem x.event.n x.event.k (outcome_at m x.event).steps m.image (on_uncut m x.event (purge-on x))

  -- a block that is dead before it is empty after it
  pub dead_block_empty : is_dead x.before.image x.before.store b ≡ true → block_empty (after_purge x).image b ≡ true
  dead_block_empty dead =
      ap (λ (i : List ℕ). block_empty i b) played
      ∙ purge_empties b m.image m.store x.event.call x.purging (succeeded m x.event x.done).1 (dead_is m.image m.store b size dead)

  -- and no block is dead then
  pub commit_leaves_no_dead_block : is_dead (after_purge x).image (after_purge x).store b ≡ false
  unfolding step left
  commit_leaves_no_dead_block =
      ap (λ (i : List ℕ). is_dead i (outcome_at m x.event).after b) played
      ∙ purge_undead b m.image m.store size x.event.call x.purging (succeeded m x.event x.done).1

-- ---- a block that was gathered
-- reads, which leave image and record
abbrev pub is_read : Call → Bool
is_read (mount map letters scratch) = false
is_read (write file offset given) = false
is_read (read file offset output) = true
is_read (cut_off file offset) = false
is_read (commit noise) = false
is_read (wipe noise file offset) = false
is_read (gather block) = false

abbrev pub Reading : Event → Type 0
Reading e = T (is_read e.call)

record Same (m m' : Machine) : Type 0 where
  history : History m'
  on : T m'.on
  image : m'.image ≡ m.image
  store : m'.store ≡ m.store

read_same : (m : Machine) (h : History m) → T m.on → (call : Call) (n k : ℕ) → T (is_read call) → Same m (step m (record { call = call; n = n; k = k }))
unfolding step left play
read_same m h on (mount map letters scratch) n k t = absurd t
read_same m h on (write file offset given) n k t = absurd t
read_same m h on (read file offset output) n k t =
    let e : Event = record { call = read file offset output; n = n; k = k } in
    let o = read_stepless m.image m.store file offset output in
    record {
      history = next m h e (while_on m on false, tt);
      on = rw (ap (λ (o : Outcome). o.steps) o, le-ltb n 0 (omega arith)) tt;
      image = rw (ap (λ (o : Outcome). o.steps) o);
      store = ap (λ (o : Outcome). o.after) o;
    }
read_same m h on (cut_off file offset) n k t = absurd t
read_same m h on (commit noise) n k t = absurd t
read_same m h on (wipe noise file offset) n k t = absurd t
read_same m h on (gather block) n k t = absurd t

reads_same : (m : Machine) (h : History m) → T m.on → (es : List Event) → Each Reading es → Same m (end_of m es)
reads_same m h on [] r = record { history = h; on = on; image = refl; store = refl }
reads_same m h on (e ∷ es) r =
    let one = read_same m h on e.call e.n e.k r.0 in
    let more = reads_same (step m e) one.history one.on es r.1 in
    record { history = more.history; on = more.on; image = more.image ∙ one.image; store = more.store ∙ one.store }

uncut_on : (m : Machine) (e : Event) → is_cut e (outcome_at m e) ≡ false → T (step m e).on
unfolding step
uncut_on m e q = rw q tt

-- a gather that is done, then reads at will, then a commit or wipe that is done: the block is empty
pub gathered_block_empty : (m : Machine) → History m → T m.on → (block n k : ℕ) → (left_at m (record { call = gather block; n = n; k = k })).reply ≡ Done
    → (es : List Event) → Each Reading es → (e : Event) → T (purges e.call)
    → (left_at (end_of (step m (record { call = gather block; n = n; k = k })) es) e).reply ≡ Done
    → block_empty (step (end_of (step m (record { call = gather block; n = n; k = k })) es) e).image block ≡ true
gathered_block_empty m h on block n k done es reading e purging ended =
    let g : Event = record { call = gather block; n = n; k = k } in
    let w = succeeded m g done in
    let later = reads_same (step m g) (next m h g (while_on m on false, tt)) (uncut_on m g w.0) es reading in
    let x : Purge = record { before = end_of (step m g) es; history = later.history; on = later.on; event = e; purging = purging; done = ended } in
    dead_block_empty x block (rw (later.image, later.store) (gathered_block_dead m block n k w.1 (ltb-false n (length (outcome_at m g).steps) w.0)))
