-- Document 01, "Calls and their refusals": Commit. Each block is replaced in turn, and each choice is made from the image as it then is.
use Rattle.std.specs.Prelude.{ℕ, ◌+◌, ◌-◌, cond, List, [], ◌∷◌, ◌++◌, map, eqb, leb}
use Rattle.base.specs.Search.{which_from}
use Rattle.page.specs.Header.{last_number}
use Rattle.page.specs.Entry.{free_letter, deleted_letter}
use Rattle.image.specs.Size.{blocks}
use Rattle.image.specs.Look.{block_at, lowest_empty, empty_blocks}
use Rattle.image.specs.Step.{Step, erase, play_all}
use Rattle.image.specs.Block.{renewed_key, key_block_steps, commit_block_steps}
use Rattle.store.specs.Reply.{Test, ◌else◌, verdict}
use Rattle.store.specs.Record.{Record, record_of, with_numbers, is_dead}
use Rattle.store.specs.Outcome.{Outcome, Left, decided}
use Rattle.store.specs.Format.{format_tests}
use Rattle.store.specs.Write.{fit_tests, keys_block}
use Rattle.store.specs.declared.Numbers.{Numbers}
use Rattle.store.specs.declared.Error.TheVariants.{NoRoom, NumbersSpent}

-- the tests that commit and wipe end with; a call uses one epoch and so many more
abbrev pub renewal_tests : List ℕ → Record → ℕ → List Test
renewal_tests img r more =
    fit_tests img r ++ ((leb (r.numbers.epoch + more) last_number else NumbersSpent) ∷ (leb 1 (empty_blocks img) else NoRoom) ∷ [])

abbrev pub commit_tests : List ℕ → Record → List ℕ → List Test
commit_tests img r noise = format_tests img r.map r.letters noise ++ renewal_tests img r 0

-- ---- replacing one block: the copy goes to the lowest empty one, and then the block copied from is erased
unfoldable pub replace_keys : List ℕ → Record → List ℕ → ℕ → List Step
replace_keys img r noise q =
    let old = keys_block r.numbers q in
    key_block_steps r.numbers.epoch q (lowest_empty img) (renewed_key (block_at img old) r.letters noise) ++ (erase old ∷ [])

-- covered is next sequence less 1
unfoldable pub replace_commit : List ℕ → Record → List Step
replace_commit img r =
    commit_block_steps r.numbers.epoch (r.numbers.sequence - 1) (lowest_empty img) r.map r.letters
    ++ (erase r.numbers.commit ∷ [])

-- the record's numbers after a block was replaced by one in block b
abbrev pub with_keys : Numbers → ℕ → ℕ → Numbers
with_keys r q b =
    record { sequence = r.sequence; epoch = r.epoch; keys0 = cond (eqb q 0) b r.keys0; keys1 = cond (eqb q 0) r.keys1 b; commit = r.commit }

abbrev pub with_commit : Numbers → ℕ → Numbers
with_commit r b = record { sequence = r.sequence; epoch = r.epoch; keys0 = r.keys0; keys1 = r.keys1; commit = b }

abbrev pub next_epoch : Numbers → Numbers
next_epoch r =
    record { sequence = r.sequence; epoch = r.epoch + 1; keys0 = r.keys0; keys1 = r.keys1; commit = r.commit }

-- ---- a call in stages: the steps so far, the image that they leave, and the record then
pub record Stage : Type 0 where
  pub steps : List Step
  pub image : List ℕ
  pub after : Record

abbrev pub begin : List ℕ → Record → Stage
begin img r = record { steps = []; image = img; after = r }

abbrev pub onward : Stage → List Step → Record → Stage
onward s more r = record { steps = s.steps ++ more; image = play_all more s.image; after = r }

unfoldable pub keys_replaced : List ℕ → ℕ → Stage → Stage
keys_replaced noise q s =
    onward s (replace_keys s.image s.after noise q) (with_numbers s.after (with_keys s.after.numbers q (lowest_empty s.image)))

unfoldable pub commit_replaced : Stage → Stage
commit_replaced s =
    onward s (replace_commit s.image s.after) (with_numbers s.after (with_commit s.after.numbers (lowest_empty s.image)))

-- each data block without a live page
unfoldable pub dead_erased : Stage → Stage
dead_erased s = onward s (map erase (which_from (is_dead s.image s.after) (blocks s.image) 0)) s.after

-- ---- the call
-- u and f only: each d becomes f
abbrev pub clean_letter : ℕ → ℕ
clean_letter l = cond (eqb l deleted_letter) free_letter l

abbrev pub cleaned : Record → Record
cleaned r = record { map = r.map; letters = map clean_letter r.letters; numbers = r.numbers }

-- both key blocks, the commit block, and what has no live page any more; the copies are of one epoch
unfoldable pub commit_stages : List ℕ → Stage → Stage
commit_stages noise s =
    let t = dead_erased (commit_replaced (keys_replaced noise 1 (keys_replaced noise 0 s))) in
    record { steps = t.steps; image = t.image; after = with_numbers t.after (next_epoch t.after.numbers) }

unfoldable pub commit_of : List ℕ → Record → List ℕ → Outcome
commit_of img r noise =
    let s = commit_stages noise (begin img (cleaned r)) in
    decided (verdict (commit_tests img r noise)) s.steps s.after [] r []

-- what a commit leaves, whole or cut: the equation of its contracts
abbrev pub commit_leaves : (Outcome → List ℕ → Left) → List ℕ → List ℕ → List ℕ → Numbers → List ℕ → Left
commit_leaves form img map letters numbers noise = form (commit_of img (record_of map letters numbers) noise) img
