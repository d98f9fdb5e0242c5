-- The number of flash steps of each call where it is taken.
use Prim.Native.Nat.{ℕ, suc, ◌+◌, ◌*◌, ◌≤◌}
use native.Mathlib.Omega.{arith}
use native.Mathlib.Nat.{zero-add}
use mathlib.Core.Path.{◌≡◌, refl, ap, ◌∙◌}
use mathlib.Core.Bool.{Bool}
use mathlib.Core.List.{List, [], ◌∷◌, map}
use lib.ListN.{length, length-append, length-map}
use Rattle.base.specs.Search.{count_from, which_from}
use Rattle.base.proofs.Searches.{count_most, length_which}
use Rattle.base.proofs.Folds.{length-list_from}
use Rattle.page.specs.Entry.{parts}
use Rattle.image.specs.Size.{pages_in_block, blocks}
use Rattle.image.specs.Look.{block_at, lowest_empty}
use Rattle.image.specs.Step.{erase}
use Rattle.image.specs.Block.{renewed_key, key_block_steps}
use Rattle.image.proofs.KeyBlock.{key_block_count}
use Rattle.image.proofs.CommitBlock.{commit_block_count}
use Rattle.store.specs.Record.{Record, is_dead}
use Rattle.store.specs.Format.{format_steps, format_of}
use Rattle.store.specs.Mount.{mounted, is_swept, mount_steps, mount_of}
use Rattle.store.specs.Write.{keys_block, append_steps, append_of}
use Rattle.store.specs.Read.{read_of}
use Rattle.store.specs.CutOff.{removed, cut_off_steps, cut_off_of}
use Rattle.store.specs.Commit.{Stage, begin, cleaned, replace_keys, replace_commit, keys_replaced, commit_replaced, dead_erased, commit_stages, commit_of}
use Rattle.store.specs.Wipe.{removed_first, wipe_of}
use Rattle.store.specs.Gather.{live_pages, copy_steps, gather_of}
use Rattle.store.specs.Outcome.{Outcome}
use Rattle.store.specs.Reply.{Done}
use Rattle.store.proofs.Outcomes.{format_outcome, mount_outcome, write_outcome, read_stepless, cut_off_outcome, commit_outcome, wipe_outcome, gather_outcome}

-- ---- a block programmed, a block replaced: the new copy's pages, then the erase of the old one
pub replace_keys_count : (img : List ℕ) (r : Record) (noise : List ℕ) (q : ℕ) → length (replace_keys img r noise q) ≡ pages_in_block + 1
unfolding replace_keys
replace_keys_count img r noise q =
    length-append (key_block_steps r.numbers.epoch q (lowest_empty img) (renewed_key (block_at img (keys_block r.numbers q)) r.letters noise)) _
    ∙ rw key_block_count

pub replace_commit_count : (img : List ℕ) (r : Record) → length (replace_commit img r) ≡ parts + 1
unfolding replace_commit
replace_commit_count img r = rw (length-append, commit_block_count)

-- erases of the blocks that a test holds of
erases_count : (p : ℕ → Bool) (n : ℕ) → length (map erase (which_from p n 0)) ≡ count_from p n 0
erases_count p n = length-map (which_from p n 0) erase ∙ length_which p n 0

-- ---- format, mount, write, cut-off
pub format_count : (img noise : List ℕ) → length (format_steps img noise) ≡ blocks img + (2 * pages_in_block + parts)
unfolding format_steps
format_count img noise = simp (length-append, length-list_from, key_block_count, commit_block_count) (omega arith)

pub mount_count : (img : List ℕ) → length (mount_steps img) ≡ count_from (is_swept img (mounted img)) (blocks img) 0
unfolding mount_steps
mount_count img = erases_count (is_swept img (mounted img)) (blocks img)

-- no more than there are blocks
pub mount-few : (img : List ℕ) → length (mount_steps img) ≤ blocks img
mount-few img = rw (mount_count img) (count_most (is_swept img (mounted img)) (blocks img) 0)

pub write_count : (img : List ℕ) (r : Record) (file offset second : ℕ) (bytes : List ℕ) → length (append_steps img r file offset second bytes) ≡ 1
unfolding append_steps
write_count img r file offset second bytes = refl

pub cut_off_count : (img : List ℕ) (r : Record) (file offset : ℕ) → length (cut_off_steps img r file offset) ≡ 1
unfolding cut_off_steps
cut_off_count img r file offset = refl

-- ---- commit and wipe, stage by stage
pub keys_replaced_count : (noise : List ℕ) (q : ℕ) (s : Stage) → length (keys_replaced noise q s).steps ≡ length s.steps + (pages_in_block + 1)
unfolding keys_replaced
keys_replaced_count noise q s = length-append s.steps (replace_keys s.image s.after noise q) ∙ rw replace_keys_count

pub commit_replaced_count : (s : Stage) → length (commit_replaced s).steps ≡ length s.steps + (parts + 1)
unfolding commit_replaced
commit_replaced_count s = length-append s.steps (replace_commit s.image s.after) ∙ rw replace_commit_count

-- the data blocks without a live page
abbrev pub dead_blocks : Stage → ℕ
dead_blocks s = count_from (is_dead s.image s.after) (blocks s.image) 0

pub dead_few : (s : Stage) → dead_blocks s ≤ blocks s.image
dead_few s = count_most (is_dead s.image s.after) (blocks s.image) 0

pub dead_erased_count : (s : Stage) → length (dead_erased s).steps ≡ length s.steps + dead_blocks s
unfolding dead_erased
dead_erased_count s =
    length-append s.steps (map erase (which_from (is_dead s.image s.after) (blocks s.image) 0))
    ∙ rw (erases_count (is_dead s.image s.after) (blocks s.image))

-- a commit before its last erases: the two key blocks and the commit block replaced
abbrev pub replaced : List ℕ → Stage → Stage
replaced noise s = commit_replaced (keys_replaced noise 1 (keys_replaced noise 0 s))

-- the steps up to there: the pages of each new copy, and the erase of each old block
abbrev pub replaced_steps : ℕ
replaced_steps = 2 * (pages_in_block + 1) + (parts + 1)

pub stages_count : (noise : List ℕ) (s : Stage) → length (commit_stages noise s).steps ≡ length s.steps + (replaced_steps + dead_blocks (replaced noise s))
unfolding commit_stages
stages_count noise s =
    let t = keys_replaced noise 0 s in
    let u = keys_replaced noise 1 t in
    omega (arith, dead_erased_count (commit_replaced u), commit_replaced_count u, keys_replaced_count noise 1 t, keys_replaced_count noise 0 s)

pub removed_first_count : (img : List ℕ) (r : Record) (file offset : ℕ) → length (removed_first img r file offset).steps ≡ parts + 1
unfolding removed_first
removed_first_count img r file offset = commit_replaced_count (begin img (removed r file offset)) ∙ zero-add _

-- ---- the calls, where they are taken
pub format_steps_lem : (img map letters noise : List ℕ) → (format_of img map letters noise).reply ≡ Done
    → length (format_of img map letters noise).steps ≡ blocks img + (2 * pages_in_block + parts)
format_steps_lem img map letters noise e = rw (format_outcome img map letters noise e) (format_count img noise)

pub mount_steps_lem : (img map letters scratch : List ℕ) → (mount_of img map letters scratch).reply ≡ Done
    → length (mount_of img map letters scratch).steps ≡ count_from (is_swept img (mounted img)) (blocks img) 0
mount_steps_lem img map letters scratch e = rw (mount_outcome img map letters scratch e) (mount_count img)

pub write-steps : (img : List ℕ) (r : Record) (file offset : ℕ) (right : Bool) (second : ℕ) (bytes : List ℕ) → (append_of img r file offset right second bytes).reply ≡ Done
    → length (append_of img r file offset right second bytes).steps ≡ 1
write-steps img r file offset right second bytes e = rw (write_outcome img r file offset right second bytes e) (write_count img r file offset second bytes)

pub read-steps : (img : List ℕ) (r : Record) (file offset : ℕ) (output : List ℕ) → length (read_of img r file offset output).steps ≡ 0
read-steps img r file offset output = rw (read_stepless img r file offset output)

pub cut_off_steps_lem : (img : List ℕ) (r : Record) (file offset : ℕ) → (cut_off_of img r file offset).reply ≡ Done
    → length (cut_off_of img r file offset).steps ≡ 1
cut_off_steps_lem img r file offset e = rw (cut_off_outcome img r file offset e) (cut_off_count img r file offset)

pub commit-steps : (img : List ℕ) (r : Record) (noise : List ℕ) → (commit_of img r noise).reply ≡ Done
    → length (commit_of img r noise).steps ≡ replaced_steps + dead_blocks (replaced noise (begin img (cleaned r)))
commit-steps img r noise e = rw (commit_outcome img r noise e) (stages_count noise (begin img (cleaned r)) ∙ zero-add _)

pub wipe-steps : (img : List ℕ) (r : Record) (noise : List ℕ) (file offset : ℕ) → (wipe_of img r noise file offset).reply ≡ Done
    → length (wipe_of img r noise file offset).steps ≡ parts + 1 + replaced_steps + dead_blocks (replaced noise (removed_first img r file offset))
wipe-steps img r noise file offset e =
    rw (wipe_outcome img r noise file offset e)
    (omega (arith, stages_count noise (removed_first img r file offset), removed_first_count img r file offset))

-- a gather: a step for each live page of its block, and so no more than a block has pages
copies_count : (block : ℕ) (gs img : List ℕ) (r : Record) → length (copy_steps block gs img r) ≡ length gs
unfolding copy_steps
copies_count block [] img r = refl
copies_count block (g ∷ gs) img r = ap suc (copies_count block gs _ _)

pub gather-steps : (img : List ℕ) (r : Record) (block : ℕ) → (gather_of img r block).reply ≡ Done → length (gather_of img r block).steps ≡ length (live_pages r.map block)
gather-steps img r block e = ap (λ (o : Outcome). length o.steps) (gather_outcome img r block e) ∙ copies_count block (live_pages r.map block) img r
