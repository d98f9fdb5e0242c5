-- Document 01, "Calls and their refusals": the stages of Commit and Wipe on a flash whose power may fail on the way.
-- Each takes the block that it would take with power, so that the record does not depend on the cut; proofs/Follows ties them to the stages of specs/Commit.
use Rattle.std.specs.Prelude.{ℕ, ◌-◌, ◌<◌, ◌≡◌, Bool, true, false, not, ◌&&◌, ◌||◌, List, [], ◌∷◌, ◌++◌, map, length, get_or}
use Rattle.base.specs.Search.{first_from, any_from, which_from}
use Rattle.page.specs.Plan.{places}
use Rattle.image.specs.Size.{most_blocks, blocks, size_right}
use Rattle.image.specs.Look.{block_at, block_empty}
use Rattle.image.specs.Step.{Step, erase}
use Rattle.image.specs.Power.{Device, device, power_for, run}
use Rattle.image.specs.Block.{renewed_key, key_block_steps, commit_block_steps}
use Rattle.store.specs.Kind.{is_chosen, is_data}
unfoldable pub use Rattle.store.specs.Record.{live_in, has_live}
use Rattle.store.specs.Write.{keys_block}
use Rattle.store.specs.Commit.{Stage, with_keys, with_commit, next_epoch}
use Rattle.image.specs.declared.Power.{Power}
use Rattle.store.specs.declared.Numbers.{Numbers}
use Rattle.store.specs.declared.stages.Progress.{Progress}

-- ---- the block that a new copy goes to
-- a block is spare if the record has not chosen it, and either had chosen it when the call began, so that it was erased since, or it is empty
unfoldable pub is_spare : List ℕ → Numbers → Numbers → ℕ → Bool
is_spare img first now b = not (is_chosen now b) && (is_chosen first b || block_empty img b)

unfoldable pub lowest_spare : List ℕ → Numbers → Numbers → ℕ
lowest_spare img first now = first_from (is_spare img first now) (blocks img) 0

-- ---- one stage after the other
-- a call at work: the flash with its power, and the record's numbers so far
pub record Work : Type 0 where
  pub flash : Device
  pub numbers : Numbers

abbrev pub at_work : Progress → List ℕ → Work
at_work p img = record { flash = device p.power img; numbers = p.numbers }

-- a call that begins, with power for n steps and k bytes of the next
abbrev pub begun : ℕ → ℕ → Numbers → Progress
begun n k r = record { power = power_for n k; numbers = r }

-- what a power leaves after the steps of a stage: the flash, and the numbers then
abbrev pub after : Power → List ℕ → Stage → Work
after p img s = record { flash = run s.steps (device p img); numbers = s.after.numbers }

-- key block q copied into block b with new keys for all that is not used; then the old one erased
unfoldable pub keys_into : List ℕ → List ℕ → Numbers → ℕ → ℕ → List ℕ → List Step
keys_into letters noise r q b img =
    key_block_steps r.epoch q b (renewed_key (block_at img (keys_block r q)) letters noise) ++ (erase (keys_block r q) ∷ [])

unfoldable pub keys_moved : List ℕ → List ℕ → Numbers → ℕ → Work → Work
keys_moved letters noise first q w =
    let b = lowest_spare w.flash.image first w.numbers in
    record { flash = run (keys_into letters noise w.numbers q b w.flash.image) w.flash; numbers = with_keys w.numbers q b }

-- a commit of map and letters into block b; then the old one erased
unfoldable pub commit_into : List ℕ → List ℕ → Numbers → ℕ → List Step
commit_into map letters r b = commit_block_steps r.epoch (r.sequence - 1) b map letters ++ (erase r.commit ∷ [])

unfoldable pub commit_moved : List ℕ → List ℕ → Numbers → Work → Work
commit_moved map letters first w =
    let b = lowest_spare w.flash.image first w.numbers in
    record { flash = run (commit_into map letters w.numbers b) w.flash; numbers = with_commit w.numbers b }

-- a data block without a live page
abbrev pub is_unused : List ℕ → List ℕ → Numbers → ℕ → Bool
is_unused img map r b = is_data img r b && not (has_live map b)

-- a table filled for the places before x: a block with a live page is marked in it, or has one at a place from x on
pub record LiveMarked (map : List ℕ) (marked : List Bool) (x : ℕ) : Type 0 where
  pub size : length marked ≡ most_blocks
  pub told : (b : ℕ) → b < most_blocks → has_live map b ≡ get_or marked b false || any_from (live_in map b) (places - x) x

-- the erases of blocks in order
abbrev pub erases : List ℕ → List Step
erases bs = map erase bs

unfoldable pub unused_erases : List ℕ → Numbers → List ℕ → List Step
unused_erases map r img = erases (which_from (is_unused img map r) (blocks img) 0)

unfoldable pub renewed : List ℕ → List ℕ → List ℕ → Numbers → Work → Work
renewed map letters noise first w =
    let s = commit_moved map letters first (keys_moved letters noise first 1 (keys_moved letters noise first 0 w)) in
    record { flash = run (unused_erases map s.numbers s.flash.image) s.flash; numbers = next_epoch s.numbers }

-- ---- what a stage needs: blocks of the image, no two the same, and one that is spare
pub record Able (img : List ℕ) (first now : Numbers) : Type 0 where
  pub size : size_right img ≡ true
  pub keys0 : now.keys0 < blocks img
  pub keys1 : now.keys1 < blocks img
  pub commit : now.commit < blocks img
  pub keys_apart : now.keys0 ≡ now.keys1 → ⊥
  pub keys0_apart : now.keys0 ≡ now.commit → ⊥
  pub keys1_apart : now.keys1 ≡ now.commit → ⊥
  pub spare : lowest_spare img first now < blocks img
