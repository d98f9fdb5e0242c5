-- Document 01, "Calls and their refusals", Mount: what one pass over the blocks finds, block by block.
use Rattle.std.specs.Prelude.{ℕ, ◌+◌, ◌*◌, ◌<◌, ◌≤◌, max, Bool, cond, List, ltb, Option, Some, None}
use Rattle.base.specs.Search.{highest_from}
use Rattle.page.specs.Header.{last_number}
use Rattle.image.specs.Size.{pages_in_block, most_blocks}
use Rattle.image.specs.Look.{letter_at}
use Rattle.store.specs.Kind.{is_block_letter, kind_of, keys_epoch, commit_epoch, covered_by}
use Rattle.store.specs.Find.{found_at}
use Rattle.store.specs.Mount.{rank_of, foremost, covered_in, epoch_of}
use Rattle.store.specs.declared.Kind.{Kind}
use Rattle.store.specs.declared.Numbers.{Numbers}
use Rattle.store.specs.declared.mount.Chosen.{Chosen}
use Rattle.store.specs.declared.survey.Best.{Best}
use Rattle.store.specs.declared.survey.Survey.{Survey}

-- ---- what the first n blocks give
-- the foremost by a rank, and its rank
abbrev pub best_of : (ℕ → ℕ) → ℕ → Best
best_of rank n = record { at = foremost rank n; epoch = rank_of rank (foremost rank n) }

-- the covered sequence of the commit in the block found
abbrev pub covered_at : List ℕ → Option ℕ → ℕ
covered_at img (Some b) = covered_in img b
covered_at img None = 0

unfoldable pub survey_of : List ℕ → ℕ → Survey
survey_of img n =
    record {
      commit = best_of (λ b. commit_epoch (kind_of img b)) n;
      covered = covered_at img (foremost (λ b. commit_epoch (kind_of img b)) n);
      keys0 = best_of (λ b. keys_epoch 0 (kind_of img b)) n;
      keys1 = best_of (λ b. keys_epoch 1 (kind_of img b)) n;
      highest = highest_from (epoch_of img) n 0;
    }

-- ---- the same as a loop has it: the first state, and one more block
abbrev pub no_best : Best
no_best = record { at = None; epoch = 0 }

abbrev pub better_by : Best → ℕ → ℕ → Best
better_by best b e = cond (ltb best.epoch e) (record { at = Some b; epoch = e }) best

abbrev pub covered_next : Best → ℕ → Kind → ℕ
covered_next best covered k = cond (ltb best.epoch (commit_epoch k)) (covered_by k) covered

-- the epoch of a whole key or commit block
abbrev pub epoch_in : Kind → ℕ
epoch_in k = max (commit_epoch k) (max (keys_epoch 0 k) (keys_epoch 1 k))

abbrev pub no_survey : Survey
no_survey = record { commit = no_best; covered = 0; keys0 = no_best; keys1 = no_best; highest = 0 }

unfoldable pub survey_next : Survey → ℕ → Kind → Survey
survey_next s b k =
    record {
      commit = better_by s.commit b (commit_epoch k);
      covered = covered_next s.commit s.covered k;
      keys0 = better_by s.keys0 b (keys_epoch 0 k);
      keys1 = better_by s.keys1 b (keys_epoch 1 k);
      highest = max s.highest (epoch_in k);
    }

-- ---- the blocks that can be whole: those that begin with K or C
abbrev pub is_lettered : List ℕ → ℕ → Bool
is_lettered img b = is_block_letter (letter_at img (b * pages_in_block))

-- ---- the blocks found
abbrev pub blocks_found : Survey → Chosen
blocks_found s = record { commit = found_at s.commit.at; keys0 = found_at s.keys0.at; keys1 = found_at s.keys1.at }

-- ---- the record's numbers: one above the highest sequence and epoch, and the chosen blocks
unfoldable pub survey_numbers : Survey → ℕ → Numbers
survey_numbers s highest =
    record {
      sequence = max s.covered highest + 1;
      epoch = s.highest + 1;
      keys0 = found_at s.keys0.at;
      keys1 = found_at s.keys1.at;
      commit = found_at s.commit.at;
    }

-- sequences, epochs and blocks in their range
pub record Surveyed (s : Survey) (highest : ℕ) : Type 0 where
  pub covered_most : s.covered ≤ last_number
  pub sequence_most : highest ≤ last_number
  pub epoch_most : s.highest ≤ last_number
  pub keys0_inside : found_at s.keys0.at < most_blocks
  pub keys1_inside : found_at s.keys1.at < most_blocks
  pub commit_inside : found_at s.commit.at < most_blocks
