-- Document 01, "Calls and their refusals": Format.
use Rattle.std.specs.Prelude.{ℕ, Bool, ◌&&◌, List, [], ◌∷◌, ◌++◌, length, replicate, eqb}
use Rattle.base.specs.Fold.{list_from}
use Rattle.page.specs.Key.{positions, key_in_noise}
pub use Rattle.page.specs.Key.{noise_size}
use Rattle.page.specs.Entry.{none, free_letter}
use Rattle.image.specs.Size.{size_right, blocks}
use Rattle.image.specs.Step.{Step, erase}
use Rattle.image.specs.Block.{key_block_steps, commit_block_steps}
use Rattle.store.specs.Reply.{Test, ◌else◌, verdict}
use Rattle.store.specs.Record.{Record, map_size}
use Rattle.store.specs.Outcome.{Outcome, Left, decided}
use Rattle.store.specs.declared.Numbers.{Numbers}
use Rattle.store.specs.declared.Error.TheVariants.{ImageSize, BufferLength, NoiseLength}

abbrev pub buffers_right : List ℕ → List ℕ → Bool
buffers_right map letters = eqb (length map) map_size && eqb (length letters) positions

-- refusals 1 and 2 of every call but mount
abbrev pub lent_tests : List ℕ → List ℕ → List ℕ → List Test
lent_tests img map letters = (size_right img else ImageSize) ∷ (buffers_right map letters else BufferLength) ∷ []

-- refusal 3
abbrev pub noise_tests : List ℕ → List Test
noise_tests noise = (eqb (length noise) noise_size else NoiseLength) ∷ []

-- and 3 of those that bring keys; it is all that format tests
abbrev pub format_tests : List ℕ → List ℕ → List ℕ → List ℕ → List Test
format_tests img map letters noise = lent_tests img map letters ++ noise_tests noise

-- what a refused format or mount returns: all 0
abbrev pub no_numbers : Numbers
no_numbers = record { sequence = 0; epoch = 0; keys0 = 0; keys1 = 0; commit = 0 }

-- the epoch of a new volume
abbrev pub first_epoch : ℕ
first_epoch = 1

-- next numbers 1 and 2; key blocks 0 and 1 in blocks 0 and 1, the commit in block 2
abbrev pub format_numbers : Numbers
format_numbers = record { sequence = 1; epoch = 2; keys0 = 0; keys1 = 1; commit = 2 }

-- the map is all 65,535, the letters all f
abbrev pub formatted : Record
formatted = record { map = replicate map_size none; letters = replicate positions free_letter; numbers = format_numbers }

-- every block is erased; then both key blocks from the noise, and a commit without entries that covers nothing, of the first epoch
unfoldable pub format_steps : List ℕ → List ℕ → List Step
format_steps img noise =
    list_from erase (blocks img) 0
    ++ (key_block_steps first_epoch 0 format_numbers.keys0 (key_in_noise noise)
    ++ (key_block_steps first_epoch 1 format_numbers.keys1 (key_in_noise noise)
    ++ commit_block_steps first_epoch 0 format_numbers.commit formatted.map formatted.letters))

unfoldable pub format_of : List ℕ → List ℕ → List ℕ → List ℕ → Outcome
format_of img map letters noise =
    decided (verdict (format_tests img map letters noise)) (format_steps img noise) formatted [] (record { map = map; letters = letters; numbers = no_numbers }) []

-- what a format leaves, whole or cut: the equation of its contracts
abbrev pub format_leaves : (Outcome → List ℕ → Left) → List ℕ → List ℕ → List ℕ → List ℕ → Left
format_leaves form img map letters noise = form (format_of img map letters noise) img
