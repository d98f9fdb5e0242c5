-- `to_block` gives the 16 bytes of a state.
use mathlib.Core.Path.{ap}
use mathlib.Core.List.{List}
use Prim.Native.Nat.{ℕ}
use Rattle.cipher.specs.Words.{word}
use Rattle.cipher.specs.State.{state}
use Rattle.cipher.proofs.WordLaws.{words_eq}
use Rattle.cipher.proofs.columns.to_block.Goals as goal

pub returns : goal.returns
unfolding state
returns c =
    let first : List ℕ → List ℕ = λ b. word b 0 in
    words_eq (ap first c.to_le_bytes.ensures) (ap first c.to_le_bytes-2.ensures) (ap first c.to_le_bytes-3.ensures) (ap first c.to_le_bytes-4.ensures)
