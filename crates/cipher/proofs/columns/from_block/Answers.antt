-- `from_block` gives the state of 16 bytes.
use mathlib.Core.Path.{◌∙◌}
use Rattle.cipher.specs.State.{state}
use Rattle.cipher.proofs.WordLaws.{words_eq, words_all}
use Rattle.cipher.proofs.columns.from_block.Goals as goal

pub returns : goal.returns
unfolding state
returns c =
    words_eq c.from_le_bytes.ensures c.from_le_bytes-2.ensures c.from_le_bytes-3.ensures c.from_le_bytes-4.ensures
    ∙ words_all c.args.b c.well_formed.0.1.0.1
