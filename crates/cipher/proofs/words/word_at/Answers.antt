-- `word_at` reads four bytes, one after the other.
use mathlib.Core.Path.{◌∙◌}
use Rattle.cipher.proofs.WordLaws.{four-part}
use Rattle.cipher.proofs.words.word_at.Goals as goal

pub returns : goal.returns
returns c = c.from_le_bytes.ensures ∙ four-part c.args.src.now c.args.at c.requires
