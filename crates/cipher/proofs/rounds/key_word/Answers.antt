-- `key_word` reads the four bytes of a word.
use native.Mathlib.Omega.{arith}
use mathlib.Core.Path.{sym, ◌∙◌}
use Prim.Native.Nat.{◌*◌}
use Rattle.cipher.proofs.WordLaws.{four-part}
use Rattle.cipher.proofs.rounds.key_word.Goals as goal

pub returns : goal.returns
returns c = c.word_at.ensures ∙ sym (four-part c.args.w.now (4 * c.args.i) (omega arith))
