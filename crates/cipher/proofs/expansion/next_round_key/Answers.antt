-- `next_round_key` makes the four words of the next round key.
use mathlib.Core.Path.{refl, ◌∙◌, ap₂}
use native.Mathlib.Omega.{arith}
use Rattle.cipher.specs.Words.{xor_bytes}
use Rattle.cipher.proofs.WordLaws.{four_eq, word_xor}
use Rattle.cipher.proofs.Schedule.{next_words}
use Rattle.cipher.proofs.expansion.next_round_key.Goals as goal

pub returns : goal.returns
returns c =
    let w = c.sub_rot_word in
    next_words c.args.k c.args.constant _
    (word_xor w.result c.args.constant ∙ ap₂ xor_bytes w.ensures (four_eq (omega arith) (omega arith) (omega arith) (omega arith)))
    _ refl refl refl refl
