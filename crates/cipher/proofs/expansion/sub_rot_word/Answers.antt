-- `sub_rot_word` is RotWord, then SubWord: it reads four entries of the S-box.
use mathlib.Core.Path.{ap, ◌∙◌}
use mathlib.Core.List.{List}
use Prim.Native.Nat.{ℕ}
use native.Mathlib.Omega.{arith}
use lib.ListN.{get_or}
use Rattle.cipher.specs.Words.{byte0, byte1, byte2, byte3}
use Rattle.cipher.proofs.WordLaws.{four_eq}
use Rattle.cipher.proofs.RoundLaws.{s_box-entry}
use Rattle.cipher.proofs.expansion.sub_rot_word.Goals as goal

pub returns : goal.returns
returns c =
    let t = c.of_s_box-sbox.result.now in
    let e = c.of_s_box-sbox.ensures in
    let x = c.args.x in
    let byte : ℕ → List ℕ → ℕ = λ r l. get_or t (get_or l r 0) 0 in
    let at = c.to_le_bytes.ensures in
    c.from_le_bytes.ensures
    ∙ four_eq (ap (byte 1) at ∙ s_box-entry e (byte1 x) (omega arith)) (ap (byte 2) at ∙ s_box-entry e (byte2 x) (omega arith))
    (ap (byte 3) at ∙ s_box-entry e (byte3 x) (omega arith)) (ap (byte 0) at ∙ s_box-entry e (byte0 x) (omega arith))
