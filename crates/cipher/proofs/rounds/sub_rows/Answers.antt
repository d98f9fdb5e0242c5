-- `sub_rows` reads byte 1 of four entries of the round table.
use mathlib.Core.Path.{ap, ◌∙◌}
use mathlib.Core.List.{List}
use Prim.Native.Nat.{ℕ, ◌+◌, ◌*◌}
use native.Mathlib.Omega.{arith}
use lib.ListN.{get_or}
use Rattle.cipher.specs.Words.{byte0, byte1, byte2, byte3}
use Rattle.cipher.proofs.WordLaws.{four_eq}
use Rattle.cipher.proofs.RoundLaws.{s_box-byte}
use Rattle.cipher.proofs.rounds.sub_rows.Goals as goal

pub returns : goal.returns
returns c =
    let t = c.of_rounds-table.result.now in
    let e = c.of_rounds-table.ensures in
    let byte : ℕ → List ℕ → ℕ = λ r l. get_or t (8 * get_or l r 0 + 1) 0 in
    c.from_le_bytes.ensures
    ∙ four_eq (ap (byte 0) c.to_le_bytes.ensures ∙ s_box-byte e (byte0 c.args.a) (omega arith)) (ap (byte 1) c.to_le_bytes-2.ensures ∙ s_box-byte e (byte1 c.args.b) (omega arith))
    (ap (byte 2) c.to_le_bytes-3.ensures ∙ s_box-byte e (byte2 c.args.c) (omega arith)) (ap (byte 3) c.to_le_bytes-4.ensures ∙ s_box-byte e (byte3 c.args.d) (omega arith))
