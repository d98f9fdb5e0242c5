-- `mix_row` reads four bytes of an entry of the round table.
use mathlib.Core.Path.{◌∙◌, ap}
use Prim.Native.Nat.{ℕ, ◌/◌, ◌%◌, ◌^◌, ◌*◌}
use native.Mathlib.Omega.{arith}
use Rattle.cipher.specs.SBox.{s_box}
use Rattle.cipher.specs.Table.{row}
use Rattle.cipher.proofs.WordLaws.{byte-shifted}
use Rattle.cipher.proofs.RoundLaws.{round_row}
use Rattle.cipher.proofs.rounds.mix_row.Goals as goal

pub returns : goal.returns
returns g c =
    let r = g.row.ROW in
    let x = c.args.x in
    let h = c.requires in
    c.word_at.ensures
    ∙ round_row c.of_rounds.ensures (x / 2 ^ (8 * r) % 0x100) (omega arith) r h
    ∙ ap (λ (b : ℕ). row r (s_box b)) (byte-shifted r x h)
