-- `sub_mix` makes a mixed column of the S-box bytes of four bytes, by the round table.
use Rattle.cipher.proofs.RoundLaws.{mixed}
use Rattle.cipher.proofs.rounds.sub_mix.Goals as goal

pub returns : goal.returns
returns c =
    let m0 = c.mix_row in
    let m1 = c.mix_row-2 in
    let m2 = c.mix_row-3 in
    let m3 = c.mix_row-4 in
    mixed m0.result m1.result m2.result m3.result m0.ensures m1.ensures m2.ensures m3.ensures
