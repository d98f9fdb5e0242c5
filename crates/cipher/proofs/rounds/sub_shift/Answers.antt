-- `sub_shift` is SubBytes and ShiftRows.
use Rattle.cipher.specs.State.{state}
use Rattle.cipher.specs.Cipher.{sub_bytes, shift_rows}
use Rattle.cipher.proofs.WordLaws.{words_eq}
use Rattle.cipher.proofs.rounds.sub_shift.Goals as goal

pub returns : goal.returns
unfolding state shift_rows sub_bytes
returns c = words_eq c.sub_rows-c0.ensures c.sub_rows-c1.ensures c.sub_rows-c2.ensures c.sub_rows-c3.ensures
