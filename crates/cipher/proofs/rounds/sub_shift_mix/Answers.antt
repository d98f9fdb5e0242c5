-- `sub_shift_mix` is SubBytes, ShiftRows and MixColumns.
use Rattle.cipher.specs.State.{state}
use Rattle.cipher.specs.Cipher.{sub_bytes, shift_rows, mix_columns}
use Rattle.cipher.proofs.WordLaws.{words_eq}
use Rattle.cipher.proofs.rounds.sub_shift_mix.Goals as goal

pub returns : goal.returns
unfolding state mix_columns shift_rows sub_bytes
returns c = words_eq c.sub_mix-c0.ensures c.sub_mix-c1.ensures c.sub_mix-c2.ensures c.sub_mix-c3.ensures
