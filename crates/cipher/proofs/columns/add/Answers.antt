-- `add` adds two states byte by byte.
use Rattle.cipher.specs.State.{state}
use Rattle.cipher.proofs.WordLaws.{words_eq, word_xor}
use Rattle.cipher.proofs.columns.add.Goals as goal

pub returns : goal.returns
unfolding state
returns c =
    let a = c.args in
    words_eq (word_xor a.s.c0 a.k.c0) (word_xor a.s.c1 a.k.c1) (word_xor a.s.c2 a.k.c2) (word_xor a.s.c3 a.k.c3)
