-- `round_key` gives the four words of a round.
use Rattle.cipher.specs.State.{state}
use Rattle.cipher.proofs.WordLaws.{words_eq}
use Rattle.cipher.proofs.rounds.round_key.Goals as goal

pub returns : goal.returns
unfolding state
returns c = words_eq c.key_word-c0.ensures c.key_word-c1.ensures c.key_word-c2.ensures c.key_word-c3.ensures
