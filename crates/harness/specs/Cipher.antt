-- What the entry points into the crate `cipher` answer.
use Rattle.std.specs.Prelude.{◌&&◌, List, ℕ, eqb, length}
use Rattle.cipher.specs.Cipher.{cipher}
use Rattle.cipher.specs.KeyExpansion.{key_expansion}
use Rattle.cipher.specs.CounterMode.{block_length, counter_mode}
use Rattle.harness.specs.Answer.{Answer, answer, done, answer_if}

-- the bytes of a key, and of the eleven round keys
abbrev pub key_length : ℕ
key_length = 16

abbrev pub schedule_length : ℕ
schedule_length = 176

-- the round keys of a key
unfoldable pub expand_answer : List ℕ → List ℕ → Answer
expand_answer key schedule =
    answer_if (eqb (length key) key_length && eqb (length schedule) schedule_length) schedule (answer done (key_expansion key))

-- the encipherment of a block
unfoldable pub encrypt_answer : List ℕ → List ℕ → Answer
encrypt_answer key block =
    answer_if (eqb (length key) key_length && eqb (length block) block_length) block (answer done (cipher (key_expansion key) block))

-- text of any length in counter mode
unfoldable pub stream_answer : List ℕ → List ℕ → Answer
stream_answer key text = answer_if (eqb (length key) key_length) text (answer done (counter_mode (key_expansion key) text))
