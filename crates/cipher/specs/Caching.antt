-- Counter-mode caching: what the first two rounds make of counters that differ in the last byte alone. Byte 15 reaches only
-- column 0 in round 1, and column 0 reaches each column by one byte in round 2; the rest is the same for all of them.
--   last_share s          what SubBytes, ShiftRows and MixColumns make of byte 15 of a state, in column 0
--   column_share c        what they make of column 0, in all four columns
--   counter_state w r n   the state of counter n after r rounds
--   cached_column w n     column 0 after round 1, without the share of byte 15
--   cached_state w n      the state after round 2, without the share of column 0
-- That the last two are the same for all counters of one n / 256 is proved in proofs/CachingLaws.antt.
use Rattle.std.specs.Prelude.{◌≡◌, List, ◌++◌, ℕ, get_or}
use Rattle.cipher.specs.SBox.{s_box}
use Rattle.cipher.specs.Words.{word, xor_bytes, little_endian}
use Rattle.cipher.specs.Cipher.{add_round_key, rounds}
use Rattle.cipher.specs.CounterMode.{counter_block}
use Rattle.cipher.specs.Table.{row0, row1, row2, row3}
use Rattle.cipher.specs.State.{state}
use Rattle.cipher.specs.declared.caching.Cache.{Cache}

abbrev pub last_share : List ℕ → List ℕ
last_share s = row3 (s_box (get_or s 15 0))

abbrev pub column_share : List ℕ → List ℕ
column_share c = row0 (s_box (get_or c 0 0)) ++ row3 (s_box (get_or c 3 0)) ++ row2 (s_box (get_or c 2 0)) ++ row1 (s_box (get_or c 1 0))

abbrev pub counter_state : List ℕ → ℕ → ℕ → List ℕ
counter_state w r n = rounds w r (add_round_key w 0 (counter_block n))

unfoldable pub cached_column : List ℕ → ℕ → List ℕ
cached_column w n = xor_bytes (word (counter_state w 1 n) 0) (last_share (add_round_key w 0 (counter_block n)))

unfoldable pub cached_state : List ℕ → ℕ → List ℕ
cached_state w n = xor_bytes (counter_state w 2 n) (column_share (word (counter_state w 1 n) 0))

-- the cache of the code serves the counter n
pub record Serves (w : List ℕ) (n : ℕ) (cache : Cache) : Type 0 where
  pub column : little_endian cache.column ≡ cached_column w n
  pub rest : state cache.rest ≡ cached_state w n
