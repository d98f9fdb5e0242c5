-- The counter mode, SP 800-38A, section 6.5, with the counters 0, 1, 2, ..
--   counter_block n    the counter n as a block
--   key_stream w n     the first n output blocks, one after the other
--   stream_byte w i    byte i of the key stream
--   counter_mode w s   s enciphered, or deciphered: the same
use Rattle.std.specs.Prelude.{List, [], ◌++◌, ℕ, zero, suc, ◌+◌, ◌-◌, ◌/◌, ◌%◌, length, get_or}
use Rattle.cipher.specs.Words.{xor_bytes, big_endian}
use Rattle.cipher.specs.Cipher.{cipher}

-- the bytes of a block
abbrev pub block_length : ℕ
block_length = 16

-- a counter as a block, its highest byte first
abbrev pub counter_block : ℕ → List ℕ
counter_block n = big_endian block_length n

-- the output blocks of the counters below n, one after the other
unfoldable pub key_stream : List ℕ → ℕ → List ℕ
key_stream w zero = []
key_stream w (suc n) = key_stream w n ++ cipher w (counter_block n)

-- byte i of all output blocks, one after the other
abbrev pub stream_byte : List ℕ → ℕ → ℕ
stream_byte w i = get_or (cipher w (counter_block (i / block_length))) (i % block_length) 0

-- the blocks that n bytes take up, the last perhaps in part
abbrev pub stream_blocks : ℕ → ℕ
stream_blocks n = (n + (block_length - 1)) / block_length

-- each block of s plus its output block; of the last output block as many bytes as s has left
unfoldable pub counter_mode : List ℕ → List ℕ → List ℕ
counter_mode w s = xor_bytes s (key_stream w (stream_blocks (length s)))
