-- Bytes in groups. A word is four bytes, FIPS 197, section 3.5.
--   four a b c d         the word of these bytes
--   word w i             word i of a list of bytes
--   xor_bytes s k         the sum of two lists of bytes
--   byte0 x .. byte3 x   the bytes of a 32-bit number, byte 0 the lowest
--   byte r x             byte r of it
--   little_endian x       a 32-bit number as a word, its lowest byte first
--   big_endian k n        a number as k bytes, the highest first
use Rattle.std.specs.Prelude.{List, [], ◌∷◌, ℕ, zero, suc, ◌+◌, ◌*◌, ◌/◌, ◌%◌, ◌^◌, get_or}
use Rattle.cipher.specs.Field.{◌⊕◌}

-- a word of four bytes
abbrev pub four : ℕ → ℕ → ℕ → ℕ → List ℕ
four a b c d = a ∷ b ∷ c ∷ d ∷ []

-- word i of a list: its bytes 4i to 4i + 3
abbrev pub word : List ℕ → ℕ → List ℕ
word w i = four (get_or w (4 * i) 0) (get_or w (4 * i + 1) 0) (get_or w (4 * i + 2) 0) (get_or w (4 * i + 3) 0)

-- the sum byte by byte, as long as s: where k has ended, s stays as it is
abbrev pub xor_bytes : List ℕ → List ℕ → List ℕ
xor_bytes [] k = []
xor_bytes (a ∷ s) [] = a ∷ s
xor_bytes (a ∷ s) (b ∷ k) = (a ⊕ b) ∷ xor_bytes s k

-- the bytes of a 32-bit number
abbrev pub byte0 : ℕ → ℕ
byte0 x = x % 0x100

abbrev pub byte1 : ℕ → ℕ
byte1 x = x / 0x100 % 0x100

abbrev pub byte2 : ℕ → ℕ
byte2 x = x / 0x10000 % 0x100

abbrev pub byte3 : ℕ → ℕ
byte3 x = x / 0x1000000 % 0x100

abbrev pub byte : ℕ → ℕ → ℕ
byte zero x = byte0 x
byte (suc zero) x = byte1 x
byte (suc (suc zero)) x = byte2 x
byte (suc (suc (suc r))) x = byte3 x

-- the four of them as a word
abbrev pub little_endian : ℕ → List ℕ
little_endian x = four (byte0 x) (byte1 x) (byte2 x) (byte3 x)

-- the k low bytes of a number, the highest of them first
unfoldable pub big_endian : ℕ → ℕ → List ℕ
big_endian zero n = []
big_endian (suc k) n = n / 256 ^ k % 256 ∷ big_endian k n
