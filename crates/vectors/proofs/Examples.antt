-- FIPS 197, appendix C.1, computed from the definitions of the cipher, with no code in between.
use mathlib.Core.Path.{◌≡◌, refl}
use mathlib.Core.List.{List, [], ◌∷◌}
use Prim.Native.Nat.{ℕ}
use Rattle.cipher.specs.Field.{◌•◌}
use Rattle.cipher.specs.SBox.{s_box}
use Rattle.cipher.specs.Cipher.{sub_bytes, shift_rows, mix_columns, rounds, cipher}
use Rattle.cipher.specs.KeyExpansion.{power, temp, schedule, key_expansion}

key : List ℕ
key = 0x00 ∷ 0x01 ∷ 0x02 ∷ 0x03 ∷ 0x04 ∷ 0x05 ∷ 0x06 ∷ 0x07 ∷ 0x08 ∷ 0x09 ∷ 0x0a ∷ 0x0b ∷ 0x0c ∷ 0x0d ∷ 0x0e ∷ 0x0f ∷ []

plaintext : List ℕ
plaintext = 0x00 ∷ 0x11 ∷ 0x22 ∷ 0x33 ∷ 0x44 ∷ 0x55 ∷ 0x66 ∷ 0x77 ∷ 0x88 ∷ 0x99 ∷ 0xaa ∷ 0xbb ∷ 0xcc ∷ 0xdd ∷ 0xee ∷ 0xff ∷ []

ciphertext : List ℕ
ciphertext = 0x69 ∷ 0xc4 ∷ 0xe0 ∷ 0xd8 ∷ 0x6a ∷ 0x7b ∷ 0x04 ∷ 0x30 ∷ 0xd8 ∷ 0xcd ∷ 0xb7 ∷ 0x80 ∷ 0x70 ∷ 0xb4 ∷ 0xc5 ∷ 0x5a ∷ []

c_1 : cipher (key_expansion key) plaintext ≡ ciphertext
unfolding key plaintext ciphertext cipher rounds mix_columns ◌•◌ shift_rows sub_bytes s_box key_expansion schedule temp power
c_1 = refl
