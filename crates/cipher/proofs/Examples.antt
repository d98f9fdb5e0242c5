-- Worked examples of FIPS 197, computed from the definitions. The whole cipher of appendix C.1 is in the crate vectors.
use mathlib.Core.Path.{◌≡◌, refl}
use mathlib.Core.List.{List, [], ◌∷◌}
use Prim.Native.Nat.{ℕ}
use Rattle.cipher.specs.Field.{◌⊕◌, ◌•◌, xtime}
use Rattle.cipher.specs.SBox.{s_box}
use Rattle.cipher.specs.Words.{four, word, big_endian}
use Rattle.cipher.specs.Cipher.{shift_rows, mix_bytes}
use Rattle.cipher.specs.KeyExpansion.{rot_word, sub_word, power, rcon, temp, schedule}
use Rattle.cipher.specs.CounterMode.{counter_block}

-- 4.1
pub sum_57_83 : 0x57 ⊕ 0x83 ≡ 0xd4
sum_57_83 = refl

-- 4.2
pub product_57_83 : 0x57 • 0x83 ≡ 0xc1
unfolding ◌•◌
product_57_83 = refl

-- 4.2.1
pub xtime_57 : xtime 0x57 ≡ 0xae
xtime_57 = refl

pub xtime_ae : xtime 0xae ≡ 0x47
xtime_ae = refl

pub xtime_47 : xtime 0x47 ≡ 0x8e
xtime_47 = refl

pub xtime_8e : xtime 0x8e ≡ 0x07
xtime_8e = refl

pub product_57_13 : 0x57 • 0x13 ≡ 0xfe
unfolding ◌•◌
product_57_13 = refl

-- 5.1.1
pub s_box_53 : s_box 0x53 ≡ 0xed
unfolding s_box
s_box_53 = refl

-- 5.1.2, figure 8: the bytes of the state by their places
pub shifted : shift_rows (0 ∷ 1 ∷ 2 ∷ 3 ∷ 4 ∷ 5 ∷ 6 ∷ 7 ∷ 8 ∷ 9 ∷ 10 ∷ 11 ∷ 12 ∷ 13 ∷ 14 ∷ 15 ∷ [])
    ≡ 0 ∷ 5 ∷ 10 ∷ 15 ∷ 4 ∷ 9 ∷ 14 ∷ 3 ∷ 8 ∷ 13 ∷ 2 ∷ 7 ∷ 12 ∷ 1 ∷ 6 ∷ 11 ∷ []
unfolding shift_rows
shifted = refl

-- 5.1.3, on the first column of round 1 of appendix B
pub mixed_d4 : mix_bytes 0xd4 0xbf 0x5d 0x30 ≡ four 0x04 0x66 0x81 0xe5
unfolding mix_bytes ◌•◌
mixed_d4 = refl

-- 5.2, on w[3] and w[4] of appendix A.1
pub rot_word_lem : rot_word (four 0x09 0xcf 0x4f 0x3c) ≡ four 0xcf 0x4f 0x3c 0x09
rot_word_lem = refl

pub sub_word_lem : sub_word (four 0xcf 0x4f 0x3c 0x09) ≡ four 0x8a 0x84 0xeb 0x01
unfolding s_box
sub_word_lem = refl

pub rcon_10 : rcon 10 ≡ four 0x36 0 0 0
unfolding power
rcon_10 = refl

pub key : List ℕ
key = 0x2b ∷ 0x7e ∷ 0x15 ∷ 0x16 ∷ 0x28 ∷ 0xae ∷ 0xd2 ∷ 0xa6 ∷ 0xab ∷ 0xf7 ∷ 0x15 ∷ 0x88 ∷ 0x09 ∷ 0xcf ∷ 0x4f ∷ 0x3c ∷ []

pub w_4 : word (schedule 1 key) 4 ≡ four 0xa0 0xfa 0xfe 0x17
unfolding key schedule temp power s_box
w_4 = refl

-- SP 800-38A, 6.5: the counter 258 as a block
pub counter_258 : counter_block 258 ≡ 0 ∷ 0 ∷ 0 ∷ 0 ∷ 0 ∷ 0 ∷ 0 ∷ 0 ∷ 0 ∷ 0 ∷ 0 ∷ 0 ∷ 0 ∷ 0 ∷ 1 ∷ 2 ∷ []
unfolding big_endian
counter_258 = refl
