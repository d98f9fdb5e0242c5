-- The S-box by its rule, FIPS 197, section 5.1.1.
--   bit b i     bit i of b
--   affine b    the affine map
--   s_box b      the byte that takes the place of b
use Rattle.std.specs.Prelude.{ℕ, ◌+◌, ◌*◌, ◌/◌, ◌%◌, ◌^◌}
use Rattle.cipher.specs.Field.{◌⊕◌, inverse}

-- 3.2: bit i, where bit 0 is the lowest
abbrev pub bit : ℕ → ℕ → ℕ
bit b i = b / 2 ^ i % 2

-- 5.1.1, (5.1): bit i of the affine map of b; the byte c is {63}
unfoldable pub affine_bit : ℕ → ℕ → ℕ
affine_bit b i =
    bit b i ⊕ bit b ((i + 4) % 8) ⊕ bit b ((i + 5) % 8) ⊕ bit b ((i + 6) % 8) ⊕ bit b ((i + 7) % 8) ⊕ bit 0x63 i

-- 5.1.1, (5.1): all eight bits
unfoldable pub affine : ℕ → ℕ
unfolding affine_bit
affine b =
    affine_bit b 0
    + 2 * affine_bit b 1
    + 4 * affine_bit b 2
    + 8 * affine_bit b 3
    + 16 * affine_bit b 4
    + 32 * affine_bit b 5
    + 64 * affine_bit b 6
    + 128 * affine_bit b 7

-- 5.1.1: the multiplicative inverse, then the affine map
unfoldable pub s_box : ℕ → ℕ
unfolding inverse affine
s_box b = affine (inverse b)
