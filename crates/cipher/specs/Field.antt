-- The field of FIPS 197, section 4. A byte is a number below 256; its bits are the coefficients of a polynomial in x.
--   a ⊕ b       the sum of two bytes
--   xtime b     the product of b with x
--   a • b       the product of two bytes
--   inverse b   the multiplicative inverse of b, and 0 for 0
use Rattle.std.specs.Prelude.{ℕ, zero, suc, ◌*◌, ◌/◌, ◌%◌}
use Rattle.std.specs.Int.Bits.{bit_xor}

infixl 60 ◌⊕◌
infixl 70 ◌•◌
-- 4.1: the sum, bit by bit modulo 2
abbrev pub ◌⊕◌ : ℕ → ℕ → ℕ
a ⊕ b = bit_xor a b

-- 4.2.1: the bits of b, each moved up by one place, and {1b} added where bit 7 falls out
abbrev pub xtime : ℕ → ℕ
xtime b = (b / 128 * 0x1b) ⊕ (b * 2 % 256)

-- 4.2.1: the product of b with the n low bits of a: the sum of those of b, x b, x² b, .. at which a has a bit
unfoldable pub product_bits : ℕ → ℕ → ℕ → ℕ
product_bits zero a b = 0
product_bits (suc n) a b = (a % 2 * b) ⊕ product_bits n (a / 2) (xtime b)

-- 4.2: the product modulo x⁸ + x⁴ + x³ + x + 1
unfoldable pub ◌•◌ : ℕ → ℕ → ℕ
unfolding product_bits
a • b = product_bits 8 a b

-- 4.2: the inverse: b to the power 254 = 2 + 4 + 8 + 16 + 32 + 64 + 128. Its product with b is 1: `inverse_rule` of
-- proofs/TableRules.antt
unfoldable pub inverse : ℕ → ℕ
unfolding ◌•◌
inverse b =
    let b² = b • b in
    let b⁴ = b² • b² in
    let b⁸ = b⁴ • b⁴ in
    let b¹⁶ = b⁸ • b⁸ in
    let b³² = b¹⁶ • b¹⁶ in
    let b⁶⁴ = b³² • b³² in
    let b¹²⁸ = b⁶⁴ • b⁶⁴ in
    b² • b⁴ • b⁸ • b¹⁶ • b³² • b⁶⁴ • b¹²⁸
