-- The cipher, FIPS 197, section 5.1. A state is a list of 16 bytes in the order of the input: byte r + 4 c is in row r
-- and column c. The expanded key w is a list of 44 words, 176 bytes.
--   Nb, Nk, Nr           the words of a block, the words of a key, the rounds
--   sub_bytes, shift_rows, mix_columns, add_round_key   the four transformations of a round
--   cipher w input       the encipherment of a block
use Rattle.std.specs.Prelude.{List, [], ◌∷◌, ◌++◌, map, ℕ, zero, suc, ◌+◌, ◌*◌, ◌-◌, ◌%◌, get_or}
use Rattle.cipher.specs.Field.{◌⊕◌, ◌•◌}
use Rattle.cipher.specs.SBox.{s_box}
use Rattle.cipher.specs.Words.{word, xor_bytes}

-- 5, figure 4: AES-128
abbrev pub Nb : ℕ
Nb = 4

abbrev pub Nk : ℕ
Nk = 4

abbrev pub Nr : ℕ
Nr = 10

-- 5.1.1: the S-box on each byte
unfoldable pub sub_bytes : List ℕ → List ℕ
sub_bytes s = map s_box s

-- 3.4: the byte in row r and column c
abbrev pub entry : List ℕ → ℕ → ℕ → ℕ
entry s r c = get_or s (r + 4 * c) 0

-- 5.1.2, (5.3): column c, where row r has moved left by r places
unfoldable pub shifted_column : List ℕ → ℕ → List ℕ
shifted_column s c =
    entry s 0 ((c + 0) % Nb) ∷ entry s 1 ((c + 1) % Nb) ∷ entry s 2 ((c + 2) % Nb) ∷ entry s 3 ((c + 3) % Nb) ∷ []

-- 5.1.2: all four columns
unfoldable pub shift_rows : List ℕ → List ℕ
unfolding shifted_column
shift_rows s = shifted_column s 0 ++ shifted_column s 1 ++ shifted_column s 2 ++ shifted_column s 3

-- 5.1.3, (5.6): the column of the bytes a, b, c and d, times {03} x³ + {01} x² + {01} x + {02}
unfoldable pub mix_bytes : ℕ → ℕ → ℕ → ℕ → List ℕ
mix_bytes a b c d =
    (2 • a ⊕ 3 • b ⊕ c ⊕ d)
    ∷ (a ⊕ 2 • b ⊕ 3 • c ⊕ d)
    ∷ (a ⊕ b ⊕ 2 • c ⊕ 3 • d)
    ∷ (3 • a ⊕ b ⊕ c ⊕ 2 • d)
    ∷ []

-- 5.1.3: column c
unfoldable pub mixed_column : List ℕ → ℕ → List ℕ
unfolding mix_bytes
mixed_column s c = mix_bytes (entry s 0 c) (entry s 1 c) (entry s 2 c) (entry s 3 c)

-- 5.1.3: all four columns
unfoldable pub mix_columns : List ℕ → List ℕ
unfolding mixed_column
mix_columns s = mixed_column s 0 ++ mixed_column s 1 ++ mixed_column s 2 ++ mixed_column s 3

-- 5.1.4: the key of a round, Nb words of w, one for each column
abbrev pub round_key : List ℕ → ℕ → List ℕ
round_key w round =
    word w (Nb * round) ++ word w (Nb * round + 1) ++ word w (Nb * round + 2) ++ word w (Nb * round + 3)

-- 5.1.4, (5.7): the sum with the key of a round
abbrev pub add_round_key : List ℕ → ℕ → List ℕ → List ℕ
add_round_key w round s = xor_bytes s (round_key w round)

-- 5.1, figure 5: rounds 1 to n, each the same, n below Nr
unfoldable pub rounds : List ℕ → ℕ → List ℕ → List ℕ
rounds w zero s = s
rounds w (suc n) s = add_round_key w (suc n) (mix_columns (shift_rows (sub_bytes (rounds w n s))))

-- 5.1, figure 5: the first key added, the rounds below Nr, and the last round, which has no MixColumns
unfoldable pub cipher : List ℕ → List ℕ → List ℕ
cipher w input = add_round_key w Nr (shift_rows (sub_bytes (rounds w (Nr - 1) (add_round_key w 0 input))))
