-- Key expansion, FIPS 197, section 5.2. The schedule w is a list of words; w[i] is `word w i`.
--   rot_word, sub_word, rcon   as in the standard
--   key_expansion key         the 44 words of a key of 16 bytes: 176 bytes, eleven round keys in order
--   next_round_key c k         four words at once, as the code makes them
use Rattle.std.specs.Prelude.{cond, List, ◌++◌, map, ℕ, zero, suc, ◌+◌, ◌*◌, ◌-◌, ◌/◌, ◌%◌, eqb, get_or}
use Rattle.cipher.specs.Field.{xtime}
use Rattle.cipher.specs.SBox.{s_box}
use Rattle.cipher.specs.Words.{four, word, xor_bytes}
use Rattle.cipher.specs.Cipher.{Nb, Nk, Nr}

-- RotWord: a0, a1, a2, a3 becomes a1, a2, a3, a0
abbrev pub rot_word : List ℕ → List ℕ
rot_word a = four (get_or a 1 0) (get_or a 2 0) (get_or a 3 0) (get_or a 0 0)

-- SubWord: the S-box on each byte
abbrev pub sub_word : List ℕ → List ℕ
sub_word a = map s_box a

-- x to the power n, in the field
unfoldable pub power : ℕ → ℕ
power zero = 1
power (suc n) = xtime (power n)

-- Rcon[i], i from 1: x to the power i - 1, and three zeros
abbrev pub rcon : ℕ → List ℕ
rcon i = four (power (i - 1)) 0 0 0

-- figure 11: what is added to w[i - Nk] to make w[i]
unfoldable pub temp : List ℕ → ℕ → List ℕ
temp w i =
    cond (eqb (i % Nk) 0)
    (xor_bytes (sub_word (rot_word (word w (i - 1)))) (rcon (i / Nk)))
    (word w (i - 1))

-- figure 11: the Nk words of the key, and n words more. The next one is w[i] for i = n + Nk
unfoldable pub schedule : ℕ → List ℕ → List ℕ
schedule zero key = key
schedule (suc n) key =
    let w = schedule n key in
    let i = n + Nk in
    w ++ xor_bytes (word w (i - Nk)) (temp w i)

-- figure 11: Nb (Nr + 1) words in all
unfoldable pub key_expansion : List ℕ → List ℕ
key_expansion key = schedule (Nb * (Nr + 1) - Nk) key

-- the round key after k, where c is the first byte of its round constant. That it is the next four words of the schedule
-- is `schedule_round` of proofs/Schedule.antt
unfoldable pub next_round_key : ℕ → List ℕ → List ℕ
next_round_key c k =
    let w0 = xor_bytes (word k 0) (xor_bytes (sub_word (rot_word (word k 3))) (four c 0 0 0)) in
    let w1 = xor_bytes (word k 1) w0 in
    let w2 = xor_bytes (word k 2) w1 in
    let w3 = xor_bytes (word k 3) w2 in
    w0 ++ w1 ++ w2 ++ w3
