-- What the layers above may use of the cipher: lengths, the key stream by position, its sum twice, a part from the front,
-- and that bytes stay bytes.
use mathlib.Core.Path.{◌≡◌, ap, sym, ◌∙◌}
use mathlib.Core.Bool.{Bool, true, false, cond}
use mathlib.Core.List.{List, [], ◌∷◌, ◌++◌, map}
use Prim.Native.Nat.{ℕ, zero, suc, ◌+◌, ◌-◌, ◌*◌, ◌/◌, ◌%◌, ◌≤◌, ◌<◌, min}
use native.Mathlib.Omega.{arith}
use native.Mathlib.Decide.{dec_lt}
use lib.Bits.{xor_lt}
use lib.Dec.{eqb}
use lib.ListN.{length, get_or, take, length-take, get_or-append}
use lib.Seq.{get_or-append-add, get_or-take, ext_get_or}
use Rattle.base.specs.Each.{Bytes}
use Rattle.base.proofs.Eachs.{each_append, each_at}
use Rattle.cipher.specs.Field.{◌⊕◌, inverse}
use Rattle.cipher.specs.SBox.{bit, affine_bit, affine, s_box}
use Rattle.cipher.specs.Words.{four, word, xor_bytes}
use Rattle.cipher.specs.Cipher.{sub_bytes, shifted_column, shift_rows, round_key, add_round_key, rounds, cipher}
use Rattle.cipher.specs.KeyExpansion.{sub_word, rot_word, power, rcon, temp, schedule, key_expansion}
use Rattle.cipher.specs.CounterMode.{counter_block, key_stream, stream_byte, stream_blocks, counter_mode}
use Rattle.cipher.proofs.Sums.{length_xor, xor_at, xor_bytes_twice}
use Rattle.cipher.proofs.Schedule.{length-schedule}
use Rattle.cipher.proofs.KeyStream as stream

-- ---- lengths
pub length-cipher : (w s : List ℕ) → length (cipher w s) ≡ 16
length-cipher = stream.length-cipher

pub length-key_expansion : (key : List ℕ) → length key ≡ 16 → length (key_expansion key) ≡ 176
unfolding key_expansion
length-key_expansion key h = length-schedule 40 key ∙ omega arith

pub length-key_stream : (w : List ℕ) (n : ℕ) → length (key_stream w n) ≡ 16 * n
length-key_stream = stream.length-key_stream

pub length-counter_mode : (w s : List ℕ) → length (counter_mode w s) ≡ length s
unfolding counter_mode
length-counter_mode w s = length_xor s (key_stream w (stream_blocks (length s)))

-- ---- the key stream by position: it depends on the round keys and the position alone
pub key_stream_at : (w : List ℕ) (n i : ℕ) → i < 16 * n → get_or (key_stream w n) i 0 ≡ stream_byte w i
unfolding key_stream
key_stream_at w zero i h = absurd (omega arith)
key_stream_at w (suc n) i h =
    let l : length (key_stream w n) ≡ 16 * n = length-key_stream w n in
    elim (dec_lt i (16 * n)) [
      | yes k ↦ get_or-append (key_stream w n) (cipher w (counter_block n)) 0 i (omega arith) ∙ key_stream_at w n i k
      | no k ↦
          let e : i ≡ length (key_stream w n) + i % 16 = omega arith in
          let m : n ≡ i / 16 = omega arith in
          ap (λ (j : ℕ). get_or (key_stream w n ++ cipher w (counter_block n)) j 0) e
          ∙ get_or-append-add (key_stream w n) (cipher w (counter_block n)) (i % 16) 0
          ∙ ap (λ (j : ℕ). get_or (cipher w (counter_block j)) (i % 16) 0) m
    ]

-- a text and as many blocks of key stream as reach over it, at a position
xor_stream_at : (w s : List ℕ) (n i : ℕ) → length s ≤ 16 * n → i < length s → get_or (xor_bytes s (key_stream w n)) i 0 ≡ get_or s i 0 ⊕ stream_byte w i
xor_stream_at w s n i g h =
    xor_at s (key_stream w n) i h (omega (arith, length-key_stream w n)) ∙ ap (λ (b : ℕ). get_or s i 0 ⊕ b) (key_stream_at w n i (omega arith))

pub counter_mode_at : (w s : List ℕ) (i : ℕ) → i < length s → get_or (counter_mode w s) i 0 ≡ get_or s i 0 ⊕ stream_byte w i
unfolding counter_mode
counter_mode_at w s i h = xor_stream_at w s (stream_blocks (length s)) i (omega arith) h

-- more key stream than the text needs makes no difference
pub counter_mode_stream : (w s : List ℕ) (n : ℕ) → length s ≤ 16 * n → counter_mode w s ≡ xor_bytes s (key_stream w n)
counter_mode_stream w s n h =
    ext_get_or 0 (counter_mode w s) (xor_bytes s (key_stream w n)) (length-counter_mode w s ∙ sym (length_xor s (key_stream w n)))
    (λ i k.
    let k' : i < length s = omega (arith, length-counter_mode w s) in
    counter_mode_at w s i k' ∙ sym (xor_stream_at w s n i h k'))

-- ---- twice gives the text back
pub counter_mode_twice : (w s : List ℕ) → counter_mode w (counter_mode w s) ≡ s
unfolding counter_mode
counter_mode_twice w s =
    let k = key_stream w (stream_blocks (length s)) in
    ap (λ (n : ℕ). xor_bytes (xor_bytes s k) (key_stream w (stream_blocks n))) (length_xor s k) ∙ xor_bytes_twice s k

-- ---- the first n bytes are those of the first n bytes
pub counter_mode-take : (w s : List ℕ) (n : ℕ) → take n (counter_mode w s) ≡ counter_mode w (take n s)
counter_mode-take w s n =
    let l : length (take n (counter_mode w s)) ≡ min n (length s) = length-take n (counter_mode w s) ∙ ap (min n) (length-counter_mode w s) in
    let m : length (counter_mode w (take n s)) ≡ min n (length s) = length-counter_mode w (take n s) ∙ length-take n s in
    ext_get_or 0 (take n (counter_mode w s)) (counter_mode w (take n s)) (l ∙ sym m)
    (λ i h.
    let k : i < n = omega arith in
    get_or-take n (counter_mode w s) i 0 k
    ∙ counter_mode_at w s i (omega arith)
    ∙ ap (λ (b : ℕ). b ⊕ stream_byte w i) (sym (get_or-take n s i 0 k))
    ∙ sym (counter_mode_at w (take n s) i (omega (arith, length-take n s))))

-- ---- bytes stay bytes
bytes-four : {a b c d : ℕ} → a < 256 → b < 256 → c < 256 → d < 256 → Bytes (four a b c d)
bytes-four p q r s = (p, (q, (r, (s, tt))))

byte_at : (s : List ℕ) (i : ℕ) → Bytes s → get_or s i 0 < 256
byte_at s i p = each_at (λ (x : ℕ). x < 256) s i 0 (omega arith) p

bytes-append : (s t : List ℕ) → Bytes s → Bytes t → Bytes (s ++ t)
bytes-append s t p q = each_append (λ (x : ℕ). x < 256) s t p q

bytes_joined : (a b c d : List ℕ) → Bytes a → Bytes b → Bytes c → Bytes d → Bytes (a ++ b ++ c ++ d)
bytes_joined a b c d p q r s = bytes-append (a ++ b ++ c) d (bytes-append (a ++ b) c (bytes-append a b p q) r) s

bytes_word : (w : List ℕ) (i : ℕ) → Bytes w → Bytes (word w i)
bytes_word w i p = bytes-four (byte_at w (4 * i) p) (byte_at w (4 * i + 1) p) (byte_at w (4 * i + 2) p) (byte_at w (4 * i + 3) p)

bytes_xor : (s k : List ℕ) → Bytes s → Bytes k → Bytes (xor_bytes s k)
bytes_xor [] k p q = tt
bytes_xor (a ∷ s) [] p q = p
bytes_xor (a ∷ s) (b ∷ k) p q = (xor_lt 8 a b p.0 q.0, bytes_xor s k p.1 q.1)

-- the affine map gives a byte whatever it is given, and so does the S-box
bit_low : (b i : ℕ) → bit b i < 2
bit_low b i = omega arith

affine_bit_low : (b i : ℕ) → affine_bit b i < 2
unfolding affine_bit
affine_bit_low b i =
    xor_lt 1 _ _ (xor_lt 1 _ _ (xor_lt 1 _ _ (xor_lt 1 _ _ (xor_lt 1 _ _ (bit_low b i) (bit_low b ((i + 4) % 8))) (bit_low b ((i + 5) % 8))) (bit_low b ((i + 6) % 8))) (bit_low b ((i + 7) % 8))) (bit_low 0x63 i)

affine-byte : (b : ℕ) → affine b < 256
unfolding affine
affine-byte b =
    omega (
      arith,
      affine_bit_low b 0,
      affine_bit_low b 1,
      affine_bit_low b 2,
      affine_bit_low b 3,
      affine_bit_low b 4,
      affine_bit_low b 5,
      affine_bit_low b 6,
      affine_bit_low b 7,
    )

pub s_box-byte : (b : ℕ) → s_box b < 256
unfolding s_box
s_box-byte b = affine-byte (inverse b)

bytes-sub : (s : List ℕ) → Bytes (map s_box s)
bytes-sub [] = tt
bytes-sub (a ∷ s) = (s_box-byte a, bytes-sub s)

bytes-column : (s : List ℕ) (c : ℕ) → Bytes s → Bytes (shifted_column s c)
unfolding shifted_column
bytes-column s c p = bytes-four (byte_at s (0 + 4 * ((c + 0) % 4)) p) (byte_at s (1 + 4 * ((c + 1) % 4)) p) (byte_at s (2 + 4 * ((c + 2) % 4)) p) (byte_at s (3 + 4 * ((c + 3) % 4)) p)

bytes_shift : (s : List ℕ) → Bytes s → Bytes (shift_rows s)
unfolding shift_rows
bytes_shift s p =
    bytes_joined (shifted_column s 0) (shifted_column s 1) (shifted_column s 2) (shifted_column s 3) (bytes-column s 0 p) (bytes-column s 1 p) (bytes-column s 2 p) (bytes-column s 3 p)

bytes-round_key : (w : List ℕ) (r : ℕ) → Bytes w → Bytes (round_key w r)
bytes-round_key w r p =
    bytes_joined (word w (4 * r)) (word w (4 * r + 1)) (word w (4 * r + 2)) (word w (4 * r + 3))
    (bytes_word w (4 * r) p) (bytes_word w (4 * r + 1) p) (bytes_word w (4 * r + 2) p) (bytes_word w (4 * r + 3) p)

pub bytes-cipher : (w s : List ℕ) → Bytes w → Bytes (cipher w s)
unfolding cipher sub_bytes
bytes-cipher w s p =
    let last = sub_bytes (rounds w 9 (add_round_key w 0 s)) in
    bytes_xor (shift_rows last) (round_key w 10) (bytes_shift last (bytes-sub (rounds w 9 (add_round_key w 0 s)))) (bytes-round_key w 10 p)

pub bytes-key_stream : (w : List ℕ) (n : ℕ) → Bytes w → Bytes (key_stream w n)
unfolding key_stream
bytes-key_stream w zero p = tt
bytes-key_stream w (suc n) p = bytes-append (key_stream w n) (cipher w (counter_block n)) (bytes-key_stream w n p) (bytes-cipher w (counter_block n) p)

pub bytes-counter_mode : (w s : List ℕ) → Bytes w → Bytes s → Bytes (counter_mode w s)
unfolding counter_mode
bytes-counter_mode w s p q = bytes_xor s (key_stream w (stream_blocks (length s))) q (bytes-key_stream w (stream_blocks (length s)) p)

-- ---- the key schedule of bytes is bytes
power-byte : (n : ℕ) → power n < 256
unfolding power
power-byte zero = omega arith
power-byte (suc n) = let h : power n < 256 = power-byte n in xor_lt 8 (power n / 128 * 0x1b) (power n * 2 % 256) (omega arith) (omega arith)

bytes-temp : (w : List ℕ) (i : ℕ) → Bytes w → Bytes (temp w i)
unfolding temp
bytes-temp w i p = go (eqb (i % 4) 0)
  where
    go : (b : Bool) → Bytes (cond b (xor_bytes (sub_word (rot_word (word w (i - 1)))) (rcon (i / 4))) (word w (i - 1)))
    go true = bytes_xor (sub_word (rot_word (word w (i - 1)))) (rcon (i / 4)) (bytes-sub (rot_word (word w (i - 1)))) (bytes-four (power-byte (i / 4 - 1)) (omega arith) (omega arith) (omega arith))
    go false = bytes_word w (i - 1) p

bytes-schedule : (n : ℕ) (key : List ℕ) → Bytes key → Bytes (schedule n key)
unfolding schedule
bytes-schedule zero key p = p
bytes-schedule (suc n) key p =
    let w = schedule n key in
    let q : Bytes w = bytes-schedule n key p in
    bytes-append w _ q (bytes_xor (word w (n + 4 - 4)) (temp w (n + 4)) (bytes_word w (n + 4 - 4) q) (bytes-temp w (n + 4) q))

pub bytes-key_expansion : (key : List ℕ) → Bytes key → Bytes (key_expansion key)
unfolding key_expansion
bytes-key_expansion key p = bytes-schedule 40 key p
