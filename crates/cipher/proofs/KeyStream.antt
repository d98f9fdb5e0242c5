-- Laws of the key stream: its length, a list with a block added from a place on, and two blocks more of the stream added.
use mathlib.Core.Path.{◌≡◌, refl, ap, ap₂, ◌∙◌, sym}
use mathlib.Core.List.{List, ◌++◌, append-nil}
use Prim.Native.Nat.{ℕ, zero, suc, ◌+◌, ◌≤◌, ◌*◌, ◌/◌, ◌%◌}
use native.Mathlib.Omega.{arith}
use native.Mathlib.Numerals.{add-one}
use lib.ListN.{length, take, drop, length-append, drop_of_length-le}
use lib.Seq.{take_all}
use Rattle.cipher.specs.Words.{xor_bytes}
use Rattle.cipher.specs.Cipher.{shift_rows, cipher}
use Rattle.cipher.specs.CounterMode.{counter_block, key_stream}
use Rattle.cipher.proofs.Sums.{xor_append}

pub length-cipher : (w s : List ℕ) → length (cipher w s) ≡ 16
unfolding cipher shift_rows
length-cipher w s = refl

pub length-key_stream : (w : List ℕ) (n : ℕ) → length (key_stream w n) ≡ 16 * n
unfolding key_stream
length-key_stream w zero = refl
length-key_stream w (suc n) =
    length-append (key_stream w n) (cipher w (counter_block n)) ∙ omega (arith, length-key_stream w n, length-cipher w (counter_block n))

-- ---- a list with k added from a on
-- where a is past its end
pub past_end : (p : List ℕ) (a : ℕ) (k : List ℕ) → length p ≤ a → p ≡ take a p ++ xor_bytes (drop a p) k
past_end p a k h = sym (ap₂ (λ (x y : List ℕ). x ++ xor_bytes y k) (take_all a p h) (drop_of_length-le p {i = a} h) ∙ append-nil p)

-- ---- the blocks of the counters from n on, added behind the n blocks before them. What is past the end of p₀ changes nothing
module _ (w p₀ : List ℕ) where
  -- one block
  key_stream_more : (n a : ℕ) (p k q : List ℕ) → a ≡ 16 * n → p ≡ xor_bytes p₀ (key_stream w n) → k ≡ cipher w (counter_block n)
      → q ≡ take a p ++ xor_bytes (drop a p) k → q ≡ xor_bytes p₀ (key_stream w (n + 1))
  unfolding key_stream
  key_stream_more n a p k q e ep ek eq =
      let len : a ≡ length (key_stream w n) = omega (arith, length-key_stream w n) in
      eq
      ∙ ap (λ (x : List ℕ). take a p ++ xor_bytes (drop a p) x) ek
      ∙ ap₂ (λ (x : List ℕ) (b : ℕ). take b x ++ xor_bytes (drop b x) (cipher w (counter_block n))) ep len
      ∙ sym (xor_append p₀ (key_stream w n) (cipher w (counter_block n)))
      ∙ ap (λ (m : ℕ). xor_bytes p₀ (key_stream w m)) (sym (add-one n))

  -- two blocks, from a on
  pub key_stream_two : (a : ℕ) (p k q l r : List ℕ) → a % 32 ≡ 0 → p ≡ xor_bytes p₀ (key_stream w (a / 16))
      → (k ≡ cipher w (counter_block (a / 16))) × (l ≡ cipher w (counter_block (a / 16 + 1)))
      → q ≡ take a p ++ xor_bytes (drop a p) k → r ≡ take (a + 16) q ++ xor_bytes (drop (a + 16) q) l
      → r ≡ xor_bytes p₀ (key_stream w ((a + 32) / 16))
  key_stream_two a p k q l r e ep eb eq er =
      let n = a / 16 in
      let two : n + 1 + 1 ≡ (a + 32) / 16 = omega arith in
      key_stream_more (n + 1) (a + 16) q l r (omega arith) (key_stream_more n a p k q (omega arith) ep eb.0 eq) eb.1 er
      ∙ ap (λ (m : ℕ). xor_bytes p₀ (key_stream w m)) two
