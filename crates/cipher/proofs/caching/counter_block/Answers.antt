-- `counter_block` gives the 16 bytes of a counter below 2^64.
use mathlib.Core.Path.{◌≡◌, refl, ap, ◌∙◌}
use mathlib.Core.List.{List}
use Prim.Native.Nat.{ℕ, ◌/◌, ◌%◌}
use native.Mathlib.Omega.{arith}
use Rattle.cipher.specs.Words.{word, big_endian}
use Rattle.cipher.specs.State.{state}
use Rattle.cipher.proofs.WordLaws.{four_eq, words_eq}
use Rattle.cipher.proofs.caching.counter_block.Goals as goal

pub returns : goal.returns
unfolding state big_endian
returns c =
    let n = c.args.n in
    let bytes = c.to_be_bytes.ensures in
    let last : n % 256 ≡ n / 1 % 256 = omega arith in
    words_eq (four_eq (omega arith) (omega arith) (omega arith) (omega arith)) (four_eq (omega arith) (omega arith) (omega arith) (omega arith))
    (c.from_le_bytes-c2.ensures ∙ ap (λ (b : List ℕ). word b 0) bytes)
    (c.from_le_bytes-c3.ensures ∙ ap (λ (b : List ℕ). word b 1) bytes ∙ four_eq refl refl refl last)
