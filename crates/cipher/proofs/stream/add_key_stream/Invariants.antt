-- `add_key_stream` is the counter mode, two counters a turn. When it comes to the byte at, which counter n = at / 16 starts, the n blocks of the key stream
-- before it are added.
use mathlib.Core.Path.{◌≡◌}
use Prim.Native.Nat.{◌/◌, ◌%◌}
use Rattle.cipher.specs.Words.{xor_bytes}
use Rattle.cipher.specs.CounterMode.{key_stream}
use Rattle.cipher.specs.Caching.{Serves}
use Rattle.cipher.proofs.stream.add_key_stream.Given as goal

-- n is even, so that n + 1 is in the same n / 256
abbrev pub invariant-loop-at : goal.invariant-loop-at
invariant-loop-at l =
    (l.at % 32 ≡ 0) × (l.text ≡ xor_bytes l.initial.text (key_stream l.w (l.at / 16))) × Serves l.w (l.at / 16) l.cache
