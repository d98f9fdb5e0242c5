-- `expand_key` is the key expansion. After n turns w begins with the schedule of n + 1 round keys, of which k is the last.
use mathlib.Core.Path.{◌≡◌}
use Prim.Native.Nat.{◌+◌, ◌*◌}
use lib.ListN.{length, take}
use Rattle.cipher.specs.Cipher.{round_key}
use Rattle.cipher.specs.KeyExpansion.{power, schedule}
use Rattle.cipher.specs.State.{state}
use Rattle.cipher.proofs.expansion.expand_key.Given as goal

abbrev pub invariant-loop-n : goal.invariant-loop-n
invariant-loop-n l =
    (length l.w ≡ 176)
    × (l.constant ≡ power l.n)
    × (state l.k ≡ round_key (schedule (4 * l.n) (state l.initial.k)) l.n)
    × (take (16 * l.n + 16) l.w ≡ schedule (4 * l.n) (state l.initial.k))
