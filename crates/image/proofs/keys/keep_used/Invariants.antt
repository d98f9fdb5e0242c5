-- `keys::keep_used` goes slot by slot: with j slots done, the keys behind them stand as they did.
use Prim.Native.Nat.{◌-◌, ◌*◌}
use mathlib.Core.Path.{◌≡◌}
use mathlib.Core.List.{◌++◌}
use lib.ListN.{length, take, drop}
use Rattle.page.specs.Frame.{payload_size}
use Rattle.page.specs.Key.{key_size, keys_in_page}
use Rattle.image.specs.Block.{keys_from, kept_key}
use Rattle.image.proofs.keys.keep_used.Given as goal

abbrev pub invariant-loop-j : goal.invariant-loop-j
invariant-loop-j l =
    (drop (key_size * l.j) l.dst ≡ drop (key_size * l.j) l.initial.dst)
    × (keys_from (kept_key l.page l.letters l.initial.dst l.first) keys_in_page 0 ≡ take (key_size * l.j) l.dst ++ keys_from (kept_key l.page l.letters l.initial.dst l.first) (keys_in_page - l.j) l.j)
    × (length l.dst ≡ payload_size)
