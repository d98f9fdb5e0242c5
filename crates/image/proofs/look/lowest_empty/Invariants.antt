-- `look::lowest_empty` goes up to the first empty block.
use Prim.Native.Nat.{◌-◌}
use mathlib.Core.Path.{◌≡◌}
use Rattle.base.specs.Search.{first_from}
use Rattle.image.specs.Size.{blocks}
use Rattle.image.specs.Look.{block_empty, lowest_empty}
use Rattle.image.proofs.look.lowest_empty.Given as goal

abbrev pub invariant-loop-b : goal.invariant-loop-b
invariant-loop-b l = lowest_empty l.image ≡ first_from (block_empty l.image) (blocks l.image - l.b) l.b
