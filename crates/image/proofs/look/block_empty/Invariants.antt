-- `look::block_empty`: a block is empty where its pages are, and all are where those left are.
use Prim.Native.Nat.{◌+◌, ◌-◌}
use mathlib.Core.Path.{◌≡◌}
use Rattle.base.specs.Search.{all_from}
use Rattle.image.specs.Size.{pages_in_block}
use Rattle.image.specs.Look.{page_empty, block_empty}
use Rattle.image.proofs.look.block_empty.Given as goal

abbrev pub invariant-loop-g : goal.invariant-loop-g
invariant-loop-g l = block_empty l.image l.b ≡ all_from (page_empty l.image) (l.first + pages_in_block - l.g) l.g
