-- `blocks::program_key_block` programs page after page: with i pages done, those from i on are left to run, and the last copy stands.
use Prim.Native.Nat.{◌-◌}
use mathlib.Core.Path.{◌≡◌}
use Rattle.image.specs.Size.{pages_in_block}
use Rattle.image.specs.Look.{block_at}
use Rattle.image.specs.Power.{device, run}
use Rattle.image.specs.Block.{renewed_key, key_block_page}
use Rattle.image.proofs.Rows.{row_steps}
use Rattle.image.proofs.blocks.program_key_block.Given as goal

abbrev pub invariant-loop-i : goal.invariant-loop-i
invariant-loop-i l =
    (block_at l.image l.last ≡ block_at l.initial.image l.last)
    × (run (row_steps l.b (key_block_page l.epoch l.block (renewed_key (block_at l.initial.image l.last) l.letters l.noise)) pages_in_block 0) (device l.initial.q l.initial.image)
    ≡ run (row_steps l.b (key_block_page l.epoch l.block (renewed_key (block_at l.initial.image l.last) l.letters l.noise)) (pages_in_block - l.i) l.i) (device l.q l.image))
