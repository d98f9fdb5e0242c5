-- `blocks::program_commit_block` programs part after part: with i parts done, those from i on are left to run.
use Prim.Native.Nat.{◌-◌}
use mathlib.Core.Path.{◌≡◌}
use Rattle.page.specs.Entry.{parts}
use Rattle.image.specs.Power.{device, run}
use Rattle.image.specs.Block.{commit_block_page}
use Rattle.image.proofs.Rows.{row_steps}
use Rattle.image.proofs.blocks.program_commit_block.Given as goal

abbrev pub invariant-loop-i : goal.invariant-loop-i
invariant-loop-i l =
    run (row_steps l.b (commit_block_page l.epoch l.covered l.map l.letters) parts 0) (device l.initial.q l.initial.image)
    ≡ run (row_steps l.b (commit_block_page l.epoch l.covered l.map l.letters) (parts - l.i) l.i) (device l.q l.image)
