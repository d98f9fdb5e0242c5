-- `blocks::erase_all` erases block after block: with b blocks done, those from b on are left to run.
use native.Mathlib.Omega.{arith}
use mathlib.Core.Path.{sym, ◌∙◌}
use Rattle.image.specs.Step.{erase}
use Rattle.image.specs.Block.{erases_from}
use Rattle.image.proofs.Runs.{run_next, run_none}
use Rattle.image.proofs.blocks.erase_all.Goals as goal

pub loop-b-preserved : goal.loop-b-preserved
loop-b-preserved c =
    let l = c.loop-b in
    l.invariant ∙ run_next erase _ l.b _ _ (omega arith) c.erase_block-q.ensures

pub returns : goal.returns
unfolding erases_from
returns c = let l = c.loop-b in sym (l.invariant ∙ run_none erase _ l.b _ c.loop-b-test.false)
