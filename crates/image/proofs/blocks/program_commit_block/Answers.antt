-- `blocks::program_commit_block` programs part after part: with i parts done, those from i on are left to run.
use Prim.Native.Nat.{ℕ, ◌+◌, ◌*◌}
use native.Mathlib.Omega.{arith}
use mathlib.Core.Path.{◌≡◌, sym, ap, ◌∙◌}
use mathlib.Core.List.{List}
use Rattle.page.specs.Entry.{parts}
use Rattle.image.specs.Size.{pages_in_block}
use Rattle.image.specs.Step.{program}
use Rattle.image.specs.Power.{device, act}
use Rattle.image.specs.Block.{commit_block_steps, commit_block_page}
use Rattle.image.proofs.Rows.{row_step}
use Rattle.image.proofs.Runs.{run_next, run_none}
use Rattle.image.proofs.CommitBlock.{commit_like}
use Rattle.image.proofs.blocks.program_commit_block.Goals as goal

pub loop-i-preserved : goal.loop-i-preserved
loop-i-preserved c =
    let l = c.loop-i in
    let w = c.program_part-q in
    let a = c.args in
    let page = commit_block_page a.epoch a.covered a.map.now a.letters.now in
    let e : device w.result w.new.image ≡ act (row_step a.b page l.i) (device l.q l.image) =
    w.ensures
    ∙ ap (λ (xs : List ℕ). act (program (a.b * pages_in_block + l.i) xs) (device l.q l.image))
    (commit_like a.epoch l.i a.covered _ _ _ c.write_header.ensures c.commit.ensures) in
    l.invariant ∙ run_next (row_step a.b page) parts l.i (device l.q l.image) (device w.result w.new.image) (omega arith) e

pub returns : goal.returns
unfolding commit_block_steps
returns c = let l = c.loop-i in sym (l.invariant ∙ run_none _ parts l.i _ c.loop-i-test.false)
