-- `blocks::program_key_block` programs page after page: with i pages done, those from i on are left to run, and the last copy stands.
use Prim.Native.Nat.{ℕ, ◌+◌, ◌*◌}
use native.Mathlib.Omega.{arith}
use mathlib.Core.Path.{◌≡◌, sym, ap, ◌∙◌}
use mathlib.Core.List.{List}
use lib.ListN.{length}
use Rattle.page.specs.Frame.{page_size}
use Rattle.image.specs.Size.{pages_in_block}
use Rattle.image.specs.Look.{block_at}
use Rattle.image.specs.Step.{program}
use Rattle.image.specs.Power.{device, act}
use Rattle.image.specs.Block.{renewed_key, key_block_steps, key_block_page}
use Rattle.image.proofs.Rows.{row_step}
use Rattle.image.proofs.Runs.{run_next, run_none, block_done_other}
use Rattle.image.proofs.KeyBlock.{keys_like, key_page-size, renewed_at_length}
use Rattle.image.proofs.blocks.program_key_block.Goals as goal

pub loop-i-preserved : goal.loop-i-preserved
loop-i-preserved c =
    let l = c.loop-i in
    let w = c.program_next_keys-q in
    let a = c.args in
    let key = renewed_key (block_at a.image.now a.last) a.letters.now a.noise.now in
    let page = key_block_page a.epoch a.block key in
    let size : length (page l.i) ≡ page_size =
    key_page-size a.epoch a.block key
    (renewed_at_length a.image.now a.letters.now a.noise.now a.last (omega arith) (omega arith)) (omega arith) l.i (omega arith) in
    let e : device w.result w.new.image ≡ act (row_step a.b page l.i) (device l.q l.image) =
    (rw l.invariant.0 at w.ensures)
    ∙ ap (λ (xs : List ℕ). act (program (a.b * pages_in_block + l.i) xs) (device l.q l.image))
    (keys_like a.epoch a.block l.i _ _ _ c.write_header.ensures c.keys.ensures) in (
      block_done_other (row_step a.b page l.i) l.q w.result l.image w.new.image a.last e (omega arith, size) (λ f. omega arith) ∙ l.invariant.0,
      l.invariant.1 ∙ run_next (row_step a.b page) pages_in_block l.i (device l.q l.image) (device w.result w.new.image) (omega arith) e,
    )

pub returns : goal.returns
unfolding key_block_steps
returns c = let l = c.loop-i in sym (l.invariant.1 ∙ run_none _ pages_in_block l.i _ c.loop-i-test.false)
