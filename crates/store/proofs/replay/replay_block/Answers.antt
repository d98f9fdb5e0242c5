-- `store::replay::replay_block` meets its contract: the block is empty, or the pages passed have done their part.
use Prim.Native.Nat.{◌-◌, ◌*◌}
use native.Mathlib.Omega.{arith}
use mathlib.Core.Path.{◌≡◌, sym, ◌∙◌}
use Rattle.image.specs.Size.{pages_in_block}
use Rattle.image.proofs.Looks.{sized}
use Rattle.store.specs.Replay.{pass}
use Rattle.store.proofs.Replays.{passed_none, passed_next, block_idle}
use Rattle.store.proofs.replay.replay_block.Goals as goal

pub returns-then-block_empty : goal.returns-then-block_empty
returns-then-block_empty c =
    let a = c.args in
    block_idle a.image.now a.covered a.b (pass a.map.now a.letters.now a.scratch.now a.seen.now)
    (omega (arith, c.requires.1, (sized a.image.now c.requires.0).most)) (sym c.block_empty.ensures ∙ c.if-block_empty.true)

pub loop-g-init : goal.loop-g-init
loop-g-init c =
    let a = c.args in
    let none : a.b * pages_in_block - a.b * pages_in_block ≡ 0 = omega arith in
    rw none (passed_none a.image.now a.covered (a.b * pages_in_block) (pass a.map.now a.letters.now a.scratch.now a.seen.now))

pub loop-g-preserved : goal.loop-g-preserved
loop-g-preserved c =
    let l = c.loop-g in
    let a = c.args in
    passed_next a.image.now a.covered (a.b * pages_in_block) l.g (pass a.map.now a.letters.now a.scratch.now a.seen.now)
    (pass l.map l.letters l.scratch l.seen) _ (omega arith) l.invariant c.replay_page.ensures
