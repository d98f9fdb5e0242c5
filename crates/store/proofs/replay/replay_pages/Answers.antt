-- `store::replay::replay_pages` meets its contract: the blocks passed have done their part.
use Prim.Native.Nat.{◌*◌}
use native.Mathlib.Omega.{arith}
use mathlib.Core.Path.{◌≡◌}
use Rattle.image.specs.Size.{pages_in_block, pages}
use Rattle.image.proofs.Looks.{sized}
use Rattle.store.specs.Replay.{pass}
use Rattle.store.proofs.Replays.{passed_none, block_passed}
use Rattle.store.proofs.replay.replay_pages.Goals as goal

pub loop-b-init : goal.loop-b-init
loop-b-init c =
    let a = c.args in
    passed_none a.image.now a.covered 0 (pass a.map.now a.letters.now a.scratch.now a.seen.now)

pub loop-b-preserved : goal.loop-b-preserved
loop-b-preserved c =
    let l = c.loop-b in
    let a = c.args in
    block_passed a.image.now a.covered l.b (pass a.map.now a.letters.now a.scratch.now a.seen.now)
    (pass l.map l.letters l.scratch l.seen) _ l.invariant c.replay_block.ensures

pub returns : goal.returns
returns c =
    let l = c.loop-b in
    let e : l.b * pages_in_block ≡ pages c.args.image.now = omega (arith, (sized c.args.image.now c.requires).paged) in
    rw e at l.invariant
