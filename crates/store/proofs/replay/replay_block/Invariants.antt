-- `store::replay::replay_block` meets its contract: the block is empty, or the pages passed have done their part.
use Prim.Native.Nat.{◌-◌, ◌*◌}
use Rattle.image.specs.Size.{pages_in_block}
use Rattle.store.specs.Replay.{pass, Passed}
use Rattle.store.proofs.replay.replay_block.Given as goal

abbrev pub invariant-loop-g : goal.invariant-loop-g
invariant-loop-g l =
    Passed l.image l.covered (l.g - l.b * pages_in_block) (l.b * pages_in_block) (pass l.initial.map l.initial.letters l.initial.scratch l.initial.seen) (pass l.map l.letters l.scratch l.seen)
