-- `store::replay::replay_pages` meets its contract: the blocks passed have done their part.
use Prim.Native.Nat.{◌*◌}
use Rattle.image.specs.Size.{pages_in_block}
use Rattle.store.specs.Replay.{pass, Passed}
use Rattle.store.proofs.replay.replay_pages.Given as goal

abbrev pub invariant-loop-b : goal.invariant-loop-b
invariant-loop-b l =
    Passed l.image l.covered (l.b * pages_in_block) 0 (pass l.initial.map l.initial.letters l.initial.scratch l.initial.seen) (pass l.map l.letters l.scratch l.seen)
