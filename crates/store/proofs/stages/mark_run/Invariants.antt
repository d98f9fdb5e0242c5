-- A vacant run has no live page; else place by place.
use Prim.Native.Nat.{◌+◌}
use Rattle.store.specs.Stages.{LiveMarked}
use Rattle.store.proofs.stages.mark_run.Given as goal

abbrev pub invariant-loop-page : goal.invariant-loop-page
invariant-loop-page l = LiveMarked l.map l.marked (l.from + l.page-index)
