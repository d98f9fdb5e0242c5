-- `store::replay::read_entries` meets its contract: the places of the parts passed have their entries, the others hold none.
use Rattle.store.proofs.CommitReads.{PartsRead}
use Rattle.store.proofs.replay.read_entries.Given as goal

abbrev pub invariant-loop-part : goal.invariant-loop-part
invariant-loop-part l = PartsRead l.image l.c l.part l.map l.scratch
