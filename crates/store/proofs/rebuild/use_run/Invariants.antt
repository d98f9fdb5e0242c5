-- Vacant places name nothing; else u stands at the positions that the places so far have named, so a letter that is u already is named twice.
use Prim.Native.Nat.{◌+◌}
use Rattle.store.specs.Rebuild.{Marked}
use Rattle.store.proofs.rebuild.use_run.Given as goal

abbrev pub invariant-loop-key : goal.invariant-loop-key
invariant-loop-key l = Marked l.map l.initial.letters l.letters (l.from + l.key-index)
