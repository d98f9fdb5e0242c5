-- Place by place up to the file's end.
use Rattle.store.proofs.Records.{Removing}
use Rattle.store.proofs.record.remove.Given as goal

abbrev pub invariant-loop-x : goal.invariant-loop-x
invariant-loop-x l = Removing l.file l.offset l.x-end l.initial.map l.initial.letters l.map l.letters l.x
