-- The loop's invariant: the places from x on are noted.
use Rattle.store.proofs.GatherPlaces.{NotedFrom}
use Rattle.store.proofs.gather.note_places.Given as goal

abbrev pub invariant-loop-x : goal.invariant-loop-x
invariant-loop-x l = NotedFrom l.map l.block l.x l.at
