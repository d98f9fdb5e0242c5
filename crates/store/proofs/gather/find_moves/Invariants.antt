-- The loop's invariant: the places before place i have their pages, and the others follow the last of these.
use Rattle.store.proofs.GatherLoops.{Finding}
use Rattle.store.proofs.gather.find_moves.Given as goal

abbrev pub invariant-loop-i : goal.invariant-loop-i
invariant-loop-i l = Finding l.block l.image l.numbers l.at l.moves l.last l.i
