-- `store::replay::read_part` meets its contract: the places passed have their entries, the others what they had.
use Prim.Native.Nat.{◌+◌}
use Rattle.store.specs.Replay.{EachPlace, part_read}
use Rattle.store.proofs.replay.read_part.Given as goal

abbrev pub invariant-loop-j : goal.invariant-loop-j
invariant-loop-j l = EachPlace (part_read l.payload l.first (l.first + l.j)) l.initial.map l.initial.scratch l.map l.scratch
