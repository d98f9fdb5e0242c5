-- `store::replay::remove_places` meets its contract: the places passed are taken, the others as they were.
use Rattle.page.specs.Entry.{none}
use Rattle.store.specs.Replay.{EachPlace}
use Rattle.store.proofs.Replays.{row_taken}
use Rattle.store.proofs.replay.remove_places.Given as goal

abbrev pub invariant-loop-x : goal.invariant-loop-x
invariant-loop-x l =
    EachPlace (row_taken (record { sequence = l.sequence; page = none; key = none }) l.first l.x) l.initial.map l.initial.scratch l.map l.scratch
