use Rattle.chip.specs.Numbers.{cycles_in}
use borrow.Author.Tests.{lt-ltb, le-ltb}
use Rattle.chip.proofs.numbers.cycles_in.Goals as goal

pub returns-then-state-ge-STATES : goal.returns-then-state-ge-STATES
unfolding cycles_in
returns-then-state-ge-STATES c = search (lt-ltb, le-ltb)

pub returns-then-failed-ge2 : goal.returns-then-failed-ge2
unfolding cycles_in
returns-then-failed-ge2 c = search (lt-ltb, le-ltb)

pub returns : goal.returns
unfolding cycles_in
returns c = search (lt-ltb, le-ltb)
