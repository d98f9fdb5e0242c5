use borrow.Author.Tests.{eq-eqb, ne_eqb, lt-ltb, le-ltb, not-true, not-false}
use Rattle.chip.specs.Bus.{loaded}
use Rattle.chip.proofs.bus.loaded.Goals as goal

pub returns-then-not-takes_data : goal.returns-then-not-takes_data
unfolding loaded
returns-then-not-takes_data c = rw (← c.takes_data.ensures, not-true c.takes_data.result c.if-not-takes_data.true-raw) c.resting.ensures

pub returns-then-r-ne-ALL_CYCLES : goal.returns-then-r-ne-ALL_CYCLES
unfolding loaded
returns-then-r-ne-ALL_CYCLES c = rw (
  ← c.takes_data.ensures,
  not-false c.takes_data.result
      c.if-not-takes_data.false-raw,
  ne_eqb _ _ c.if-r-ne-ALL_CYCLES.true,
) c.resting-then-r-ne-ALL_CYCLES.ensures

pub returns-then-r-ge-PAGE : goal.returns-then-r-ge-PAGE
unfolding loaded
returns-then-r-ge-PAGE c = rw (
  ← c.takes_data.ensures,
  not-false
      c.takes_data.result c.if-not-takes_data.false-raw,
  eq-eqb _ _
      c.if-r-ne-ALL_CYCLES.false,
  le-ltb _ _ c.if-r-ge-PAGE.true,
) c.resting-then-r-ge-PAGE.ensures

pub returns : goal.returns
unfolding loaded
returns c = rw (
  ← c.takes_data.ensures,
  not-false
      c.takes_data.result
      c.if-not-takes_data.false-raw,
  eq-eqb _ _ c.if-r-ne-ALL_CYCLES.false,
  lt-ltb _ _
      c.if-r-ge-PAGE.false,
)
