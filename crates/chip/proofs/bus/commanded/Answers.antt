use borrow.Author.Tests.{eq-eqb, ne_eqb, not-true, not-false}
use Rattle.chip.proofs.Sets.{row_there}
use Rattle.chip.specs.Bus.{commanded}
use Rattle.chip.proofs.bus.commanded.Goals as goal

pub returns-then-x-eq-RESET : goal.returns-then-x-eq-RESET
unfolding commanded
returns-then-x-eq-RESET c = rw (eq-eqb _ _ c.if-x-eq-RESET.true, c.resting.ensures)

pub returns-then-x-eq-READ_STATUS : goal.returns-then-x-eq-READ_STATUS
unfolding commanded
returns-then-x-eq-READ_STATUS c = rw (
  ne_eqb _ _ c.if-x-eq-RESET.false,
  eq-eqb _ _ c.if-x-eq-READ_STATUS.true,
  ← c.in_command-within.ensures,
  c.resting-then-x-eq-READ_STATUS.ensures,
)

pub returns-then-not-within : goal.returns-then-not-within
unfolding commanded
returns-then-not-within c = rw (
  ne_eqb _ _ c.if-x-eq-RESET.false,
  ne_eqb _ _ c.if-x-eq-READ_STATUS.false,
  ← c.in_command-within.ensures,
  not-true c.in_command-within.result c.if-not-within.true-raw,
  c.started.ensures,
)

pub returns-then-r-ne-ALL_CYCLES : goal.returns-then-r-ne-ALL_CYCLES
unfolding commanded
returns-then-r-ne-ALL_CYCLES c = rw (
  ne_eqb _ _ c.if-x-eq-RESET.false,
  ne_eqb _ _ c.if-x-eq-READ_STATUS.false,
  ← c.in_command-within.ensures,
  not-false c.in_command-within.result
      c.if-not-within.false-raw,
  ne_eqb _ _ c.if-r-ne-ALL_CYCLES.true,
  c.resting-then-r-ne-ALL_CYCLES.ensures,
)

pub returns-then-x-second_of : goal.returns-then-x-second_of
unfolding commanded
returns-then-x-second_of c = rw (
  ne_eqb _ _ c.if-x-eq-RESET.false,
  ne_eqb _ _
      c.if-x-eq-READ_STATUS.false,
  ← c.in_command-within.ensures,
  not-false c.in_command-within.result c.if-not-within.false-raw,
  eq-eqb _ _ c.if-r-ne-ALL_CYCLES.false,
  ← c.second_of.ensures,
  ne_eqb _ _ c.if-x-second_of.true,
  c.resting-then-x-second_of.ensures,
)

pub performed-requires : goal.performed-requires
performed-requires c = let a = c.args in row_there a.image.now
    c.requires.0 a.r
    c.requires.1 c.if-r-ne-ALL_CYCLES.false

pub returns : goal.returns
unfolding commanded
returns c = rw (
  ne_eqb _ _ c.if-x-eq-RESET.false,
  ne_eqb _ _
      c.if-x-eq-READ_STATUS.false,
  ← c.in_command-within.ensures,
  not-false
      c.in_command-within.result
      c.if-not-within.false-raw,
  eq-eqb _ _
      c.if-r-ne-ALL_CYCLES.false,
  ← c.second_of.ensures,
  eq-eqb _ _
      c.if-x-second_of.false,
) c.performed.ensures
