use mathlib.Core.Path.{◌∙◌}
use borrow.Author.Tests.{lt-ltb, le-ltb, not-true, not-false}
use Rattle.chip.proofs.Sets.{open_small, judged_open, judged-column, judged-row, judged_inside}
use Rattle.chip.proofs.Sets.{open_small}
use Rattle.chip.specs.Bus.{located}
use Rattle.chip.proofs.bus.located.Goals as goal

pub returns-then-not-in_command : goal.returns-then-not-in_command
unfolding located
returns-then-not-in_command c = rw (← c.in_command.ensures, not-true c.in_command.result c.if-not-in_command.true-raw) c.resting.ensures

pub returns-then-r-ge-ALL_CYCLES : goal.returns-then-r-ge-ALL_CYCLES
unfolding located
returns-then-r-ge-ALL_CYCLES c = rw (
  ← c.in_command.ensures,
  not-false c.in_command.result
      c.if-not-in_command.false-raw,
  le-ltb _ _ c.if-r-ge-ALL_CYCLES.true,
) c.resting-then-r-ge-ALL_CYCLES.ensures

pub addressed-q-requires : goal.addressed-q-requires
addressed-q-requires c = let a = c.args in open_small a.pages a.r c.requires
    c.if-r-ge-ALL_CYCLES.false

pub returns-then-q-lt-ALL_CYCLES : goal.returns-then-q-lt-ALL_CYCLES
unfolding located
returns-then-q-lt-ALL_CYCLES c = let a = c.args in rw (
  ← c.in_command.ensures,
  not-false
      c.in_command.result c.if-not-in_command.false-raw,
  lt-ltb _ _
      c.if-r-ge-ALL_CYCLES.false,
) (judged_open a.pages a.x a.r c.addressed-q.result
    c.addressed-q.ensures c.if-q-lt-ALL_CYCLES.true)

pub returns-then-q-ge-PAGE : goal.returns-then-q-ge-PAGE
unfolding located
returns-then-q-ge-PAGE c = let a = c.args in rw (
  ← c.in_command.ensures,
  not-false
      c.in_command.result
      c.if-not-in_command.false-raw,
  lt-ltb _ _
      c.if-r-ge-ALL_CYCLES.false,
) (c.resting-then-q-ge-PAGE.ensures ∙ judged-column a.pages a.x a.r
    c.addressed-q.result c.addressed-q.ensures
    c.if-q-lt-ALL_CYCLES.false c.if-q-ge-PAGE.true)

pub returns-then-pages-q : goal.returns-then-pages-q
unfolding located
returns-then-pages-q c = let a = c.args in rw (
  ← c.in_command.ensures,
  not-false
      c.in_command.result
      c.if-not-in_command.false-raw,
  lt-ltb _ _
      c.if-r-ge-ALL_CYCLES.false,
) (c.resting-then-pages-q.ensures ∙ judged-row a.pages a.x a.r
    c.addressed-q.result
    c.addressed-q.ensures c.if-q-lt-ALL_CYCLES.false
    c.if-q-ge-PAGE.false c.if-pages-q.true)

pub returns : goal.returns
unfolding located
returns c = let a = c.args in rw (
  ← c.in_command.ensures,
  not-false
      c.in_command.result
      c.if-not-in_command.false-raw,
  lt-ltb _ _
      c.if-r-ge-ALL_CYCLES.false,
) (judged_inside a.pages a.x a.r
    c.addressed-q.result c.addressed-q.ensures
    c.if-q-lt-ALL_CYCLES.false c.if-q-ge-PAGE.false c.if-pages-q.false)
