use mathlib.Core.Path.{sym, ◌∙◌}
use native.Mathlib.Omega.{arith}
use Rattle.chip.proofs.Sets.{pages_most}
use borrow.Author.Tests.{not-true, not-false}
use Rattle.chip.specs.Bus.{received}
use Rattle.chip.proofs.bus.fetch.Goals as goal

pub returns-then-not-size_right : goal.returns-then-not-size_right
unfolding received
returns-then-not-size_right c = rw (← c.size_right.ensures, not-true c.size_right.result c.if-not-size_right.true-raw)

pub overflow_cast-pages : goal.overflow_cast-pages
overflow_cast-pages c = omega (
  arith,
  c.pages.ensures,
  pages_most c.args.image.now (sym
      c.size_right.ensures ∙ not-false c.size_right.result c.if-not-size_right.false-raw),
)

pub returns-then-not-valid : goal.returns-then-not-valid
unfolding received
returns-then-not-valid c = rw (
  ← c.size_right.ensures,
  not-false c.size_right.result
      c.if-not-size_right.false-raw,
  ← c.pages.ensures,
  ← c.valid.ensures,
  not-true c.valid.result
      c.if-not-valid.true-raw,
)

pub returns : goal.returns
unfolding received
returns c = rw (
  ← c.size_right.ensures,
  not-false
      c.size_right.result c.if-not-size_right.false-raw,
  ← c.pages.ensures,
  ← c.valid.ensures,
  not-false c.valid.result c.if-not-valid.false-raw,
)
    c.shown.ensures
