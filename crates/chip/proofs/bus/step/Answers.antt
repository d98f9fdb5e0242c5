use mathlib.Core.Path.{sym, ◌∙◌}
use native.Mathlib.Omega.{arith}
use Rattle.image.specs.Size.{pages}
use Rattle.chip.proofs.Sets.{pages_most, counts_as-valid}
use borrow.Author.Tests.{not-true, not-false}
use Rattle.chip.specs.Bus.{replied, sent}
use Rattle.chip.proofs.bus.step.Goals as goal

pub returns-then-not-size_right : goal.returns-then-not-size_right
unfolding sent replied
returns-then-not-size_right c = (
  rw (← c.size_right.ensures, not-true c.size_right.result c.if-not-size_right.true-raw),
  rw (
    ← c.size_right.ensures,
    not-true c.size_right.result c.if-not-size_right.true-raw,
  ),
)

pub overflow_cast-n : goal.overflow_cast-n
overflow_cast-n c = omega (
  arith,
  c.pages-n.ensures,
  pages_most c.args.image.now (sym
      c.size_right.ensures ∙ not-false c.size_right.result c.if-not-size_right.false-raw),
)

pub moved-registers-requires : goal.moved-registers-requires
moved-registers-requires c = (
  sym c.size_right.ensures ∙ not-false
      c.size_right.result c.if-not-size_right.false-raw,
  rw (
    c.counts_as-q.ensures,
    c.pages-n.ensures,
  ) (counts_as-valid (pages c.args.image.now)
      c.args.r),
)

pub returns : goal.returns
unfolding sent replied
returns c = (
  rw (
    ← c.size_right.ensures,
    not-false
        c.size_right.result
        c.if-not-size_right.false-raw,
    ← c.pages-n.ensures,
    ← c.counts_as-q.ensures,
  ) c.moved-registers.ensures,
  rw (
    ← c.size_right.ensures,
    not-false
        c.size_right.result
        c.if-not-size_right.false-raw,
  ),
)
