use native.Mathlib.Omega.{arith}
use Rattle.chip.proofs.Sets.{pages_most}
use Rattle.chip.proofs.bus.moved.Goals as goal

pub overflow_cast-pages : goal.overflow_cast-pages
overflow_cast-pages c = let a = c.args in omega (
  arith,
  c.pages.ensures,
  pages_most a.image.now
      c.requires.0,
)
