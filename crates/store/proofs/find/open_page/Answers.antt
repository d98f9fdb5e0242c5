-- In the block that is found, the pages at its end that are empty are open.
use native.Mathlib.Omega.{arith}
use mathlib.Core.Path.{sym}
use Rattle.image.proofs.Looks.{sized}
use Rattle.store.proofs.find.open_page.Goals as goal

pub returns-in_err-b : goal.returns-in_err-b
returns-in_err-b c = rw c.from_residual.ensures (sym c.in_err-b.ensures)

pub overflow_mul-result : goal.overflow_mul-result
overflow_mul-result c = omega (arith, c.in_ok-b.ensures.inside, (sized c.args.image.now c.requires.0).most)

pub empty_from-requires : goal.empty_from-requires
empty_from-requires c = omega (arith, c.in_ok-b.ensures.inside, (sized c.args.image.now c.requires.0).full)

pub overflow_add-result : goal.overflow_add-result
overflow_add-result c = omega (arith, c.in_ok-b.ensures.inside, c.empty_from.ensures.1, (sized c.args.image.now c.requires.0).most)

pub returns : goal.returns
returns c = rw c.empty_from.ensures.0 (sym c.in_ok-b.ensures.lowest)
