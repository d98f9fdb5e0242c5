-- The last of the three tests asks for an empty block, which it hands on.
use Prim.Native.Nat.{◌+◌}
use native.Mathlib.Omega.{arith}
use mathlib.Core.Path.{sym}
use borrow.Author.Tests.{le-leb}
use Rattle.page.specs.Header.{last_number}
use Rattle.store.specs.Record.{held}
use Rattle.store.specs.Write.{fit_tests}
use Rattle.store.proofs.Verdicts.{verdict-done}
use Rattle.store.proofs.Refusals.{room_handed}
use Rattle.store.proofs.tests.test_renewal.Goals as goal

pub returns : goal.returns
returns c =
    let a = c.args in
    let fit = (verdict-done (fit_tests a.image.now (held a.lent)) (sym c.in_ok-refuse_unfit.ensures)).0 in
    rw (c.ok_or.ensures.value, c.lowest_empty.ensures, fit, le-leb (a.lent.numbers.epoch + a.more) last_number (omega arith)) (room_handed a.image.now)
