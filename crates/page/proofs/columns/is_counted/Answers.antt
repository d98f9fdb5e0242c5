-- `columns::is_counted` tests all eight columns at once.
use borrow.Author.Rules.{rules}
use native.Mathlib.Omega.{arith}
use lib.Bits.{and_le_r}
use Rattle.page.proofs.CountedWords.{rests_in, counted_none, counted-some}
use Rattle.page.proofs.columns.is_counted.Goals as goal

pub returns-then-digits-eq0 : goal.returns-then-digits-eq0
returns-then-digits-eq0 c = counted_none c.args.v (search rules) c.if-digits-eq0.true

pub overflow_add-over : goal.overflow_add-over
overflow_add-over c = omega (arith, and_le_r (rests_in c.args.v) 0x0f0f0f0f0f0f0f0f)

pub returns : goal.returns
returns c = counted-some c.args.v (search rules) c.if-digits-eq0.false
