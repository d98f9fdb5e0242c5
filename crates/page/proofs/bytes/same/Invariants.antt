-- `page::bytes::same` meets its contract: the runs are the same where what was passed is and what is left.
use mathlib.Core.Path.{◌≡◌}
use mathlib.Core.Bool.{◌&&◌}
use lib.ListN.{drop}
use Rattle.base.specs.Each.{same}
use Rattle.page.proofs.bytes.same.Given as goal

abbrev pub invariant-loop-i : goal.invariant-loop-i
invariant-loop-i l = same l.a l.b ≡ l.all && same (drop l.i l.a) (drop l.i l.b)
