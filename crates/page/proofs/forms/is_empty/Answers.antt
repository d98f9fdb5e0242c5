-- `page::forms::is_empty` meets its contract: a first byte that is not FFh decides.
use borrow.Author.Tests.{ne_eqb}
use native.Mathlib.Omega.{arith}
use mathlib.Core.Path.{sym, ap, ◌∙◌}
use lib.ListN.{drop_of_length-le}
use lib.Seq.{drop-cons}
use Rattle.base.specs.Each.{all_are}
use Rattle.page.specs.Form.{is_empty}
use Rattle.page.proofs.forms.is_empty.Goals as goal

pub returns-then-bytes-eq0 : goal.returns-then-bytes-eq0
unfolding is_empty all_are
returns-then-bytes-eq0 c = sym (ap is_empty (drop_of_length-le c.args.bytes.now {i = 0} (omega arith)))

pub returns-then-bytes : goal.returns-then-bytes
unfolding is_empty all_are
returns-then-bytes c =
    sym (ap is_empty (drop-cons c.args.bytes.now 0 0 (omega arith)) ∙ rw (ne_eqb _ _ c.if-bytes.true))
