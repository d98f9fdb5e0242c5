-- `page::forms::all_erased` meets its contract: all bytes are FFh where those passed are and those from there on.
use native.Mathlib.Omega.{arith}
use native.Mathlib.Numerals.{add-one}
use mathlib.Core.Path.{sym, ◌∙◌}
use lib.ListN.{drop_of_length-le}
use lib.Seq.{drop-cons}
use Rattle.base.specs.Each.{all_are}
use Rattle.base.proofs.Choice.{and_assoc, and-passed}
use Rattle.page.specs.Form.{is_empty}
use Rattle.page.proofs.forms.all_erased.Goals as goal

pub loop-b-preserved : goal.loop-b-preserved
unfolding is_empty all_are
loop-b-preserved c =
    let l = c.loop-b in
    l.invariant
    ∙ rw (drop-cons c.args.bytes.now l.b-index 0 (omega arith), add-one)
    (and_assoc l.all _ _)

pub returns : goal.returns
unfolding is_empty all_are
returns c =
    let l = c.loop-b in
    sym (l.invariant ∙ rw (drop_of_length-le c.args.bytes.now {i = l.b-index} (omega arith)) (and-passed l.all))
