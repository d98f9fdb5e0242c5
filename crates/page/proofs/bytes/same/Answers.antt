-- `page::bytes::same` meets its contract: the runs are the same where what was passed is and what is left.
use native.Mathlib.Omega.{arith}
use native.Mathlib.Numerals.{add-one}
use mathlib.Core.Path.{sym, ◌∙◌}
use lib.ListN.{drop_of_length-le}
use lib.Seq.{drop-cons}
use Rattle.base.specs.Each.{same}
use Rattle.base.proofs.Choice.{and_assoc, and-passed}
use Rattle.page.proofs.bytes.same.Goals as goal

pub loop-i-preserved : goal.loop-i-preserved
unfolding same
loop-i-preserved c =
    let l = c.loop-i in
    let r = c.args in
    l.invariant
    ∙ rw (drop-cons r.a.now l.i 0 (omega arith), drop-cons r.b.now l.i 0 (omega arith), add-one)
    (and_assoc l.all _ _)

pub returns : goal.returns
unfolding same
returns c =
    let l = c.loop-i in
    let r = c.args in
    sym (l.invariant ∙ rw (drop_of_length-le r.a.now {i = l.i} (omega arith), drop_of_length-le r.b.now {i = l.i} (omega arith)) (and-passed l.all))
