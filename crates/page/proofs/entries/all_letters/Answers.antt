-- `page::entries::all_letters` meets its contract: all are letters where those passed are and those from there on.
use native.Mathlib.Omega.{arith}
use mathlib.Core.Path.{sym, ◌∙◌}
use Rattle.base.proofs.Choice.{and_assoc, and-passed}
use Rattle.base.proofs.Searches.{all_step, all_none}
use Rattle.page.specs.Frame.{payload_size}
use Rattle.page.proofs.entries.all_letters.Invariants.{letter_at}
use Rattle.page.proofs.entries.all_letters.Goals as goal

pub loop-b-preserved : goal.loop-b-preserved
loop-b-preserved c =
    let l = c.loop-b in
    let p = letter_at c.args.payload.now in
    l.invariant ∙ rw (all_step p payload_size l.b-index (omega arith), c.is_letter-all.ensures) (and_assoc l.all _ _)

pub returns : goal.returns
returns c =
    let l = c.loop-b in
    sym (l.invariant ∙ rw (all_none (letter_at c.args.payload.now) payload_size l.b-index (omega arith)) (and-passed l.all))
