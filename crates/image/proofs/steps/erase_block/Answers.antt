use mathlib.Core.Path.{sym}
use borrow.Author.Tests.{not-true, not-false}
use Rattle.image.proofs.Runs.{act_off}
use Rattle.image.proofs.Lent.{lent-erase}
use borrow.Author.Rules.{rules}
use Rattle.image.proofs.steps.erase_block.Goals as goal

pub returns-then-not-p : goal.returns-then-not-p
returns-then-not-p c = sym (act_off _ c.args.p c.args.image.now (not-true _ c.if-not-p.true))

pub returns : goal.returns
returns c =
    let a = c.args in
    lent-erase a.image.now a.p c.after_step.result (not-false _ c.if-not-p.false) c.after_step.ensures
    c.reach_of.result c.reach_of.ensures _
    a.b c.min-n.result (search rules) c.min-n.ensures
    c.fill.ensures
