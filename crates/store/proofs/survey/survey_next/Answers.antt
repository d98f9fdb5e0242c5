-- Each kind of block changes its own part; of the others its epoch is 0.
use native.Mathlib.Omega.{arith}
use borrow.Author.Tests.{lt-ltb, le-ltb}
use mathlib.Core.Path.{sym, ◌∙◌}
use Rattle.store.proofs.Surveys.{next_keys0, next_keys1, next_commit, next_other_keys, other_stays}
use Rattle.store.proofs.survey.survey_next.Goals as goal
use Rattle.store.proofs.survey.survey_next.Goals.{then-s-epoch, else-s-epoch}

pub returns-in-Keys-eq0-default : goal.returns-in-Keys-eq0-default
returns-in-Keys-eq0-default c =
    let k = c.in-Keys-eq0-default in
    rw (k.is, c.better.ensures, c.max.ensures) (next_keys0 c.args.s c.args.b k.field-0 k.epoch (sym k.field-0-is ∙ k.field-0-test))

pub returns-in-Keys-eq1-default : goal.returns-in-Keys-eq1-default
returns-in-Keys-eq1-default c =
    let k = c.in-Keys-eq1-default in
    rw (k.is, c.better-in-Keys-eq1-default.ensures, c.max-in-Keys-eq1-default.ensures)
    (next_keys1 c.args.s c.args.b k.field-0 k.epoch (sym k.field-0-is ∙ k.field-0-test))

pub returns-after-s-epoch : goal.returns-after-s-epoch
returns-after-s-epoch c =
    let k = c.in-Commit in
    rw (k.is, c.better-in-Commit.ensures, c.max-in-Commit.ensures, ← next_commit c.args.s c.args.b k.epoch k.covered)
    (elim c.if-s-epoch.branch [
      | then-s-epoch w ↦ rw (w.result-is, lt-ltb _ _ w.if-s-epoch.true)
      | else-s-epoch w ↦ rw (w.result-is, le-ltb _ _ w.if-s-epoch.false)
    ])

pub returns-in-Keys : goal.returns-in-Keys
returns-in-Keys c = rw c.in-Keys.is (next_other_keys c.args.s c.args.b _ _ (λ z. omega arith) (λ z. omega arith))

pub returns-in-Other : goal.returns-in-Other
returns-in-Other c = rw c.in-Other.is (sym (other_stays c.args.s c.args.b))
