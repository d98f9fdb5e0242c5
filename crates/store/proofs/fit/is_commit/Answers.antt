-- Epochs start at 1.
use mathlib.Core.Path.{sym, ap, ◌∙◌}
use lib.Dec.{ltb}
use borrow.Author.Tests.{lt-ltb}
use Rattle.store.specs.declared.Kind.{Kind}
use Rattle.store.specs.Kind.{commit_epoch}
use Rattle.store.proofs.BlockKinds.{commit_range}
use Rattle.store.proofs.fit.is_commit.Goals as goal

pub returns-in-Commit : goal.returns-in-Commit
returns-in-Commit c =
    let a = c.args in
    let k = sym c.kind_of.ensures ∙ c.in-Commit.is in
    sym (lt-ltb 0 c.in-Commit.field-0 (commit_range a.image.now a.b _ _ k).0) ∙ ap (λ (t : Kind). ltb 0 (commit_epoch t)) (sym k)
