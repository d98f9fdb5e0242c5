-- No commit has that many steps.
use native.Mathlib.Omega.{arith}
use mathlib.Core.Path.{◌∙◌}
use Rattle.store.specs.Record.{record_of}
use Rattle.store.specs.Commit.{commit_of}
use Rattle.store.proofs.Renewals.{commit-few}
use Rattle.store.proofs.Cuts.{whole-left}
use Rattle.store.proofs.commit.commit.Goals as goal

pub returns : goal.returns
returns c =
    let a = c.args in
    let r = record_of a.map.now a.letters.now a.numbers in
    c.commit_cut.ensures ∙ whole-left _ 0 (commit_of a.image.now r a.noise.now) a.image.now (commit-few a.image.now r a.noise.now) (omega arith)
