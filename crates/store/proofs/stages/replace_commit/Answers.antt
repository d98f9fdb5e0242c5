-- The copy is made with what power there is, then the old block erased.
use native.Mathlib.Omega.{arith}
use Rattle.store.proofs.Spares.{spare_number, commit_moved_lem}
use Rattle.store.proofs.stages.replace_commit.Goals as goal

pub overflow_cast-b : goal.overflow_cast-b
overflow_cast-b c =
    let a = c.args in
    let b = c.requires.2 in
    omega (arith, b, spare_number a.image.now a.first a.p.numbers c.requires.0)

pub returns : goal.returns
returns c =
    let a = c.args in
    commit_moved_lem a.image.now _ _ a.p.power _ _ a.first a.p.numbers _ _ c.requires.2 a.map.now a.letters.now c.program_commit_block-copied.ensures c.erase_block-power.ensures c.with_commit.ensures
