-- All blocks are erased; then come the two key blocks and the commit, each on what power the one before left.
use native.Mathlib.Omega.{arith}
use Rattle.image.proofs.Looks.{sized}
use Rattle.store.proofs.Calls.{volume_run}
use Rattle.store.proofs.format.program_volume.Goals as goal

pub program_key_block-first-requires : goal.program_key_block-first-requires
program_key_block-first-requires c =
    let a = c.args in
    let w = sized a.image.now c.requires.0 in
    let k = c.erase_all-erased.auto.image in
    (omega (arith, w.full, w.fewest), omega (arith, w.full, w.fewest), omega arith, λ e. omega arith)

pub program_key_block-second-requires : goal.program_key_block-second-requires
program_key_block-second-requires c =
    let a = c.args in
    let w = sized a.image.now c.requires.0 in
    let k = c.program_key_block-first.auto.image in
    let j = c.erase_all-erased.auto.image in
    (omega (arith, w.full, w.fewest), omega (arith, w.full, w.fewest), omega arith, λ e. omega arith)

pub program_commit_block-requires : goal.program_commit_block-requires
program_commit_block-requires c =
    let a = c.args in
    let w = sized a.image.now c.requires.0 in
    let i = c.program_key_block-second.auto.image in
    let k = c.program_key_block-first.auto.image in
    let j = c.erase_all-erased.auto.image in
    omega (arith, w.full, w.fewest)

pub returns : goal.returns
returns c =
    let a = c.args in
    volume_run a.image.now a.noise.now a.letters.now a.map.now a.p _ _ _ _ _ _ _ _ c.requires.2 c.requires.1
    c.erase_all-erased.ensures c.program_key_block-first.ensures c.program_key_block-second.ensures c.program_commit_block.ensures
