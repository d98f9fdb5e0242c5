-- The copy is made with what power there is, then the old block erased.
use native.Mathlib.Omega.{arith}
use Rattle.store.proofs.Spares.{spare_inside, spare_number, old_keys_inside, keys_apart-spare, keys_moved_lem}
use Rattle.store.proofs.stages.replace_keys.Goals as goal

pub program_key_block-copied-requires : goal.program_key_block-copied-requires
program_key_block-copied-requires c =
    let a = c.args in
    let b = c.requires.2 in
    let o = c.keys_block-old.ensures in
    let able = c.requires.0 in (
      rw b (spare_inside a.image.now a.first a.p.numbers able),
      rw o (old_keys_inside a.image.now a.first a.p.numbers able a.q),
      c.requires.1,
      rw (b, o) (keys_apart-spare a.image.now a.first a.p.numbers able a.q),
    )

pub overflow_cast-b : goal.overflow_cast-b
overflow_cast-b c =
    let a = c.args in
    let b = c.requires.2 in
    omega (arith, b, spare_number a.image.now a.first a.p.numbers c.requires.0)

pub returns : goal.returns
returns c =
    let a = c.args in
    keys_moved_lem a.image.now _ _ a.p.power _ _ a.first a.p.numbers _ _ c.requires.2 a.letters.now a.noise.now a.q _ c.keys_block-old.ensures c.program_key_block-copied.ensures c.erase_block-power.ensures c.with_keys.ensures
