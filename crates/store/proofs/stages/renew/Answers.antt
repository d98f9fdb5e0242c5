-- Each stage needs what the one before it leaves.
use native.Mathlib.Omega.{arith}
use mathlib.Core.Path.{refl, sym, ◌∙◌}
use Rattle.image.proofs.Looks.{size_same}
use Rattle.store.proofs.Spares.{keys0-onward, keys1-onward, commit_next, all_renewed}
use Rattle.store.proofs.stages.renew.Goals as goal

pub replace_keys-keys1-requires : goal.replace_keys-keys1-requires
replace_keys-keys1-requires c =
    let a = c.args in
    let w = c.replace_keys-keys0 in
    let one = keys0-onward a.letters.now a.noise.now a.image.now _ a.p.power _ a.first a.p.numbers _ c.requires.able.0 w.auto.image c.requires.able.2 w.ensures in
    (one.0.able, omega arith, c.lowest_spare-second.ensures)

pub replace_commit-last-requires : goal.replace_commit-last-requires
replace_commit-last-requires c =
    let a = c.args in
    let w = c.replace_keys-keys0 in
    let one = keys0-onward a.letters.now a.noise.now a.image.now _ a.p.power _ a.first a.p.numbers _ c.requires.able.0 w.auto.image c.requires.able.2 w.ensures in
    let v = c.replace_keys-keys1 in
    let two = keys1-onward a.letters.now a.noise.now _ _ _ _ a.first _ _ one.0.able v.auto.image (rw one.1 c.requires.able.3) v.ensures in
    (two.able, omega (arith, c.requires.le_sequence.0, two.sequence, one.0.sequence), c.lowest_spare-third.ensures)

pub erase_unused-power-requires : goal.erase_unused-power-requires
erase_unused-power-requires c =
    let a = c.args in
    let w = c.replace_keys-keys0 in
    let one = keys0-onward a.letters.now a.noise.now a.image.now _ a.p.power _ a.first a.p.numbers _ c.requires.able.0 w.auto.image c.requires.able.2 w.ensures in
    let v = c.replace_keys-keys1 in
    let two = keys1-onward a.letters.now a.noise.now _ _ _ _ a.first _ _ one.0.able v.auto.image (rw one.1 c.requires.able.3) v.ensures in
    size_same _ _ c.replace_commit-last.auto.image ∙ sym (size_same _ _ refl) ∙ two.able.size

pub next_epoch-requires : goal.next_epoch-requires
next_epoch-requires c =
    let a = c.args in
    let w = c.replace_keys-keys0 in
    let one = keys0-onward a.letters.now a.noise.now a.image.now _ a.p.power _ a.first a.p.numbers _ c.requires.able.0 w.auto.image c.requires.able.2 w.ensures in
    let v = c.replace_keys-keys1 in
    let two = keys1-onward a.letters.now a.noise.now _ _ _ _ a.first _ _ one.0.able v.auto.image (rw one.1 c.requires.able.3) v.ensures in
    let n = commit_next a.map.now a.letters.now _ _ _ _ a.first _ _ c.replace_commit-last.ensures in
    rw n (omega (arith, c.requires.le_sequence.1, two.epoch, one.0.epoch))

pub returns : goal.returns
returns c =
    let a = c.args in
    all_renewed a.map.now a.letters.now a.noise.now a.first _ _ _ _ _ _ _ _ _ c.replace_keys-keys0.ensures c.replace_keys-keys1.ensures c.replace_commit-last.ensures c.erase_unused-power.ensures c.next_epoch.ensures
