-- The record is made first, then the blocks that are not needed are erased with what power there is.
use Rattle.store.proofs.MountCalls.{survey_commit, survey_kind, survey_ranges, pages_refuse, mount-left, mount_sweeping, commit_block}
use Rattle.store.proofs.mount.mount_chosen.Goals as goal

pub rebuild_record-requires : goal.rebuild_record-requires
rebuild_record-requires c =
    let a = c.args in
    let m = c.requires.mount_chosen in
    let e = survey_commit a.image.now a.s c.requires.s_value.0 _ (commit_block a.s a.chosen c.requires.s_value.1) in
    (m.size, survey_kind a.image.now a.s c.requires.s_value.0 m.commit_there _ e)

pub returns-in_default : goal.returns-in_default
returns-in_default c =
    let a = c.args in
    let r = c.in_default.ensures in
    rw (c.refused.ensures, c.none.ensures)
    (pages_refuse a.image.now a.map.now a.letters.now a.scratch.now c.requires.mount_chosen a.n a.k _ _ _ _ (survey_commit a.image.now a.s c.requires.s_value.0 _ (commit_block a.s a.chosen c.requires.s_value.1)) r.0 r.1)

pub numbers_of-numbers-requires : goal.numbers_of-numbers-requires
numbers_of-numbers-requires c =
    let a = c.args in
    let m = c.requires.mount_chosen in
    (survey_ranges a.image.now a.s c.requires.s_value.0 m.size m.commit_there m.keys0_there m.keys1_there _ c.in-Some.ensures.highest_made, c.requires.s_value.1)

pub erase_swept-power-requires : goal.erase_swept-power-requires
erase_swept-power-requires c =
    let a = c.args in
    mount_sweeping a.image.now a.map.now a.letters.now a.scratch.now c.requires.mount_chosen a.n a.k _ _ _ _
    (survey_commit a.image.now a.s c.requires.s_value.0 _ (commit_block a.s a.chosen c.requires.s_value.1))
    _ a.s _ c.in-Some.ensures c.requires.s_value.0
    c.numbers_of-numbers.ensures

pub returns : goal.returns
returns c =
    let a = c.args in
    rw c.taken.ensures
    (mount-left a.image.now a.map.now a.letters.now a.scratch.now c.requires.mount_chosen a.n a.k _ _ _ _ (survey_commit a.image.now a.s c.requires.s_value.0 _ (commit_block a.s a.chosen c.requires.s_value.1))
    _ _ a.s _ _ c.in-Some.ensures c.requires.s_value.0
    c.numbers_of-numbers.ensures (rw c.power_for.ensures at c.erase_swept-power.ensures))
