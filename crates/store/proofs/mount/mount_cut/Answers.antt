-- Refused with 1 or 2, all stays as lent; with 12 or 13, map, letters and scratch are cleared; else the blocks are chosen.
use native.Mathlib.Omega.{arith}
use borrow.Author.Rules.{rules}
use mathlib.Core.Path.{◌≡◌, refl, sym, ap, ◌∙◌}
use Rattle.image.proofs.Looks.{sized}
use Rattle.store.specs.Reply.{verdict}
use Rattle.store.proofs.Refusals.{handed_done, handed_refused}
use Rattle.store.proofs.MountCalls.{survey_tests, sizes_refuse, sizes_passed, blocks_refuse, blocks-passed}
use Rattle.store.proofs.mount.mount_cut.Goals as goal

pub returns-in-Err : goal.returns-in-Err
returns-in-Err c =
    let a = c.args in
    rw (c.refused.ensures, c.none.ensures)
    (sizes_refuse a.image.now a.map.now a.letters.now a.scratch.now a.n a.k _ (sym c.in-Err.is ∙ c.refuse_sizes.ensures) refl)

pub survey_blocks-s-requires : goal.survey_blocks-s-requires
survey_blocks-s-requires c =
    let a = c.args in
    let s = sizes_passed a.image.now a.map.now a.letters.now a.scratch.now _ (sym c.in_default.is ∙ c.refuse_sizes.ensures) refl in
    omega (arith, (sized a.image.now s.0).full)

pub mount_chosen-requires-clause-mount_chosen : goal.mount_chosen-requires-clause-mount_chosen
mount_chosen-requires-clause-mount_chosen c =
    let a = c.args in
    let found = handed_done _ _ _ (sym c.test_blocks.ensures ∙ c.in-Ok.is) in
    let m : c.unwrap-map.result.now ≡ a.map.now = search rules in
    let l : c.unwrap-letters.result.now ≡ a.letters.now = search rules in
    let s : c.unwrap-scratch.result.now ≡ a.scratch.now = search rules in
    rw (m, l, s)
    (blocks-passed a.image.now a.map.now a.letters.now a.scratch.now _ _ (sym c.in_default.is ∙ c.refuse_sizes.ensures) refl
    (sym found.0 ∙ ap verdict (survey_tests a.image.now _ c.survey_blocks-s.ensures)) refl)

pub returns-in-Err-test_blocks : goal.returns-in-Err-test_blocks
returns-in-Err-test_blocks c =
    let a = c.args in
    let found = handed_refused _ _ _ (sym c.test_blocks.ensures ∙ c.in-Err-test_blocks.is) in
    rw (c.refused-in-Err-test_blocks.ensures, c.none-in-Err-test_blocks.ensures)
    (blocks_refuse a.image.now a.map.now a.letters.now a.scratch.now a.n a.k _ _ _ _ _ (sym c.in_default.is ∙ c.refuse_sizes.ensures) refl
    (sym found ∙ ap verdict (survey_tests a.image.now _ c.survey_blocks-s.ensures)) refl c.clear_record.ensures)
