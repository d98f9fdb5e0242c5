-- Refused, it leaves all as it was; taken, what the work leaves.
use borrow.Author.Rules.{rules}
use mathlib.Core.Path.{◌≡◌, refl, sym, ◌∙◌}
use Rattle.store.specs.Record.{record_of}
use Rattle.store.proofs.Refusals.{handed_done, handed_refused}
use Rattle.store.proofs.Renewals.{wipe_refuse, wipe-take}
use Rattle.store.proofs.wipe.wipe_cut.Goals as goal

pub returns-in-Err : goal.returns-in-Err
returns-in-Err c =
    let a = c.args in
    let r = record_of a.map.now a.letters.now a.numbers in
    let v = handed_refused _ _ c.in-Err.error (sym c.test_wipe.ensures ∙ c.in-Err.is) in
    rw c.refused.ensures (wipe_refuse a.image.now r a.noise.now a.file a.offset a.n a.k _ (sym v) refl)

pub wipe_taken-requires : goal.wipe_taken-requires
wipe_taken-requires c =
    let a = c.args in
    let r = record_of a.map.now a.letters.now a.numbers in
    let v = handed_done _ _ c.in-Ok.spare (sym c.test_wipe.ensures ∙ c.in-Ok.is) in
    let m : c.unwrap-map.result.now ≡ a.map.now = search rules in
    let l : c.unwrap-letters.result.now ≡ a.letters.now = search rules in
    let n : c.unwrap-noise.result.now ≡ a.noise.now = search rules in
    rw (m, l, n) (wipe-take a.image.now r a.noise.now a.file a.offset v.0, v.1)
