-- `store::fit::places_fit` meets its contract, file by file: where one ends the next starts, and the last ends with the last place.
use native.Mathlib.Omega.{arith}
use native.Mathlib.Numerals.{add-one}
use mathlib.Core.Path.{◌≡◌, sym, ap, ◌∙◌}
use lib.ListN.{length}
use Rattle.page.specs.Plan.{file_plan, places, start_of}
use Rattle.page.proofs.Plans.{start_next, plan_sum}
use Rattle.store.proofs.PlaceTests.{tested_none, tested_all, tested_times}
use Rattle.store.proofs.fit.places_fit.Goals as goal

pub loop-file-init : goal.loop-file-init
unfolding start_of
loop-file-init c =
    tested_none c.args.image.now c.args.map.now c.args.named.now c.requires.1

pub loop-file-preserved : goal.loop-file-preserved
loop-file-preserved c =
    let p = c.file_fits in
    rw (add-one, start_next) (p.ensures.right c.if-not-file_fits.false)

pub returns : goal.returns
returns c =
    let l = c.loop-file in
    let a = c.args in
    let last : l.file ≡ length file_plan = omega arith in
    let e : start_of file_plan l.file ≡ places = ap (start_of file_plan) last ∙ plan_sum in
    let t = rw e at l.invariant in
    (sym (tested_all a.image.now a.map.now l.named t), λ _. tested_times a.image.now a.map.now l.named t)
