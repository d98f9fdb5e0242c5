-- A place is below the number of places.
use native.Mathlib.Omega.{arith}
use Rattle.page.specs.Plan.{file_plan}
use Rattle.page.proofs.Plans.{place_at_lem, plan_below}
use Rattle.store.proofs.record.place_at.Goals as goal

pub overflow_add-result : goal.overflow_add-result
overflow_add-result c =
    let a = c.args in
    let p = place_at_lem file_plan a.file a.offset c.requires.offset_right in
    let b = plan_below a.file a.offset _ p in
    omega (arith, c.start.ensures)

pub returns : goal.returns
returns c =
    let a = c.args in
    let p = place_at_lem file_plan a.file a.offset c.requires.offset_right in
    let b = plan_below a.file a.offset _ p in
    (omega (arith, c.start.ensures), omega (arith, c.start.ensures))
