-- `page::plan::file_at` meets its contract: no file before this one has the place.
use native.Mathlib.Omega.{arith}
use native.Mathlib.Numerals.{add-one}
use mathlib.Core.Path.{◌≡◌}
use Rattle.page.specs.Plan.{file_plan, last_file, start_of}
use Rattle.page.proofs.Plans.{start_next, plan_sum}
use Rattle.page.proofs.plan.file_at.Goals as goal

pub loop-file-init : goal.loop-file-init
unfolding start_of
loop-file-init c = omega arith

pub returns-then-x-start : goal.returns-then-x-start
returns-then-x-start c =
    let l = c.loop-file in
    let e = start_next file_plan l.file in
    (omega arith, l.invariant, omega (arith, e, rw add-one at c.start.ensures))

pub loop-file-preserved : goal.loop-file-preserved
loop-file-preserved c = omega (arith, c.start.ensures)

pub returns : goal.returns
returns c =
    let l = c.loop-file in
    let last : l.file ≡ last_file = omega arith in
    (omega arith, rw last at l.invariant, omega (arith, start_next file_plan last_file, plan_sum))
