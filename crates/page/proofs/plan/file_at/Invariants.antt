-- `page::plan::file_at` meets its contract: no file before this one has the place.
use Prim.Native.Nat.{◌≤◌}
use Rattle.page.specs.Plan.{file_plan, start_of}
use Rattle.page.proofs.plan.file_at.Given as goal

abbrev pub invariant-loop-file : goal.invariant-loop-file
invariant-loop-file l = start_of file_plan l.file ≤ l.x
