-- `store::fit::places_fit` meets its contract, file by file: where one ends the next starts, and the last ends with the last place.
use Rattle.page.specs.Plan.{file_plan, start_of}
use Rattle.store.specs.Testing.{Tested}
use Rattle.store.proofs.fit.places_fit.Given as goal

abbrev pub invariant-loop-file : goal.invariant-loop-file
invariant-loop-file l = Tested l.image l.map l.named (start_of file_plan l.file)
