-- `store::fit::run_fits` meets its contract, place by place.
use Rattle.store.specs.Testing.{Tested}
use Rattle.store.proofs.fit.run_fits.Given as goal

abbrev pub invariant-loop-x : goal.invariant-loop-x
invariant-loop-x l = Tested l.image l.map l.named l.x
