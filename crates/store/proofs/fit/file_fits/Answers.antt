-- `store::fit::file_fits` meets its contract, run by run.
use Prim.Native.Nat.{◌+◌}
use native.Mathlib.Omega.{arith}
use mathlib.Core.Path.{◌≡◌}
use Rattle.page.specs.Plan.{file_plan, count_of, start_of}
use Rattle.store.specs.Testing.{run_length}
use Rattle.store.proofs.PlaceTests.{file_runs}
use Rattle.store.proofs.fit.file_fits.Goals as goal

pub pass_run-requires : goal.pass_run-requires
pass_run-requires c =
    let l = c.loop-x in
    let i = l.invariant in
    let first = c.start-first.ensures in
    (c.requires.0, record { known = c.requires.1; start = omega (arith, first); after = i.0; row = omega arith; before = omega (arith, first, c.count.ensures, file_runs c.args.file c.requires.1) }, i.3)

pub returns-else-not-pass_run : goal.returns-else-not-pass_run
returns-else-not-pass_run c =
    let e : c.loop-x.x + run_length ≡ start_of file_plan c.args.file + count_of file_plan c.args.file
    = omega (arith, c.start-first.ensures, c.count.ensures, file_runs c.args.file c.requires.1) in
    rw e at c.if-not-pass_run.ensures
