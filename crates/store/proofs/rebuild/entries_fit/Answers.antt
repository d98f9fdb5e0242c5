-- All fit where those left do, run by run.
use native.Mathlib.Omega.{arith}
use mathlib.Core.Path.{sym, ◌∙◌}
use Rattle.base.proofs.Searches.{all_none}
use Rattle.page.specs.Plan.{places}
use Rattle.store.specs.Testing.{run_length}
use Rattle.store.proofs.PlaceTests.{all_run_passes, all_run_fails}
use Rattle.store.proofs.rebuild.entries_fit.Goals as goal

pub returns-then-not-run_entries_fit : goal.returns-then-not-run_entries_fit
returns-then-not-run_entries_fit c =
    let l = c.loop-x in
    sym (l.invariant.2 ∙ all_run_fails _ places l.x run_length (omega arith) (sym c.run_entries_fit.ensures ∙ c.if-not-run_entries_fit.true))

pub loop-x-preserved : goal.loop-x-preserved
loop-x-preserved c =
    let l = c.loop-x in
    (omega arith, omega arith, l.invariant.2 ∙ all_run_passes _ places l.x run_length (omega arith) (sym c.run_entries_fit.ensures ∙ c.if-not-run_entries_fit.false))

pub returns : goal.returns
returns c = sym (c.loop-x.invariant.2 ∙ all_none _ places c.loop-x.x c.loop-x-test.false)
