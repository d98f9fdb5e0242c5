-- Vacant places fit; else all fit where those left do.
use Prim.Native.Nat.{◌+◌}
use native.Mathlib.Omega.{arith}
use mathlib.Core.Path.{sym, ◌∙◌}
use Rattle.base.proofs.Searches.{all_next, all_fails, all_none}
use Rattle.store.specs.Testing.{run_length}
use Rattle.store.proofs.PlaceTests.{entries-run}
use Rattle.store.proofs.rebuild.run_entries_fit.Goals as goal

pub returns-then-is_vacant_run : goal.returns-then-is_vacant_run
returns-then-is_vacant_run c =
    let a = c.args in
    sym (entries-run a.image.now a.map.now run_length a.from (sym c.is_vacant_run.ensures ∙ c.if-is_vacant_run.true) a.scratch.now)

pub returns-then-not-entry_fits : goal.returns-then-not-entry_fits
returns-then-not-entry_fits c =
    let l = c.loop-x in
    let end = c.args.from + run_length in
    sym (l.invariant ∙ all_fails _ end l.x (omega arith) (sym c.entry_fits.ensures ∙ c.if-not-entry_fits.true))

pub loop-x-preserved : goal.loop-x-preserved
loop-x-preserved c =
    let l = c.loop-x in
    let end = c.args.from + run_length in
    l.invariant ∙ all_next _ end l.x (omega arith) (sym c.entry_fits.ensures ∙ c.if-not-entry_fits.false)

pub returns : goal.returns
returns c =
    let l = c.loop-x in
    sym (l.invariant ∙ all_none _ (c.args.from + run_length) l.x c.loop-x-test.false)
