-- A vacant run has no live page; else place by place.
use Prim.Native.Nat.{◌+◌, ◌-◌}
use native.Mathlib.Omega.{arith}
use mathlib.Core.Path.{◌≡◌, sym, ◌∙◌}
use Rattle.store.specs.Testing.{run_length}
use Rattle.store.proofs.PlaceTests.{run-read}
use Rattle.store.proofs.Unused.{marked_run, marked_next}
use Rattle.store.proofs.stages.mark_run.Goals as goal

pub returns-then-is_vacant_run : goal.returns-then-is_vacant_run
returns-then-is_vacant_run c =
    let a = c.args in
    marked_run a.map.now a.marked.now run_length a.from (omega arith) (sym c.is_vacant_run.ensures ∙ c.if-is_vacant_run.true) c.requires.1

pub loop-page-preserved : goal.loop-page-preserved
loop-page-preserved c =
    let l = c.loop-page in
    let a = c.args in
    let next : a.from + (l.page-index + 1) ≡ a.from + l.page-index + 1 = omega arith in
    rw next (marked_next a.map.now l.marked _ (a.from + l.page-index) _ l.invariant (omega arith) (run-read a.map.now a.from (a.from + run_length - a.from) l.page-index c.loop-page-test.true (omega arith)) c.mark.ensures)
