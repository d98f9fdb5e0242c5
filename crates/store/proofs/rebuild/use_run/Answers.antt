-- Vacant places name nothing; else u stands at the positions that the places so far have named, so a letter that is u already is named twice.
use Prim.Native.Nat.{◌+◌, ◌-◌}
use native.Mathlib.Omega.{arith}
use mathlib.Core.Path.{◌≡◌, refl, sym, ◌∙◌}
use mathlib.Core.Bool.{true}
use borrow.Author.Tests.{not-true, not-false}
use Rattle.base.proofs.Choice.{true-false}
use Rattle.page.specs.Plan.{places}
use Rattle.store.specs.Testing.{run_length}
use Rattle.store.specs.Rebuild.{marks}
use Rattle.store.proofs.PlaceTests.{run-read}
use Rattle.store.proofs.Names.{tallied-run}
use Rattle.store.proofs.Markings.{marked_start, marked_next, marked_twice}
use Rattle.store.proofs.rebuild.use_run.Goals as goal

pub returns-then-is_vacant_run : goal.returns-then-is_vacant_run
returns-then-is_vacant_run c =
    let a = c.args in
    let v = sym c.is_vacant_run.ensures ∙ c.if-is_vacant_run.true in (
      λ _. marked_start a.map.now a.letters.now (a.from + run_length) (tallied-run a.map.now (marks a.letters.now) run_length a.from (omega arith) v c.requires.1),
      λ f. absurd (true-false refl f),
    )

pub returns-then-not-mark_key : goal.returns-then-not-mark_key
returns-then-not-mark_key c =
    let l = c.loop-key in
    let a = c.args in
    let same : places + (a.from + l.key-index) ≡ places + a.from + l.key-index = omega arith in
    let u = c.mark_key in (
      λ e. absurd (true-false e refl),
      λ _. marked_twice a.map.now a.letters.now l.letters (a.from + l.key-index) (omega arith) l.invariant _ (rw same (run-read a.map.now (places + a.from) (places + a.from + run_length - (places + a.from)) l.key-index c.loop-key-test.true (omega arith))) (not-false _ (sym u.ensures.0 ∙ c.if-not-mark_key.true)),
    )

pub loop-key-preserved : goal.loop-key-preserved
loop-key-preserved c =
    let l = c.loop-key in
    let a = c.args in
    let u = c.mark_key in
    let t : u.result ≡ true = c.if-not-mark_key.false in
    let same : places + (a.from + l.key-index) ≡ places + a.from + l.key-index = omega arith in
    let next : a.from + (l.key-index + 1) ≡ a.from + l.key-index + 1 = omega arith in
    rw next (marked_next a.map.now a.letters.now l.letters (a.from + l.key-index) (omega arith) l.invariant _ (rw same (run-read a.map.now (places + a.from) (places + a.from + run_length - (places + a.from)) l.key-index c.loop-key-test.true (omega arith))) _ (not-true _ (sym u.ensures.0 ∙ t)) (u.ensures.1 t))
