-- `store::fit::pass_run` meets its contract: vacant places fit and name nothing.
use native.Mathlib.Omega.{arith}
use mathlib.Core.Path.{refl, sym, ◌∙◌}
use Prim.Native.Nat.{◌+◌}
use Rattle.base.proofs.Choice.{true-false}
use Rattle.store.specs.Testing.{run_length}
use Rattle.store.proofs.PlaceTests.{in_places, tested_run}
use Rattle.store.proofs.fit.pass_run.Goals as goal

pub is_vacant_run-requires : goal.is_vacant_run-requires
is_vacant_run-requires c =
    in_places c.args.file c.args.first c.args.from (c.args.from + run_length) c.requires.1

pub returns-then-is_vacant_run : goal.returns-then-is_vacant_run
returns-then-is_vacant_run c =
    let a = c.args in
    let h = in_places a.file a.first a.from (a.from + run_length) c.requires.1 in
    let v = sym c.is_vacant_run.ensures ∙ c.if-is_vacant_run.true in
    record {
      right = λ _. tested_run a.image.now a.map.now run_length a.from v a.named.now (omega arith) c.requires.2;
      wrong = λ f. absurd (true-false refl f);
    }
