-- Epochs start at 1.
use native.Mathlib.Omega.{arith}
use mathlib.Core.Path.{◌≡◌, sym, ap, ◌∙◌}
use lib.Dec.{ltb}
use borrow.Author.Tests.{eq-eqb, lt-ltb}
use Rattle.store.specs.declared.Kind.{Kind}
use Rattle.store.specs.Kind.{keys_epoch}
use Rattle.store.proofs.BlockKinds.{keys_range}
use Rattle.store.proofs.fit.is_keys.Goals as goal

pub returns-in-Keys : goal.returns-in-Keys
returns-in-Keys c =
    let a = c.args in
    let k = sym c.kind_of.ensures ∙ c.in-Keys.is in
    let q : c.in-Keys.unit ≡ a.q = omega arith in
    sym (ap (λ (t : Kind). ltb 0 (keys_epoch a.q t)) k ∙ rw (eq-eqb _ _ q) (lt-ltb 0 c.in-Keys.field-1 (keys_range a.image.now a.b _ _ k).1))
