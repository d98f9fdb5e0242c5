-- Past the last position nothing is read or set.
use native.Mathlib.Omega.{arith}
use mathlib.Core.Path.{◌≡◌, refl, sym}
use lib.ListN.{get_or, get_or-eq_default}
use lib.Seq.{set_out}
use borrow.Author.Tests.{eq-eqb, ne_eqb}
use Rattle.base.proofs.Choice.{true-false}
use Rattle.store.proofs.fit.mark_key.Goals as goal

pub returns-then-p-ge-POSITIONS : goal.returns-then-p-ge-POSITIONS
returns-then-p-ge-POSITIONS c =
    let a = c.args in
    let none : get_or a.table.now a.key 0 ≡ 0 = get_or-eq_default a.table.now 0 (omega arith) in
    (rw (none, ne_eqb 0 a.mark (λ e. omega arith)), λ _. sym (set_out a.table.now a.key a.mark (omega arith)))

pub returns-then-table-p : goal.returns-then-table-p
returns-then-table-p c = (rw (eq-eqb _ _ c.if-table-p.true), λ e. absurd (true-false e refl))

pub returns : goal.returns
returns c = (rw (ne_eqb _ _ c.if-table-p.false), λ _. refl)
