use Prim.Native.Nat.{ℕ, zero, suc, ◌-◌}
use native.Mathlib.Omega.{arith}
use mathlib.Core.Path.{◌≡◌, refl, ap, ◌∙◌}
use Rattle.chip.specs.Registers.{address_fits, column_limit, row_limit}
use borrow.Author.Tests.{ne_eqb, lt-leb, lt-ltb, le-ltb}
use Rattle.chip.proofs.register_set.address_fits.Goals as goal

-- the row's cycles come after the two of the column
row-limit : (k : ℕ) → column_limit (k - 2) ≡ row_limit k
row-limit zero = refl
row-limit (suc zero) = refl
row-limit (suc (suc zero)) = refl
row-limit (suc (suc (suc zero))) = refl
row-limit (suc (suc (suc (suc k)))) =
    let e : suc (suc (suc (suc k))) - 2 ≡ suc (suc k) = omega arith in
    rw (e, ne_eqb (suc (suc k)) 0 (λ h. omega arith), ne_eqb (suc (suc k)) 1 (λ h. omega arith), lt-leb (suc (suc (suc (suc k)))) 2 (omega arith), ne_eqb (suc (suc (suc (suc k)))) 3 (λ h. omega arith))

pub returns-then-cycles-lt-ALL_CYCLES : goal.returns-then-cycles-lt-ALL_CYCLES
unfolding address_fits
returns-then-cycles-lt-ALL_CYCLES c =
    let row = c.limit-then-cycles-lt-ALL_CYCLES.ensures ∙ ap column_limit c.saturating_sub.ensures ∙ row-limit c.args.cycles in
    rw (lt-ltb _ _ c.if-cycles-lt-ALL_CYCLES.true, ← c.limit.ensures, ← row)

pub returns : goal.returns
unfolding address_fits
returns c = rw (le-ltb _ _ c.if-cycles-lt-ALL_CYCLES.false)
