-- Only success has the number 0.
use native.Mathlib.Omega.{arith}
use mathlib.Core.Path.{◌≡◌, refl}
use Rattle.std.specs.Prelude.{true, false, Ok, Err, is_ok}
use Rattle.base.proofs.Choice.{true-false}
use Rattle.chip.specs.declared.Error.{Error}
use Rattle.chip.specs.declared.Error.TheVariants.{ImageSize, PageLength, Failed}
use Rattle.chip.specs.Reply.{Reply, number_of, error_number}

pub success_is_0 : (r : Reply) → is_ok r ≡ true → number_of r ≡ 0
success_is_0 (Ok done) t = refl
success_is_0 (Err error) t = absurd (true-false t refl)

pub error_is_not_0 : (error : Error) → error_number error ≡ 0 → ⊥
error_is_not_0 ImageSize e = omega (arith, e)
error_is_not_0 PageLength e = omega (arith, e)
error_is_not_0 Failed e = omega (arith, e)

pub refusal_is_not_0 : (r : Reply) → is_ok r ≡ false → number_of r ≡ 0 → ⊥
refusal_is_not_0 (Ok done) t e = true-false refl t
refusal_is_not_0 (Err error) t e = error_is_not_0 error e
