-- `johvimaru_read` leaves what the store's call leaves, its reply as a number, and the length that it tells.
use Prim.Native.Nat.{ℕ}
use mathlib.Core.Path.{refl, ap}
use mathlib.Core.List.{[], ◌∷◌}
use Rattle.recorder.proofs.Faces.{faced-reply}
use Rattle.recorder.proofs.johvimaru_read.Goals as goal

pub returns-in-Ok : goal.returns-in-Ok
returns-in-Ok c =
    let e = c.in-Ok.ensures in
    rw (← c.numbers_of-before.ensures) (faced-reply _ _ _ _ _ _ _ _ refl e.0, ap (λ (n : ℕ). n ∷ []) e.1)

pub returns-in-Err : goal.returns-in-Err
returns-in-Err c =
    let e = c.in-Err.ensures in
    rw (← c.numbers_of-before.ensures) (faced-reply _ _ _ _ _ _ _ _ c.number.ensures e.0, ap (λ (n : ℕ). n ∷ []) e.1)
