-- Folds and lists over n numbers in a row, from i on.
use Rattle.std.specs.Prelude.{ℕ, zero, suc, List, [], ◌∷◌}

-- f at each of the numbers, in order, from the state s
unfoldable pub fold_from : {S : Type 0} → (ℕ → S → S) → ℕ → ℕ → S → S
fold_from f zero i s = s
fold_from f (suc n) i s = fold_from f n (suc i) (f i s)

-- the values of f at the numbers, in order
unfoldable pub list_from : {A : Type 0} → (ℕ → A) → ℕ → ℕ → List A
list_from f zero i = []
list_from f (suc n) i = f i ∷ list_from f n (suc i)
