-- Searches and counts over n numbers in a row, from i on.
use Rattle.std.specs.Prelude.{ℕ, zero, suc, ◌+◌, max, Bool, true, false, cond, ◌&&◌, ◌||◌, List, [], ◌∷◌, ltb, Option, Some, None}

-- the first that p holds of, or the number after them all
unfoldable pub first_from : (ℕ → Bool) → ℕ → ℕ → ℕ
first_from p zero i = i
first_from p (suc n) i = let r = first_from p n (suc i) in cond (p i) i r

-- what a search among n numbers has come to: the number found, or none
abbrev pub found : ℕ → ℕ → Option ℕ
found n i = cond (ltb i n) (Some i) None

-- how many p holds of
unfoldable pub count_from : (ℕ → Bool) → ℕ → ℕ → ℕ
count_from p zero i = 0
count_from p (suc n) i = cond (p i) 1 0 + count_from p n (suc i)

-- whether p holds of all
unfoldable pub all_from : (ℕ → Bool) → ℕ → ℕ → Bool
all_from p zero i = true
all_from p (suc n) i = let r = all_from p n (suc i) in p i && r

-- whether p holds of any
unfoldable pub any_from : (ℕ → Bool) → ℕ → ℕ → Bool
any_from p zero i = false
any_from p (suc n) i = let r = any_from p n (suc i) in p i || r

-- those that p holds of, in order
unfoldable pub which_from : (ℕ → Bool) → ℕ → ℕ → List ℕ
which_from p zero i = []
which_from p (suc n) i = let r = which_from p n (suc i) in cond (p i) (i ∷ r) r

-- the highest value of f, 0 where there is none
unfoldable pub highest_from : (ℕ → ℕ) → ℕ → ℕ → ℕ
highest_from f zero i = 0
highest_from f (suc n) i = max (f i) (highest_from f n (suc i))
