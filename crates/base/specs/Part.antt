-- A part of a list, and a list with a part replaced.
use Rattle.std.specs.Prelude.{ℕ, List, ◌++◌, length, take, drop}

module _ {A : Type 0} where
  -- the n elements of xs from a on
  unfoldable pub part : List A → ℕ → ℕ → List A
  part xs a n = take n (drop a xs)

  -- xs with ys from a on, in the place of as many elements
  unfoldable pub splice : List A → ℕ → List A → List A
  splice xs a ys = take a xs ++ (ys ++ drop (length ys) (drop a xs))
