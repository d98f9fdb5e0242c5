-- The file and the offset of a place.
use Prim.Native.Nat.{ℕ, zero, suc, ◌+◌, ◌<◌, ◌≤◌}
use native.Mathlib.Omega.{arith}
use native.Mathlib.Decide.{dec_lt}
use mathlib.Core.Path.{◌≡◌, refl}
use mathlib.Core.Bool.{Bool}
use lib.Dec.{ltb}
use borrow.Author.Tests.{ltb-true, ltb-false}
use Rattle.base.specs.Search.{first_from}
use Rattle.base.proofs.Searches.{first_bounds, first_holds, first_least}
use Rattle.page.specs.Plan.{file_plan, last_file, places, count_of, start_of, place_of}
use Rattle.std.specs.Prelude.{Some}
use Rattle.page.proofs.Plans.{place_unique, start_next, start-after, plan_sum, from_places}
use Rattle.listing.specs.Listing.{file_of, offset_of}

-- the places of a file end within all places
pub file-end : (file : ℕ) → file ≤ last_file → start_of file_plan file + count_of file_plan file ≤ places
file-end file h = rw (← plan_sum) (start-after file_plan file 14 (omega arith))

-- a place is not before the start of its file
pub file-start : (x : ℕ) → start_of file_plan (file_of x) ≤ x
unfolding file_of start_of
file-start x = go (first_from p last_file 0) refl
  where
    p : ℕ → Bool
    p file = ltb x (start_of file_plan file + count_of file_plan file)

    go : (file : ℕ) → first_from p last_file 0 ≡ file → start_of file_plan file ≤ x
    go zero e = omega arith
    go (suc file) e = omega (arith, start_next file_plan file, ltb-false x _ (first_least p last_file 0 file (omega arith) (omega arith)))

-- and before the end of it
file_ends : (x : ℕ) → x < places → x < start_of file_plan (file_of x) + count_of file_plan (file_of x)
unfolding file_of
file_ends x h = go (first_from p last_file 0) refl
  where
    p : ℕ → Bool
    p file = ltb x (start_of file_plan file + count_of file_plan file)

    go : (file : ℕ) → first_from p last_file 0 ≡ file → x < start_of file_plan file + count_of file_plan file
    go file e =
        elim (dec_lt file last_file) [
          | yes l ↦ ltb-true x _ (rw e at (first_holds p last_file 0 (omega arith)))
          | no l ↦ let q : file ≡ last_file = omega (arith, first_bounds p last_file 0) in rw q (omega (arith, plan_sum, start_next file_plan last_file))
        ]

-- so they are the file and the offset of the place
pub file-place : (x : ℕ) → x < places → place_of file_plan (file_of x) (offset_of x) ≡ Some x
unfolding offset_of
file-place x h = (from_places file_plan (file_of x) 0 x (omega (arith, file-start x)) (file_ends x h)).1

-- and the only file that has it
pub file-found : (x file : ℕ) → x < places → start_of file_plan file ≤ x → x < start_of file_plan file + count_of file_plan file → file ≡ file_of x
file-found x file h a b =
    (place_unique file_plan file _ (file_of x) (offset_of x) x (from_places file_plan file 0 x (omega arith) b).1 (file-place x h)).0
