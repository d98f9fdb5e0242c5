-- The rows of a map's places.
use Prim.Native.Nat.{ℕ, suc, ◌+◌, ◌-◌, ◌<◌, ◌≤◌}
use native.Mathlib.Omega.{arith}
use native.Mathlib.Numerals.{add-one}
use mathlib.Core.Path.{◌≡◌, sym}
use mathlib.Core.List.{List, [], ◌++◌, append_assoc, append-nil}
use lib.ListN.{length, get_or}
use borrow.Author.Tests.{lt-ltb}
use Rattle.page.specs.Plan.{places}
use Rattle.page.specs.Entry.{none}
use Rattle.page.proofs.Slices.{get_d_there}
use Rattle.store.specs.Record.{map_size, page_of, key_of}
use Rattle.listing.specs.Listing.{file_of, offset_of, row, row_of, rows_from}

-- ---- one place, its page and key as code reads them
module _ (map : List ℕ) (x : ℕ) (l : length map ≡ map_size) (h : x < places) where
  page_there : page_of map x ≡ get_or map x 0
  page_there = get_d_there map x none 0 (omega arith)

  key_there : key_of map x ≡ get_or map (places + x) 0
  key_there = get_d_there map (places + x) none 0 (omega arith)

  pub row-none : get_or map x 0 ≡ none → row_of map x ≡ []
  unfolding row_of
  row-none e = rw (page_there, e)

  pub row-some : get_or map x 0 < 65536 → (get_or map x 0 ≡ none → ⊥)
      → row_of map x ≡ row (file_of x) (offset_of x) (get_or map x 0) (get_or map (places + x) 0)
  unfolding row_of
  row-some b d = rw (page_there, key_there, lt-ltb (get_or map x 0) none (ne_lt (get_or map x 0) b d))
    where
      ne_lt : (n : ℕ) → n < 65536 → (n ≡ none → ⊥) → n < none
      ne_lt n b d = omega (arith, d)

-- ---- rows in a loop, as the code has it: x goes up to n
pub rows_next : (map : List ℕ) (n x : ℕ) (t : List ℕ) {u : List ℕ} → x < n → u ≡ t ++ row_of map x
    → t ++ rows_from map (n - x) x ≡ u ++ rows_from map (n - (x + 1)) (x + 1)
unfolding rows_from
rows_next map n x t h e =
    let k : n - x ≡ suc (n - (x + 1)) = omega arith in
    rw (k, e, add-one) (sym (append_assoc t (row_of map x) (rows_from map (n - suc x) (suc x))))

pub rows_end : (map : List ℕ) (n x : ℕ) (t : List ℕ) → n ≤ x → t ++ rows_from map (n - x) x ≡ t
unfolding rows_from
rows_end map n x t h = let k : n - x ≡ 0 = omega arith in rw k (append-nil t)
