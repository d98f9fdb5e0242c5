-- The rules of the tables. That of the S-box is one test, computed over all 256 entries, and lifted to every entry by
-- `table_rule`; that of the round table follows from it.
use mathlib.Core.Path.{◌≡◌, refl, ◌∙◌, ap, sym}
use mathlib.Core.Bool.{Bool, true, false, ◌&&◌}
use mathlib.Core.List.{List, [], ◌∷◌, ◌++◌}
use Prim.Native.Nat.{ℕ, zero, suc, ◌+◌, ◌*◌, ◌<◌, min}
use native.Mathlib.Omega.{arith}
use borrow.Author.Tests.{eqb-true}
use lib.Dec.{T, eqb}
use lib.ListN.{length, get_or, take, drop}
use lib.Seq.{drop-cons, drop-drop, drop-nil}
use Rattle.base.specs.Part.{part}
use Rattle.base.proofs.Choice.{and-true}
use Rattle.base.proofs.Eachs.{table_rule}
use Rattle.cipher.specs.Field.{◌•◌, inverse}
use Rattle.cipher.specs.SBox.{affine, s_box}
use Rattle.cipher.specs.Table.{row0, s_box_table, doubled_columns, round_table}

is_true : (b : Bool) → T b → b ≡ true
is_true true t = refl
is_true false t = absurd t

-- ---- the S-box is the inverse in the field, then the affine map; and the inverse is one
s_box_test : ℕ → ℕ → Bool
unfolding ◌•◌ inverse affine
s_box_test k x = let i = inverse k in eqb x (affine i) && eqb (k • i) (min k 1)

module _ (k : ℕ) (h : k < 256) where
  tested : (get_or s_box_table k 0 ≡ s_box k) × (k • inverse k ≡ min k 1)
  unfolding s_box_table s_box_test s_box
  tested =
      let t = and-true (eqb (get_or s_box_table k 0) (affine (inverse k))) (eqb (k • inverse k) (min k 1)) (is_true _ (table_rule s_box_test s_box_table tt k h)) in
      (eqb-true (get_or s_box_table k 0) (affine (inverse k)) t.0, eqb-true (k • inverse k) (min k 1) t.1)

  pub s_box_rule : get_or s_box_table k 0 ≡ s_box k
  s_box_rule = tested.0

  -- the product of a byte with its inverse is 1, and 0 for the byte 0
  pub inverse_rule : k • inverse k ≡ min k 1
  inverse_rule = tested.1

-- ---- the round table: 8 bytes to an entry, the column that MixColumns makes of the S-box byte in row 0, twice
doubled_drop : (l : List ℕ) (k : ℕ) → drop (8 * k) (doubled_columns l) ≡ doubled_columns (drop k l)
unfolding doubled_columns
doubled_drop l zero = refl
doubled_drop [] (suc k) = drop-nil (8 * suc k)
doubled_drop (s ∷ l) (suc k) =
    let e : 8 * suc k ≡ 8 + 8 * k = omega arith in
    ap (λ (n : ℕ). drop n (doubled_columns (s ∷ l))) e
    ∙ sym (drop-drop (8 * k) 8 (doubled_columns (s ∷ l)))
    ∙ doubled_drop l k

doubled_part : (l : List ℕ) (k : ℕ) → k < length l → part (doubled_columns l) (8 * k) 8 ≡ row0 (get_or l k 0) ++ row0 (get_or l k 0)
unfolding doubled_columns part
doubled_part l k h = ap (take 8) (doubled_drop l k ∙ ap doubled_columns (drop-cons l k 0 h))

pub round_table_rule : (k : ℕ) → k < 256 → part round_table (8 * k) 8 ≡ row0 (s_box k) ++ row0 (s_box k)
unfolding round_table s_box_table
round_table_rule k h = doubled_part s_box_table k h ∙ ap (λ (s : ℕ). row0 s ++ row0 s) (s_box_rule k h)
