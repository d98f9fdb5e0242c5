-- `columns::get` reads columns as eight with spaces before them.
use Prim.Native.Nat.{ℕ, ◌-◌, ◌<◌}
use native.Mathlib.Omega.{arith}
use mathlib.Core.Path.{◌≡◌, refl, sym, ap, subst, ◌∙◌}
use mathlib.Core.List.{List, ◌++◌}
use borrow.Author.Rules.{rules}
use borrow.Rule.Slice.PartMut.{put_mid}
use lib.ListN.{length, get_or, replicate, length-append, length-replicate}
use Rattle.base.proofs.Parts.{part_length}
use Rattle.page.specs.Column.{number_in}
use Rattle.page.proofs.Slices.{last_written, fits_after, fits_part}
use Rattle.page.proofs.WordLaws.{bytes_of_eight}
use Rattle.page.proofs.ColumnValues.{number_short}
use Rattle.page.proofs.columns.get.Goals as goal

pub returns : goal.returns
returns g c =
    let n = g.row.N in
    let a = c.args in
    let ys = c.array_at.result.now in
    let fits : (i : ℕ) → get_or a.src.now i 0 < 256 = λ i. search rules in
    let l : length ys ≡ n = ap length c.array_at.ensures ∙ part_length a.src.now a.at n c.requires.0 in
    let xs : List ℕ = replicate (8 - n) 32 ++ ys in
    let e : put_mid (8 - n) (8 - (8 - n)) (replicate 8 32) c.copy.new.dst ≡ xs =
    ap (put_mid (8 - n) (8 - (8 - n)) (replicate 8 32)) c.copy.ensures ∙ last_written 8 n 32 ys c.requires.2 l in
    let size : length xs ≡ 8 = simp (length-append, length-replicate) (omega (arith, l, c.requires.2)) in
    c.number_of.ensures
    ∙ ap number_in (bytes_of_eight _ _ (ap length e ∙ size) (subst (λ (l : List ℕ). (i : ℕ) → get_or l i 0 < 256) (sym e) (fits_after (8 - n) 32 ys (omega arith) (rw c.array_at.ensures (fits_part a.src.now a.at n fits)))) c.from_le_bytes.ensures ∙ e)
    ∙ number_short n xs ys c.requires.1 l refl
    ∙ ap number_in c.array_at.ensures
