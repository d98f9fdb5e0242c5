-- `words::word` reads bytes as eight with zeros after them.
use Prim.Native.Nat.{ℕ, ◌-◌, ◌<◌}
use native.Mathlib.Omega.{arith}
use mathlib.Core.Path.{◌≡◌, sym, ap, subst, ◌∙◌}
use mathlib.Core.List.{List, ◌++◌}
use borrow.Author.Rules.{rules}
use borrow.Rule.Slice.PartMut.{put_mid}
use lib.ListN.{length, get_or, replicate, length-append, length-replicate}
use Rattle.base.specs.Part.{part}
use Rattle.base.proofs.Parts.{part_length}
use Rattle.page.proofs.Slices.{first_written, fits_before, fits_part}
use Rattle.page.proofs.WordLaws.{bytes_of_eight}
use Rattle.page.proofs.words.word.Goals as goal

pub returns : goal.returns
returns g c =
    let n = g.row.N in
    let a = c.args in
    let ys = part a.src.now a.at n in
    let fits : (i : ℕ) → get_or a.src.now i 0 < 256 = λ i. search rules in
    let l : length ys ≡ n = part_length a.src.now a.at n c.requires.0 in
    let xs : List ℕ = ys ++ replicate (8 - n) 0 in
    let e : put_mid 0 n (replicate 8 0) c.copy.new.dst ≡ xs =
    ap (put_mid 0 n (replicate 8 0)) (c.copy.ensures ∙ c.array_at.ensures) ∙ first_written 8 n 0 ys c.requires.1 l in
    let size : length xs ≡ 8 = simp (length-append, length-replicate) (omega (arith, l, c.requires.1)) in
    bytes_of_eight _ _ (ap length e ∙ size)
    (subst (λ (l : List ℕ). (i : ℕ) → get_or l i 0 < 256) (sym e) (fits_before (8 - n) 0 ys (omega arith) (fits_part a.src.now a.at n fits)))
    c.from_le_bytes.ensures
    ∙ e
