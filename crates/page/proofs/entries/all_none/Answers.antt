-- `page::entries::all_none` meets its contract: the numbers are handed on one by one.
use Prim.Native.Nat.{ℕ, suc, ◌+◌}
use native.Mathlib.Omega.{arith}
use mathlib.Core.Path.{◌≡◌, sym, ◌∙◌}
use mathlib.Core.Bool.{Bool, ◌&&◌}
use lib.Dec.{eqb}
use lib.ListN.{get_or}
use Rattle.base.specs.Search.{all_from}
use Rattle.base.proofs.Choice.{and-passed}
use Rattle.page.specs.Entry.{none}
use Rattle.page.proofs.Slices.{get_d_there}
use Rattle.page.proofs.entries.all_none.Goals as goal

-- four in a row, one by one
four_of : (p : ℕ → Bool) (x : ℕ) → all_from p 4 x ≡ (p x && (p (x + 1) && (p (x + 2) && p (x + 3))))
unfolding all_from
four_of p x =
    let a : suc x ≡ x + 1 = omega arith in
    let b : suc (x + 1) ≡ x + 2 = omega arith in
    let c : suc (x + 2) ≡ x + 3 = omega arith in
    rw (a, b, c, and-passed (p (x + 3)))

pub returns : goal.returns
returns c =
    let a = c.args in
    let m = a.map.now in
    c.are_none.ensures
    ∙ rw (get_d_there m a.at 0 none (omega arith), get_d_there m (a.at + 1) 0 none (omega arith), get_d_there m (a.at + 2) 0 none (omega arith), get_d_there m (a.at + 3) 0 none (omega arith))
    (sym (four_of (λ i. eqb (get_or m i none) none) a.at))
