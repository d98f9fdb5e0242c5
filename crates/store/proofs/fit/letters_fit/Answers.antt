-- All fit where those passed do and those still to come.
use Prim.Native.Nat.{ℕ, zero, suc, ◌+◌}
use native.Mathlib.Omega.{arith}
use borrow.Author.Rules.{rules}
use borrow.Author.Tests.{tests}
use mathlib.Core.Path.{◌≡◌, refl, sym, ◌∙◌}
use mathlib.Core.Bool.{Bool, true, beq, ◌&&◌}
use mathlib.Core.List.{List, []}
use lib.Dec.{eqb, leb}
use lib.ListN.{length, get_or, drop, drop_of_length-le}
use lib.Seq.{drop-cons}
use Rattle.std.specs.List.{fold, zip}
use Rattle.std.proofs.lemmas.Fn.{fold_over, fronts}
use Rattle.std.proofs.lemmas.List.Sums.{fold_push}
use Rattle.std.proofs.lemmas.Iterator.{zips, YieldsList-from_slice, YieldsList-from_zip}
use Rattle.base.specs.Search.{all_from}
use Rattle.base.proofs.Choice.{and_assoc, and-passed}
use Rattle.page.specs.Key.{positions}
use Rattle.page.specs.Entry.{is_letter, used_letter}
use Rattle.store.proofs.fit.letters_fit.Goals as goal

-- letter l fits, named so often
abbrev letter_by : ℕ → ℕ → Bool
letter_by l times = is_letter l && beq (eqb l used_letter) (leb 1 times)

-- the letters from position i on
folded : (ls ns : List ℕ) (n i : ℕ) (a : Bool) → i + n ≡ length ls → i + n ≡ length ns
    → fold (λ b p. b && letter_by p.0 p.1) a (zip (drop i ls) (drop i ns)) ≡ a && all_from (λ p. letter_by (get_or ls p 0) (get_or ns p 0)) n i
unfolding all_from
folded ls ns zero i a e f = let d : drop i ls ≡ [] = drop_of_length-le ls (omega arith) in rw d (sym (and-passed a))
folded ls ns (suc n) i a e f =
    rw (drop-cons ls i 0 (omega arith), drop-cons ns i 0 (omega arith))
    (folded ls ns n (suc i) (a && letter_by (get_or ls i 0) (get_or ns i 0)) (omega arith) (omega arith)
    ∙ sym (and_assoc a (letter_by (get_or ls i 0) (get_or ns i 0)) (all_from (λ p. letter_by (get_or ls p 0) (get_or ns p 0)) n (suc i))))

pub returns : goal.returns
returns c =
    let a = c.args in
    let given = YieldsList-from_zip {s = c.zip.result} (YieldsList-from_slice a.letters.now cc) (YieldsList-from_slice a.named.now cc) in
    fold_over (zips fronts fronts) _ _ (λ zs b. b ≡ fold (λ b p. b && letter_by p.0 p.1) true zs) _
    (λ zs b x r f' j k. let q : r ≡ b && letter_by x.0.now x.1.now = search (rules, tests) in (rw (fold_push, ← j) q, search rules))
    c.zip.result _ _ _ given.runs refl c.fold.ensures.ran
    ∙ folded a.letters.now a.named.now positions 0 true (sym c.told-letters) (sym c.told-named)
