-- `text::count` meets its contract: the letters one by one are those at the positions from 0 on.
use Rattle.std.proofs.Common.{rules, ℕ, zero, suc, ◌≡◌, ◌+◌, ◌∙◌, refl, sym, ap, Bool, cond, List, [], ◌∷◌, length, count_by}
use Rattle.std.proofs.lemmas.List.Sums.{sum_by-cons}
use lib.ListN.{get_or}
use lib.Dec.{eqb}
use Rattle.base.specs.Search.{count_from}
use Rattle.listing.specs.Listing.{total}
use Rattle.listing.proofs.text.count.Goals as goal

count-behind : (p : ℕ → Bool) (x : ℕ) (xs : List ℕ) (n i : ℕ) → count_from (λ k. p (get_or (x ∷ xs) k 0)) n (suc i) ≡ count_from (λ k. p (get_or xs k 0)) n i
unfolding count_from
count-behind p x xs zero i = refl
count-behind p x xs (suc n) i = ap (λ k. cond (p (get_or xs i 0)) 1 0 + k) (count-behind p x xs n (suc i))

count-each : (p : ℕ → Bool) (xs : List ℕ) → count_from (λ k. p (get_or xs k 0)) (length xs) 0 ≡ count_by p xs
unfolding count_from
count-each p [] = refl
count-each p (x ∷ xs) =
    ap (λ k. cond (p x) 1 0 + k) (count-behind p x xs (length xs) 0 ∙ count-each p xs) ∙ sym (sum_by-cons (λ y. cond (p y) 1 0) x xs)

pub returns : goal.returns
unfolding total
returns c =
    let p : ℕ → Bool = λ x. eqb x c.args.l in
    let e : c.count.result ≡ count_by p c.args.letters.now = search rules in
    e ∙ sym (count-each p c.args.letters.now) ∙ ap (λ n. count_from (λ k. p (get_or c.args.letters.now k 0)) n 0) (search rules)
