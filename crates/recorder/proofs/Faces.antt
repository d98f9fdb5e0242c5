-- What stands after a call of the store, as a C caller sees it.
use Prim.Native.Nat.{ℕ}
use mathlib.Core.Path.{◌≡◌, refl, ap, ap₂, ◌∙◌}
use mathlib.Core.List.{List}
use Rattle.store.specs.Reply.{Reply, number_of}
use Rattle.store.specs.Outcome.{Left, standing, answered}
use Rattle.store.specs.declared.Answer.{Answer}
use Rattle.store.specs.declared.Numbers.{Numbers}
use Rattle.recorder.specs.Face.{numbers_of, five_of, faced_with, faced, face}

-- an array that numbers were put into gives these numbers
pub numbers_of-five : (n : Numbers) → numbers_of (five_of n) ≡ n
numbers_of-five n = refl

-- a call that answers: its reply's number, and its numbers put into the array
pub faced-answer :
    (a : Answer) (img map letters lent : List ℕ) (l : Left) (r : ℕ) (five : List ℕ) →
    r ≡ number_of a.reply →
    five ≡ five_of a.numbers →
    standing a img map letters lent ≡ l →
    faced r img map letters five lent ≡ face l
unfolding face
faced-answer a img map letters lent l r five e f s =
    ap₂ (λ (m : ℕ) (xs : List ℕ). faced m img map letters xs lent) e f ∙ ap face s

-- a call that leaves the numbers
pub faced-reply :
    (v : Reply) (n : Numbers) (img map letters lent : List ℕ) (l : Left) (r : ℕ) →
    r ≡ number_of v →
    standing (answered v n) img map letters lent ≡ l →
    faced_with r img map letters n lent ≡ face l
unfolding face
faced-reply v n img map letters lent l r e s =
    ap (λ (m : ℕ). faced_with m img map letters n lent) e ∙ ap face s
