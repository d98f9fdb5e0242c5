-- What the code of a call leaves: on a power budget, as the form with n and k says; with more steps than it has, as the whole call.
use Prim.Native.Nat.{ℕ, ◌≤◌}
use native.Mathlib.Omega.{arith}
use native.Mathlib.Decide.{dec_lt}
use mathlib.Core.Path.{◌≡◌, refl, sym, ap, ◌∙◌}
use mathlib.Core.Bool.{Bool, true, false, cond}
use mathlib.Core.List.{List}
use lib.Dec.{leb, ltb}
use lib.ListN.{length}
use borrow.Author.Tests.{le-leb, lt-leb, lt-ltb, le-ltb}
use Rattle.image.specs.Step.{Step, play}
use Rattle.image.specs.Power.{Device, device, power_for, run}
use Rattle.image.specs.declared.Power.{Power}
use Rattle.image.proofs.Runs.{run-play, run_on}
use Rattle.store.specs.Reply.{Done, is_done}
use Rattle.store.specs.Record.{Record}
use Rattle.store.specs.Outcome.{Outcome, left, left_whole, most_steps}
use Rattle.std.specs.Prelude.{Err}
use Rattle.store.specs.declared.Error.TheVariants.{PowerCut}
use Rattle.store.proofs.Verdicts.{done-true}
use Rattle.store.proofs.Outcomes.{taken, leaves, left_taken, left_whole_lem}

-- the power lasted for m steps exactly if n is not below m
lasted : (m n : ℕ) → cond (leb m n) Done (Err PowerCut) ≡ cond (ltb n m) (Err PowerCut) Done
lasted m n =
    elim (dec_lt n m) [
      | yes h ↦ rw (lt-leb m n h, lt-ltb n m h)
      | no h ↦ rw (le-leb m n (omega arith), le-ltb n m (omega arith))
    ]

-- a call that was taken: its steps run on the budget, the reply by the power that is left
pub run-left : (n k : ℕ) {o : Outcome} {steps : List Step} {after : Record} {lent : List ℕ} (img img' : List ℕ) (q : Power) → o ≡ taken steps after lent
    → device q img' ≡ run steps (device (power_for n k) img) → leaves (cond q.on Done (Err PowerCut)) img' after lent ≡ left n k o img
run-left n k {steps = ss} {after = r} {lent = b} img img' q e d =
    let i : img' ≡ play n k ss img = ap (λ (x : Device). x.image) d ∙ run-play ss n k img in
    let p : q.on ≡ leb (length ss) n = ap (λ (x : Device). x.power.on) d ∙ run_on ss n k img in
    rw (i, p, lasted (length ss) n) (sym (left_taken n k img e))

-- power for as many steps as any call has: the plain call
pub whole-left : (n k : ℕ) (o : Outcome) (img : List ℕ) → length o.steps ≤ most_steps → most_steps ≤ n → left n k o img ≡ left_whole o img
unfolding left_whole
whole-left n k o img h e = left_whole_lem n k o img (omega arith)

-- taken or refused, a call has no more steps than where it is taken
pub taken_few : (n : ℕ) (o : Outcome) → (o.reply ≡ Done → length o.steps ≤ n) → (is_done o.reply ≡ false → length o.steps ≡ 0) → length o.steps ≤ n
taken_few n o t r = go (is_done o.reply) refl
  where
    go : (d : Bool) → is_done o.reply ≡ d → length o.steps ≤ n
    go true d = t (done-true o.reply d)
    go false d = omega (arith, r d)
