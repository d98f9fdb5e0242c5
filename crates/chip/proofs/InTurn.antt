-- Steps in turn over the bus: all of them, and cycles that end between two bytes.
use Prim.Native.Nat.{ℕ, suc, ◌+◌, ◌-◌, ◌<◌, ◌≤◌}
use native.Mathlib.Omega.{arith}
use native.Mathlib.Decide.{dec_le}
use mathlib.Core.Path.{◌≡◌, refl, sym, ap, subst, ◌∙◌}
use mathlib.Core.Bool.{true}
use mathlib.Core.List.{List, [], ◌∷◌, ◌++◌}
use lib.ListN.{length, take}
use lib.Seq.{take-append-le, take-append-add, take-nil}
use Rattle.image.specs.Size.{size_right}
use Rattle.image.specs.Step.{Step, program, erase, Legal, AllLegal, up_to, whole, play}
use Rattle.image.proofs.Empties.{program-none, erase-none}
use Rattle.image.proofs.Plays.{play_nil, play-zero, play-suc, play_all_nil, play_all_cons}
use Rattle.chip.specs.declared.Cycle.{Cycle}
use Rattle.chip.specs.declared.Registers.{Registers}
use Rattle.chip.specs.Bus.{Chip, chip, run}
use Rattle.chip.specs.Claim.{cycles_of, cycles_of_all, drives_all, AllLand, EndsBetween}
use Rattle.chip.proofs.Moves.{run-append, run_nil}
use Rattle.chip.proofs.Claims.{lands, firsts, length_split, undone, complete, run-legal, run-right}

whole-right : (s : Step) (r : Registers) (img : List ℕ) → size_right img ≡ true → Legal img s → size_right (whole s img) ≡ true
whole-right s r img right legal = ap size_right (sym (run-legal s r img right legal)) ∙ run-right (cycles_of s) (chip r img) ∙ right

pub all_land : AllLand
unfolding drives_all
all_land [] r img right legal = (refl, sym (play_all_nil img))
all_land (s ∷ ss) r img right legal =
    let next = all_land ss _ (whole s img) (whole-right s r img right legal.0) legal.1 in
    rw (lands s r img right legal.0) (next.0, next.1 ∙ sym (play_all_cons s ss img))

-- ---- no byte of a step
step-none : (s : Step) (img : List ℕ) → Legal img s → up_to 0 s img ≡ img
step-none (program g page) img legal = program-none g page img legal.0.0 legal.1
step-none (erase b) img legal = erase-none b img

play-none : (ss : List Step) (img : List ℕ) → AllLegal img ss → play 0 0 ss img ≡ img
play-none [] img legal = play_nil 0 0 img
play-none (s ∷ ss) img legal = play-zero 0 s ss img ∙ step-none s img legal.0

-- ---- after j cycles of a step and of those behind it
module _ (s : Step) (ss : List Step) (r : Registers) (img : List ℕ) (right : size_right img ≡ true) (legal : AllLegal img (s ∷ ss)) where
  abbrev after : ℕ → Chip
  after j = run (take j (cycles_of s ++ cycles_of_all ss)) (chip r img)

  -- before the second command byte
  before-second : (j : ℕ) → j ≤ length (firsts s) → (after j).image ≡ play 0 0 (s ∷ ss) img
  before-second j h =
      let l = length_split s r img right legal.0 in
      ap (λ (cs : List Cycle). (run cs (chip r img)).image) (take-append-le j (cycles_of s) (cycles_of_all ss) (omega arith))
      ∙ undone s r img right legal.0 j h
      ∙ sym (play-none (s ∷ ss) img legal)

  -- from it on, within the step
  behind_second : (j : ℕ) → length (firsts s) < j → j ≤ length (cycles_of s) → (after j).image ≡ play 1 0 (s ∷ ss) img
  behind_second j h k =
      let e : length (firsts s) + suc (j - length (firsts s) - 1) ≡ j = omega arith in
      ap (λ (cs : List Cycle). (run cs (chip r img)).image) (take-append-le j (cycles_of s) (cycles_of_all ss) k)
      ∙ subst (λ (i : ℕ). (run (take i (cycles_of s)) (chip r img)).image ≡ whole s img) e (complete s r img right legal.0 (j - length (firsts s) - 1))
      ∙ sym (play-suc 0 0 s ss img ∙ play-none ss (whole s img) legal.1)

  -- among the cycles of the steps behind it
  abbrev at_end : Chip
  at_end = run (cycles_of s) (chip r img)

  behind_step : (i : ℕ) → after (length (cycles_of s) + i) ≡ run (take i (cycles_of_all ss)) (chip at_end.registers (whole s img))
  behind_step i =
      ap (λ (cs : List Cycle). run cs (chip r img)) (take-append-add (cycles_of s) (cycles_of_all ss) i)
      ∙ run-append (cycles_of s) (take i (cycles_of_all ss)) (chip r img)
      ∙ ap (λ (now : List ℕ). run (take i (cycles_of_all ss)) (chip at_end.registers now)) (run-legal s r img right legal.0)

pub ends_between : EndsBetween
unfolding cycles_of_all
ends_between [] r img right legal j = (
  0,
  omega arith,
  ap (λ (cs : List Cycle). (run cs (chip r img)).image) (take-nil j) ∙ ap (λ (d : Chip). d.image) (run_nil (chip r img)) ∙ sym
      (play_nil 0 0 img),
)
ends_between (s ∷ ss) r img right legal j =
    elim (dec_le j (length (firsts s))) [
      | yes h ↦ (0, omega arith, before-second s ss r img right legal j h)
      | no h ↦ elim (dec_le j (length (cycles_of s))) [
        | yes k ↦ (1, omega arith, behind_second s ss r img right legal j (omega arith) k)
        | no k ↦
            let i = j - length (cycles_of s) in
            let e : length (cycles_of s) + i ≡ j = omega arith in
            let next = ends_between ss (at_end s ss r img right legal).registers (whole s img) (whole-right s r img right legal.0) legal.1 i in (
              suc next.0,
              omega (arith, next.1),
              subst (λ (m : ℕ). (run (take m (cycles_of s ++ cycles_of_all ss)) (chip r img)).image ≡ play (suc next.0) 0 (s ∷ ss) img) e
                  (ap (λ (d : Chip). d.image) (behind_step s ss r img right legal i) ∙ next.2 ∙ sym (play-suc next.0 0 s ss img)),
            )
      ]
    ]
