-- The driver's loop: cycles sent up to a place, and the rest still to come.
use Prim.Native.Nat.{ℕ, zero, suc, ◌+◌, ◌<◌, ◌≤◌}
use native.Mathlib.Omega.{arith}
use mathlib.Core.Path.{◌≡◌, refl, sym, ap, ◌∙◌}
use mathlib.Core.Bool.{Bool, true, false, cond}
use mathlib.Core.List.{List}
use lib.ListN.{length, drop}
use Rattle.image.specs.Size.{right_length, size_right}
use Rattle.chip.specs.declared.Cycle.{Cycle}
use Rattle.chip.specs.declared.Registers.{Registers}
use Rattle.chip.specs.Bus.{Chip, chip, sent, replied, run}
use Rattle.chip.specs.Driver.{driven, ended, drove, cycle_at}
use Rattle.chip.proofs.Moves.{sent-wrong, sent-length, run-wrong, run_next, run_none}

right-same : (img now : List ℕ) → length now ≡ length img → size_right now ≡ size_right img
unfolding size_right
right-same img now e = ap right_length e

replied-right : (img : List ℕ) → replied img ≡ 0 → size_right img ≡ true
unfolding replied
replied-right img = go (size_right img)
  where
    go : (b : Bool) → cond b zero (suc zero) ≡ 0 → b ≡ true
    go true e = refl
    go false e = absurd (omega arith)

replied-wrong : (img : List ℕ) → (replied img ≡ 0 → ⊥) → (size_right img ≡ false) × (replied img ≡ 1)
unfolding replied
replied-wrong img = go (size_right img)
  where
    go : (b : Bool) → (cond b zero (suc zero) ≡ 0 → ⊥) → (b ≡ false) × (cond b zero (suc zero) ≡ 1)
    go true h = absurd (h refl)
    go false h = (refl, refl)

module _ (cs : List Cycle) (r : Registers) (img : List ℕ) where
  -- i cycles were sent, and led from the registers r and the image to q and now
  pub record Sending (i : ℕ) (q : Registers) (now : List ℕ) : Type 0 where
    pub far : i ≤ length cs
    pub long : length now ≡ length img
    pub rest : run cs (chip r img) ≡ run (drop i cs) (chip q now)
    pub taken : 0 < i → size_right img ≡ true

  module _ (i : ℕ) (q : Registers) (now : List ℕ) (s : Sending i q now) where
    pub sending_next : (p : Registers) (next : List ℕ) (reply : ℕ) → i < length cs → chip p next ≡ sent (cycle_at cs i) (chip q now) → reply ≡ replied now
        → reply ≡ 0
        → Sending (i + 1) p next
    sending_next p next reply h e a z =
        record {
          far = omega arith;
          long = ap (λ (d : Chip). length d.image) e ∙ sent-length (cycle_at cs i) (chip q now) ∙ s.long;
          rest = s.rest ∙ run_next cs i (chip q now) (chip p next) h e;
          taken = λ _. sym (right-same img now s.long) ∙ replied-right now (sym a ∙ z);
        }

    pub sending_stopped : (p : Registers) (next : List ℕ) (reply : ℕ) → chip p next ≡ sent (cycle_at cs i) (chip q now) → reply ≡ replied now → (reply ≡ 0 → ⊥)
        → driven reply p next ≡ drove cs r img
    unfolding drove
    sending_stopped p next reply e a h =
        let w = replied-wrong now (λ z. h (a ∙ z)) in
        let v : size_right img ≡ false = sym (right-same img now s.long) ∙ w.0 in
        let d : chip p next ≡ chip r img =
        e ∙ sent-wrong (cycle_at cs i) (chip q now) w.0 ∙ sym (run-wrong (drop i cs) (chip q now) w.0) ∙ sym s.rest ∙ run-wrong cs (chip r img) v
        in
        rw v (ap (λ (x : Chip). driven reply x.registers x.image) d ∙ ap (λ (x : ℕ). driven x r img) (a ∙ w.1))

    pub sending_all : (p : Registers) (reply : ℕ) → 0 < length cs → length cs ≤ i → driven reply p now ≡ ended (chip q now)
        → driven reply p now ≡ drove cs r img
    unfolding drove
    sending_all p reply h k e = rw (s.taken (omega arith), s.rest, run_none cs i (chip q now) k) e
