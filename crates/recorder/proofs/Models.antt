-- What the chip's model leaves of a byte, as a C caller sees it.
use Prim.Native.Nat.{ℕ}
use native.Mathlib.Omega.{arith}
use mathlib.Core.Path.{◌≡◌, refl, ap, ◌∙◌}
use mathlib.Core.Bool.{Bool, true, false}
use mathlib.Core.List.{List}
use Rattle.image.specs.Size.{size_right}
use Rattle.chip.specs.declared.Cycle.{Cycle}
use Rattle.chip.specs.declared.Registers.{Registers}
use Rattle.chip.specs.Bus.{Chip, chip, sent, replied}
use Rattle.chip.specs.Numbers.{set_of, five_of}
use Rattle.recorder.specs.Bus.{modelled, model_of, model_sent}

module _
    (c : Cycle) (img five page : List ℕ) (r q : Registers) (now : List ℕ)
    (s : r ≡ set_of five page) (e : chip q now ≡ sent c (chip r img))
  where
    sent-set : chip q now ≡ sent c (chip (set_of five page) img)
    sent-set = e ∙ ap (λ (p : Registers). sent c (chip p img)) s

    -- a reply that is not 0: the image is wrong, and all is as it was
    pub model_refused : (n : ℕ) → n ≡ replied img → (n ≡ 0 → ⊥) → modelled n now five page ≡ model_sent c img five page
    unfolding model_sent sent replied
    model_refused n f h = go (size_right img) refl
      where
        go : (b : Bool) → size_right img ≡ b → modelled n now five page ≡ model_sent c img five page
        go true t = absurd (h (f ∙ rw t))
        go false t =
            let one : n ≡ 1 = f ∙ rw t in
            let same : chip q now ≡ chip (set_of five page) img = sent-set ∙ rw t in
            let left : now ≡ img = ap (λ (d : Chip). d.image) same in
            rw (t, one, left)

    -- a reply that is 0: the registers go back into their arrays
    pub model_done : (n : ℕ) (ms : List ℕ) → n ≡ replied img → n ≡ 0 → ms ≡ five_of q → modelled 0 now ms q.page ≡ model_sent c img five page
    unfolding model_sent replied
    model_done n ms f h g = go (size_right img) refl
      where
        go : (b : Bool) → size_right img ≡ b → modelled 0 now ms q.page ≡ model_sent c img five page
        go true t = rw t (ap (λ (xs : List ℕ). modelled 0 now xs q.page) g ∙ ap model_of sent-set)
        go false t =
            let one : n ≡ 1 = f ∙ rw t in
            absurd (omega (arith, h, one))
