-- A part of the image that was lent to the writer of a step and is back: the image after that step.
use Prim.Native.Nat.{ℕ, ◌+◌, ◌-◌, ◌*◌, min}
use native.Mathlib.Omega.{arith}
use mathlib.Core.Path.{◌≡◌, refl, sym, ap, ap₂, ◌∙◌}
use mathlib.Core.Bool.{true}
use mathlib.Core.List.{List, ◌++◌}
use lib.ListN.{length, take, drop, replicate}
use borrow.Rule.Slice.PartMut.{put_mid}
use Rattle.base.specs.Part.{splice}
use Rattle.base.proofs.Parts.{lent_fill}
use Rattle.page.specs.Frame.{page_size, erased}
use Rattle.page.specs.Page.{page_bytes, cut_page}
use Rattle.page.specs.declared.Frame.{Frame}
use Rattle.page.proofs.Pages.{cut-length}
use Rattle.image.specs.declared.Power.{Power}
use Rattle.image.specs.Size.{block_size}
use Rattle.image.specs.Step.{program, erase, Inside, up_to}
use Rattle.image.specs.Power.{Device, device, act, reach, less_step}
use Rattle.image.proofs.Runs.{act-on}

-- a list in two parts, of which the second got other elements in front
joined : (xs ys before rest : List ℕ) (a n : ℕ) → before ≡ take a xs → rest ≡ drop a xs → length ys ≡ n → before ++ (ys ++ drop n rest) ≡ splice xs a ys
unfolding splice
joined xs ys before rest a n b r l = rw (b, r, l) refl

module _ (img : List ℕ) (p q : Power) (on : p.on ≡ true) (less : q ≡ less_step p) (k : ℕ) (far : k ≡ reach p) (zs : List ℕ) where
  pub lent-erase : (b n : ℕ) → Inside (length img) (erase b) → n ≡ min k block_size
      → zs ≡ replicate (length (take ((b * block_size + n) - b * block_size) (drop (b * block_size) img))) erased
      → device q (put_mid (b * block_size) ((b * block_size + n) - b * block_size) img zs) ≡ act (erase b) (device p img)
  unfolding up_to
  lent-erase b n ins m e =
      ap (device q) (lent_fill img (b * block_size) n (omega arith) zs erased e) ∙ rw (less, m, far) (sym (act-on (erase b) p img on ins))

  pub joined-program : (g : ℕ) (page before rest : List ℕ) → Inside (length img) (program g page) → zs ≡ cut_page k page
      → before ≡ take (g * page_size) img → rest ≡ drop (g * page_size) img
      → device q (before ++ (zs ++ drop page_size rest)) ≡ act (program g page) (device p img)
  unfolding up_to
  joined-program g page before rest ins e b r =
      ap (λ (ys : List ℕ). device q (before ++ (ys ++ drop page_size rest))) e
      ∙ ap (device q) (joined img (cut_page k page) before rest (g * page_size) page_size b r (cut-length k page ins.1))
      ∙ rw (less, far) (sym (act-on (program g page) p img on ins))

-- a page programmed from a header and a payload that are known under other names
pub framed : (g : ℕ) (d d' : Device) (f h : Frame) (payload written : List ℕ) → f ≡ h → payload ≡ written
    → d' ≡ act (program g (page_bytes f payload)) d → d' ≡ act (program g (page_bytes h written)) d
framed g d d' f h payload written e w s =
    s ∙ ap₂ (λ (x : Frame) (xs : List ℕ). act (program g (page_bytes x xs)) d) e w
