-- A page written from a header and a payload that are known under other names.
use Prim.Native.Nat.{ℕ}
use mathlib.Core.Path.{◌≡◌, ap₂, ◌∙◌}
use mathlib.Core.List.{List}
use Rattle.page.specs.Page.{page_bytes, cut_page}
use Rattle.page.specs.declared.Frame.{Frame}

pub framed : (k : ℕ) (page : List ℕ) (f h : Frame) (payload written : List ℕ) → f ≡ h → payload ≡ written → page ≡ cut_page k (page_bytes f payload) → page ≡ cut_page k (page_bytes h written)
framed k page f h payload written e w p = p ∙ ap₂ (λ (x : Frame) (xs : List ℕ). cut_page k (page_bytes x xs)) e w
