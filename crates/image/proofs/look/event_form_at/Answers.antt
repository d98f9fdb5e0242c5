-- `look::event_form_at` is `event_form` of the page's bytes.
use Prim.Native.Nat.{◌*◌}
use native.Mathlib.Omega.{arith}
use mathlib.Core.Path.{◌≡◌, ap, ◌∙◌}
use Rattle.base.proofs.Parts.{part_at}
use Rattle.page.specs.Frame.{page_size}
use mathlib.Core.List.{List}
use lib.ListN.{get_or}
use Prim.Native.Nat.{ℕ}
use Rattle.page.specs.Form.{form_of}
use Rattle.page.specs.Header.{kind_at, is_event_letter}
use Rattle.image.specs.Look.{page_at, form_at, letter_at}
use Rattle.image.proofs.look.event_form_at.Goals as goal

pub event_form-requires : goal.event_form-requires
unfolding page_at
event_form-requires c =
    let a = c.args in
    let e = c.page_at.ensures in
    let first : get_or (page_at a.image.now a.g) kind_at 0 ≡ letter_at a.image.now a.g =
    part_at a.image.now (a.g * page_size) page_size kind_at 0 (omega arith) ∙ ap (λ (i : ℕ). get_or a.image.now i 0) (omega arith) in
    ap (λ (page : List ℕ). is_event_letter (get_or page kind_at 0)) e ∙ ap is_event_letter first ∙ c.requires.1

pub returns : goal.returns
unfolding form_at
returns c = c.event_form.ensures ∙ ap form_of c.page_at.ensures
