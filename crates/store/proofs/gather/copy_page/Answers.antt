-- The page is whole, so its header is at hand; the header with another number and the same payload are programmed.
use mathlib.Core.Path.{◌≡◌, ◌∙◌}
use Rattle.image.specs.Look.{form_at}
use Rattle.image.proofs.Lent.{framed}
use Rattle.store.specs.Gather.{header_in, copy_of}
use Rattle.store.proofs.gather.copy_page.Goals as goal

pub returns-in_default : goal.returns-in_default
returns-in_default c = absurd (c.in_default.not-Whole _ (c.form_at.ensures ∙ c.requires.from_value.1))

pub returns : goal.returns
unfolding copy_of
returns c =
    let a = c.args in
    let h : header_in (form_at a.image.now a.from) ≡ c.in-Whole.f = rw (← c.form_at.ensures, c.in-Whole.is) in
    framed _ _ _ _ _ _ _ (rw h) c.payload_at.ensures c.program_page.ensures
