-- A page whose first byte is no N and no D is none; of any other the form tells.
use mathlib.Core.Path.{sym, ap, ◌∙◌}
use Rattle.page.specs.Header.{is_event_letter}
use Rattle.store.proofs.BlockKinds.{unheaded}
use Rattle.store.proofs.kinds.event_at.Goals as goal

pub returns-then-not-is_event_letter : goal.returns-then-not-is_event_letter
returns-then-not-is_event_letter c =
    let a = c.args in
    sym (unheaded a.image.now a.g (ap is_event_letter (sym c.letter_at.ensures) ∙ sym c.is_event_letter.ensures ∙ c.if-not-is_event_letter.true))
