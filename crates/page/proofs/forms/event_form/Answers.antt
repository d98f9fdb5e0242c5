-- `forms::event_form` goes by the header, then by the closing; without a header the page is spoilt, since it is not empty.
use native.Mathlib.Omega.{arith}
use mathlib.Core.Path.{sym, ap, ◌∙◌}
use Rattle.base.proofs.Parts.{part_at}
use Rattle.page.specs.Header.{is_event_letter}
use Rattle.page.proofs.FormLaws.{event_spoilt}
use Rattle.page.specs.Form.{form_of}
use Rattle.page.proofs.forms.event_form.Goals as goal

pub read_event-requires : goal.read_event-requires
read_event-requires c =
    rw c.array_at.ensures (ap is_event_letter (part_at c.args.page.now 0 30 0 0 (omega arith)) ∙ c.requires)

pub returns-in-Some : goal.returns-in-Some
unfolding form_of
returns-in-Some c = rw (c.headed_form.ensures, ← c.array_at.ensures, ← c.read_event.ensures, c.in-Some.is)

pub returns-in-None : goal.returns-in-None
returns-in-None c =
    sym (event_spoilt c.args.page.now c.requires (rw (← c.array_at.ensures) (sym c.read_event.ensures ∙ c.in-None.is)))
