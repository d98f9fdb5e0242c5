-- `forms::form` goes by the header, then by the closing or by emptiness.
use Rattle.page.specs.Form.{form_of}
use Rattle.page.proofs.forms.form.Goals as goal

pub returns-in-Some : goal.returns-in-Some
unfolding form_of
returns-in-Some c = rw (c.headed_form.ensures, ← c.array_at.ensures, ← c.read_header.ensures, c.in-Some.is)

pub returns-then-is_empty : goal.returns-then-is_empty
unfolding form_of
returns-then-is_empty c =
    rw (← c.array_at.ensures, ← c.read_header.ensures, c.in-None.is, ← c.is_empty.ensures, c.if-is_empty.true)

pub returns-else-is_empty : goal.returns-else-is_empty
unfolding form_of
returns-else-is_empty c =
    rw (← c.array_at.ensures, ← c.read_header.ensures, c.in-None.is, ← c.is_empty.ensures, c.if-is_empty.false)
