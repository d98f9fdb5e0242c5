-- `look::form_at` is `form` of the page's bytes.
use mathlib.Core.Path.{ap, ◌∙◌}
use Rattle.page.specs.Form.{form_of}
use Rattle.image.specs.Look.{form_at}
use Rattle.image.proofs.look.form_at.Goals as goal

pub returns : goal.returns
unfolding form_at
returns c = c.form.ensures ∙ ap form_of c.page_at.ensures
