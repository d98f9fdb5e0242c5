-- `look::page_empty` is `is_empty` of the page's bytes.
use mathlib.Core.Path.{ap, ◌∙◌}
use Rattle.page.specs.Form.{is_empty}
use Rattle.image.specs.Look.{page_empty}
use Rattle.image.proofs.look.page_empty.Goals as goal

pub returns : goal.returns
unfolding page_empty
returns c = c.is_empty.ensures ∙ ap is_empty c.page_at.ensures
