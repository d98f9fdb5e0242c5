-- `forms::is_closed` compares the last two bytes with the closing.
use Rattle.base.specs.Part.{part}
use Rattle.page.specs.Form.{closed}
use Rattle.page.proofs.forms.is_closed.Goals as goal

pub returns : goal.returns
unfolding closed part
returns c = c.same.ensures
