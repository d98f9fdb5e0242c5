-- `steps::program_cut_off` programs a page of spaces.
use mathlib.Core.Path.{refl}
use Rattle.page.specs.Page.{cut_off_page}
use Rattle.image.proofs.Lent.{framed}
use Rattle.image.proofs.steps.program_cut_off.Goals as goal

pub returns : goal.returns
unfolding cut_off_page
returns c = framed _ _ _ _ _ _ _ c.cut_off.ensures refl c.program_page.ensures
