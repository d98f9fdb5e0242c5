-- `pages::harness_cut_off` gives the page of a cut-off up to byte k, or refuses a length.
use mathlib.Core.Path.{refl, ap}
use borrow.Author.Tests.{eq-eqb}
use Rattle.page.specs.Page.{cut_off_page}
use Rattle.harness.specs.Answer.{answer}
use Rattle.harness.specs.Page.{cut_off_answer}
use Rattle.harness.proofs.Framed.{framed}
use Rattle.harness.proofs.pages.harness_cut_off.Goals as goal

pub returns : goal.returns
unfolding cut_off_answer cut_off_page
returns c =
    rw (eq-eqb _ _ c.in-Some.ensures.cases.long)
    (ap (answer 0) (framed _ _ _ _ _ _ c.cut_off.ensures refl c.write_page.ensures))
