-- `word4` gives four bytes of a list as a number.
use Rattle.page.proofs.WordLaws.{part-four}
use mathlib.Core.Path.{sym, ◌∙◌}
use Rattle.page.proofs.words.word4.Goals as goal

pub returns : goal.returns
returns c =
    c.four.ensures ∙ sym (part-four c.args.src.now c.args.at c.requires)
