-- `word8` gives eight bytes of a list as a number.
use mathlib.Core.Path.{◌∙◌}
use Rattle.page.proofs.WordLaws.{part_join}
use Rattle.page.proofs.words.word8.Goals as goal

pub returns : goal.returns
returns c =
    c.eight.ensures ∙ rw (c.word4.ensures, c.word4-2.ensures)
    (part_join c.args.src.now c.args.at 4 4)
