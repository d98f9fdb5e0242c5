-- `four` gives the number of four bytes.
use Rattle.page.proofs.WordLaws.{four_bytes}
use mathlib.Core.Path.{ap, ◌∙◌}
use Rattle.page.specs.Word.{word_bytes}
use borrow.Author.Rules.{rules}
use Rattle.page.proofs.words.four.Goals as goal

pub returns : goal.returns
returns c =
    ap (word_bytes 4) c.from_le_bytes.ensures ∙ four_bytes _ _ _ _ (search rules) (search rules) (search rules) (search rules)
