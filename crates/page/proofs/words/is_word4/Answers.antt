-- `words::is_word4` compares four bytes of a list with a word.
use mathlib.Core.Path.{◌∙◌}
use Rattle.base.specs.Each.{same}
use Rattle.page.specs.Word.{word_bytes}
use Rattle.page.proofs.WordLaws.{words_decide}
use borrow.Author.Rules.{rules}
use Rattle.page.proofs.words.is_word4.Goals as goal

pub returns : goal.returns
returns c = words_decide 4 _ _ (search rules) (search rules) ∙ (λ i. same (c.word4.ensures i) (word_bytes 4 c.args.v))
