-- `eight` gives the number of eight bytes.
use Rattle.page.proofs.WordLaws.{bytes_joined}
use mathlib.Core.Path.{refl}
use borrow.Author.Rules.{rules}
use Rattle.page.proofs.words.eight.Goals as goal

pub returns : goal.returns
returns c = bytes_joined 4 4 8 _ _ refl (search rules)
