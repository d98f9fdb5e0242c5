-- `columns::spelt_short` gives one digit or two after spaces.
use mathlib.Core.Path.{ap, ◌∙◌}
use Rattle.page.specs.Word.{word_bytes}
use Prim.Native.Nat.{ℕ, ◌+◌}
use Rattle.page.proofs.Spellings.{one_digit, two_digits}
use borrow.Author.Rules.{rules}
use Rattle.page.proofs.columns.spelt_short.Goals as goal

pub returns-then-n-lt10 : goal.returns-then-n-lt10
returns-then-n-lt10 c =
    one_digit c.args.n (search rules)

pub returns : goal.returns
returns c =
    ap (λ (w : ℕ). word_bytes 4 (w + 0x30302020)) c.two_digits.ensures ∙ two_digits c.args.n (search rules) (search rules)
