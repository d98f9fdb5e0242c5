-- `columns::spelt_middle` gives three digits after a space, or four.
use native.Mathlib.Omega.{arith}
use Prim.Native.Nat.{ℕ, ◌+◌}
use mathlib.Core.Path.{ap, ◌∙◌}
use Rattle.page.specs.Word.{word_bytes}
use Rattle.page.proofs.Spellings.{four-room, all_four, three_digits_lem, four_digits_lem}
use borrow.Author.Rules.{rules}
use Rattle.page.proofs.columns.spelt_middle.Goals as goal

pub returns-then-n-lt1000 : goal.returns-then-n-lt1000
returns-then-n-lt1000 c =
    ap (λ (w : ℕ). word_bytes 4 (w + 0x30303020)) c.three_digits.ensures ∙ three_digits_lem c.args.n c.requires.0 (search rules)

pub overflow_add-result-2 : goal.overflow_add-result-2
overflow_add-result-2 c =
    omega (arith, c.four_digits.ensures, four-room c.args.n c.requires.1)

pub returns : goal.returns
returns c =
    let n = c.args.n in
    ap (λ (w : ℕ). word_bytes 4 (w + 0x30303030)) c.four_digits.ensures ∙ four_digits_lem n n (search rules) (all_four n c.requires.1)
