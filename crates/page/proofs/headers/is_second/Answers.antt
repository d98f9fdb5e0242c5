-- `headers::is_second` meets its contract: a number of at most 224 has four spaces before its last four columns, which are read.
use borrow.Author.Rules.{rules}
use mathlib.Core.Path.{sym, ◌∙◌}
use Rattle.base.specs.Part.{part}
use Rattle.base.proofs.Eachs.{same_true}
use Rattle.page.specs.Word.{word_bytes}
use Rattle.page.proofs.ColumnValues.{read_beside}
use Rattle.page.proofs.HeaderLaws.{last_columns}
use Rattle.page.proofs.HeaderParts.{unspaced_wrong}
use Rattle.page.proofs.headers.is_second.Goals as goal

pub returns-then-not-is_word4 : goal.returns-then-not-is_word4
unfolding part word_bytes
returns-then-not-is_word4 c =
    sym (unspaced_wrong c.args.src.now (search rules) (sym c.is_word4.ensures ∙ c.if-not-is_word4.true))

pub returns-in_default : goal.returns-in_default
unfolding part word_bytes
returns-in_default c =
    let last = last_columns c.args.src.now (search rules) (same_true _ _ (sym c.is_word4.ensures ∙ c.if-not-is_word4.false)) in
    rw (last, read_beside _ _ _ c.word4-second.ensures c.pair_of.ensures, c.in_default.is)

pub returns : goal.returns
unfolding part word_bytes
returns c =
    let last = last_columns c.args.src.now (search rules) (same_true _ _ (sym c.is_word4.ensures ∙ c.if-not-is_word4.false)) in
    rw (last, read_beside _ _ _ c.word4-second.ensures c.pair_of.ensures, c.in-Some.is)
