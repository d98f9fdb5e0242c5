-- `columns::number_of` tells 0, a number from 1 on, and anything else.
use borrow.Author.Rules.{rules}
use mathlib.Core.Path.{sym, ap, ◌∙◌}
use Rattle.page.specs.Word.{word_bytes}
use Rattle.std.specs.Prelude.{Some}
use Rattle.page.proofs.Counted.{counted, read_from_one}
use Rattle.page.proofs.ColumnValues.{number_zero, number_none}
use Rattle.page.proofs.columns.number_of.Goals as goal

pub returns-then-v-eq-SPELT_ZERO : goal.returns-then-v-eq-SPELT_ZERO
returns-then-v-eq-SPELT_ZERO c = rw c.if-v-eq-SPELT_ZERO.true (sym number_zero)

pub returns-then-not-is_counted : goal.returns-then-not-is_counted
returns-then-not-is_counted c =
    sym (number_none c.args.v (search rules) c.if-v-eq-SPELT_ZERO.false (sym c.is_counted.ensures ∙ c.if-not-is_counted.true))

pub value_of-requires : goal.value_of-requires
value_of-requires c = sym c.is_counted.ensures ∙ c.if-not-is_counted.false

pub returns : goal.returns
returns c =
    let xs = word_bytes 8 c.args.v in
    let t = sym c.is_counted.ensures ∙ c.if-not-is_counted.false in
    ap Some c.value_of.ensures ∙ sym (read_from_one xs (sym (counted xs) ∙ t))
