-- `columns::put_columns` writes the last of four columns, or of eight.
use native.Mathlib.Omega.{arith}
use mathlib.Core.Path.{◌∙◌}
use Rattle.base.proofs.Parts.{lent}
use Rattle.page.specs.Column.{spell}
use Rattle.page.proofs.Column.{length-spell}
use Rattle.page.proofs.Spellings.{last_of}
use Rattle.page.proofs.WordLaws.{four_le_bytes, eight_le_bytes}
use Rattle.page.proofs.columns.put_columns.Goals as goal

pub returns-then-this-le4 : goal.returns-then-this-le4
returns-then-this-le4 g c =
    let a = c.args in
    let h = c.requires in
    let n = g.row.N in
    lent a.dst.now a.at n h.0 _ (spell n a.n)
    (c.copy.ensures ∙ last_of n a.n 4 _ _ (c.to_le_bytes.ensures ∙ four_le_bytes _ ∙ c.spelt_low.ensures) h.1 (omega arith) (omega arith))
    (length-spell n a.n h.1)

pub returns-else-this-le4 : goal.returns-else-this-le4
returns-else-this-le4 g c =
    let a = c.args in
    let h = c.requires in
    let n = g.row.N in
    lent a.dst.now a.at n h.0 _ (spell n a.n)
    (c.copy-else-this-le4.ensures ∙ last_of n a.n 8 _ _ (c.to_le_bytes-else-this-le4.ensures ∙ eight_le_bytes _ ∙ c.spelt8.ensures) h.1 h.2 (omega arith))
    (length-spell n a.n h.1)
