-- `page::entries::write_entry` meets its contract: none, or the two numbers one after the other.
use native.Mathlib.Omega.{arith}
use mathlib.Core.Path.{◌∙◌}
use mathlib.Core.List.{◌++◌}
use lib.ListN.{length-append}
use borrow.Author.Tests.{eq-eqb, ne_eqb}
use Rattle.base.proofs.Parts.{splice_all}
use Rattle.page.specs.Column.{spell}
use Rattle.page.specs.Entry.{entry_bytes}
use Rattle.page.proofs.WordLaws.{splice_join}
use Rattle.page.proofs.Column.{length-spell}
use Rattle.page.proofs.entries.write_entry.Goals as goal

pub returns-then-page-eq-NONE : goal.returns-then-page-eq-NONE
unfolding entry_bytes
returns-then-page-eq-NONE c = rw (eq-eqb _ _ c.if-page-eq-NONE.true)

pub returns-else-page-eq-NONE : goal.returns-else-page-eq-NONE
unfolding entry_bytes
returns-else-page-eq-NONE c =
    let dst = c.args.dst.now in
    let page = c.args.page in
    let key = c.args.key in
    let l = length-spell 4 page (omega arith) in
    let m = length-spell 4 key (omega arith) in
    rw (
      ne_eqb _ _ c.if-page-eq-NONE.false,
      c.put_columns-else-page-eq-NONE.ensures,
      c.put_columns.ensures,
    )
    (splice_join dst 0 4 (spell 4 page) (spell 4 key) l (omega (arith, c.requires)) ∙ splice_all dst (spell 4 page ++ spell 4 key) (simp length-append (omega (arith, l, m, c.requires))))
