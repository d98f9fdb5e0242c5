-- `text::Text::put_rows` meets its contract: the text so far and the rows of the places left are all rows.
use native.Mathlib.Omega.{arith}
use mathlib.Core.Path.{sym, ◌∙◌}
use Rattle.page.specs.Plan.{places}
use Rattle.listing.specs.Text.{written}
use Rattle.listing.proofs.Rows.{rows_next, rows_end}
use Rattle.listing.proofs.text.Text.put_rows.Goals as goal

pub loop-x-preserved : goal.loop-x-preserved
loop-x-preserved c =
    let l = c.loop-x in
    (omega arith, sym (rows_next c.args.map.now places l.x (written l.self) (omega arith) c.put_place.ensures.1) ∙ l.invariant.1)

pub returns : goal.returns
returns c =
    let l = c.loop-x in
    (omega arith, sym (rows_end c.args.map.now places l.x (written l.self) (omega arith)) ∙ l.invariant.1)
