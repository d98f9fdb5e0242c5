-- `text::Text::put_rows` meets its contract: the text so far and the rows of the places left are all rows.
use Prim.Native.Nat.{◌≤◌, ◌+◌, ◌*◌, ◌-◌}
use mathlib.Core.Path.{◌≡◌}
use mathlib.Core.List.{◌++◌}
use Rattle.page.specs.Plan.{places}
use Rattle.listing.specs.Text.{written}
use Rattle.listing.specs.Listing.{row_size, rows_from}
use Rattle.listing.proofs.text.Text.put_rows.Given as goal

abbrev pub invariant-loop-x : goal.invariant-loop-x
invariant-loop-x l = (l.self.length ≤ l.fn.self.length + row_size * l.x) × (written l.self ++ rows_from l.map (places - l.x) l.x ≡ written l.fn.self ++ rows_from l.map places 0)
