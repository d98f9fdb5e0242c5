-- `text::Text::put_row` writes its columns and the end of the line one after the other.
use native.Mathlib.Omega.{arith}
use mathlib.Core.Path.{◌∙◌}
use mathlib.Core.List.{◌++◌, append_assoc}
use Rattle.page.specs.Column.{spell}
use Rattle.listing.specs.Text.{written}
use Rattle.listing.specs.Listing.{row, line_end}
use Rattle.listing.proofs.Texts.{in_turn}
use Rattle.listing.proofs.text.Text.put_row.Goals as goal

pub returns : goal.returns
unfolding row
returns c =
    let a = c.args in
    let t = written a.self.now in (
      omega arith,
      rw (
        c.put_line_end.ensures.1,
        c.put_number-4.ensures.1,
        c.put_number-3.ensures.1,
        c.put_number-2.ensures.1,
        c.put_number.ensures.1,
      )
          (in_turn (t ++ spell 4 a.file) (spell 4 a.offset) (spell 6 a.page) (spell 6 a.key) line_end ∙ append_assoc t (spell 4 a.file) _),
    )
