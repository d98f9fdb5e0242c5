-- `text::Text::put_totals` writes the counts and the end of the line one after the other.
use native.Mathlib.Omega.{arith}
use Prim.Native.Nat.{ℕ}
use mathlib.Core.List.{List}
use Rattle.page.specs.Column.{spell}
use Rattle.page.specs.Entry.{free_letter, used_letter, deleted_letter}
use Rattle.listing.specs.Text.{written}
use Rattle.listing.specs.Listing.{total, totals, line_end}
use Rattle.listing.proofs.Texts.{in_turn}
use Rattle.listing.proofs.text.Text.put_totals.Goals as goal

pub returns : goal.returns
unfolding totals
returns c =
    let a = c.args in
    let n : ℕ → List ℕ = λ l. spell 6 (total l a.letters.now) in (
      omega arith,
      rw (
        c.put_line_end.ensures.1,
        c.put_number-3.ensures.1,
        c.put_number-2.ensures.1,
        c.put_number.ensures.1,
        c.count-3.ensures,
        c.count-2.ensures,
        c.count.ensures,
      )
          (in_turn (written a.self.now) (n used_letter) (n free_letter) (n deleted_letter) line_end),
    )
