-- `text::Text::put_place` meets its contract: the row of the place, or nothing.
use native.Mathlib.Omega.{arith}
use mathlib.Core.Path.{sym}
use mathlib.Core.List.{append-nil}
use borrow.Author.Rules.{rules}
use Rattle.listing.specs.Text.{written}
use Rattle.listing.proofs.Files.{file-found}
use Rattle.listing.proofs.Rows.{row-none, row-some}
use Rattle.listing.proofs.text.Text.put_place.Goals as goal

pub returns-then-map-x : goal.returns-then-map-x
returns-then-map-x c =
    let a = c.args in
    (omega arith, rw (row-none a.map.now a.x (search rules) c.requires.1 c.if-map-x.true) (sym (append-nil (written a.self.now))))

pub offset_of-requires : goal.offset_of-requires
offset_of-requires c =
    let f = c.file_at-file.ensures in
    (c.requires.1, file-found c.args.x c.file_at-file.result c.requires.1 f.1 f.2, f.0)

pub returns : goal.returns
returns c =
    let a = c.args in
    let f = c.file_at-file.ensures in
    let e = row-some a.map.now a.x (search rules) c.requires.1 (omega (arith, c.fits-map a.x)) c.if-map-x.false in
    (omega arith, rw (e, ← c.offset_of.ensures, ← file-found a.x c.file_at-file.result c.requires.1 f.1 f.2) c.put_row.ensures.1)
