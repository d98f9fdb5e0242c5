-- `headers::read_place` reads the file's three columns as four, with a space before them.
use borrow.Author.Rules.{rules}
use mathlib.Core.Path.{ap, ◌∙◌}
use Rattle.page.specs.Word.{word_bytes}
use Rattle.page.specs.Column.{pair_in}
use Rattle.page.proofs.ColumnValues.{pair_three}
use Rattle.page.proofs.headers.read_place.Goals as goal

pub returns : goal.returns
returns c =
    let file = c.four-file in
    c.pair_of.ensures
    ∙ ap (pair_in (word_bytes 4 file.result)) c.word4.ensures
    ∙ pair_three c.args.src.now _ 9 file.result (search rules) file.ensures
