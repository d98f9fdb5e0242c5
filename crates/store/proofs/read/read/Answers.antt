-- Refused, it leaves all as it was; taken, the output begins with the place's content.
use borrow.Author.Rules.{rules}
use mathlib.Core.Path.{◌≡◌, refl, sym, ◌∙◌}
use Rattle.std.proofs.lemmas.Result.{err_from_is_err_and}
use Rattle.store.specs.Record.{record_of, held}
use Rattle.store.proofs.Refusals.{handed_done, handed_refused}
use Rattle.store.proofs.Calls.{read_refuse, read_left, read_reports, read_reports_none}
use Rattle.store.proofs.read.read.Goals as goal

pub returns-in_err-lent : goal.returns-in_err-lent
returns-in_err-lent c =
    let a = c.args in
    let r = record_of a.map.now a.letters.now a.numbers in
    let p = err_from_is_err_and c.from_residual.result c.from_residual.ensures.1 in
    let v = handed_refused _ _ c.in_err-lent.field-0.0 (sym c.in_err-lent.ensures) in
    rw (p.1, p.2) (read_refuse a.image.now r a.file a.offset a.output.now _ (sym v) refl, read_reports_none a.image.now r a.file a.offset a.output.now _ (sym v) refl)

pub returns : goal.returns
returns c =
    let a = c.args in
    let r = record_of a.map.now a.letters.now a.numbers in
    let w = c.place_at.ensures in
    let n = c.read_place.ensures in
    let v = handed_done _ _ (held c.in_ok-lent.lent) (sym c.in_ok-lent.ensures) in
    let o : c.unwrap-output.result.now ≡ a.output.now = search rules in
    (read_left a.image.now r a.file a.offset a.output.now _ _ (sym v.0) refl (n.0 ∙ rw (w.0, v.1, o)), read_reports a.image.now r a.file a.offset a.output.now _ _ (sym v.0) refl (n.1 ∙ rw (w.0, v.1)))
