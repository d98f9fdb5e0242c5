use mathlib.Core.Path.{sym, ◌∙◌, ◌≡◌}
use lib.ListN.{length}
use borrow.Author.Tests.{not-true, not-false}
use Rattle.chip.proofs.Sets.{valid_unstated, valid_unplaced, valid_blank, sent-in_page}
use Rattle.chip.proofs.register_set.valid.Goals as goal

pub returns-then-not-state_fits : goal.returns-then-not-state_fits
returns-then-not-state_fits c = let a = c.args in sym (valid_unstated a.pages a.r (sym c.state_fits.ensures ∙ not-true _ c.if-not-state_fits.true-raw))

pub returns-then-not-address_fits : goal.returns-then-not-address_fits
returns-then-not-address_fits c = let a = c.args in sym (valid_unplaced a.pages a.r (rw
    c.columns_of.ensures at (sym c.address_fits.ensures) ∙ not-true _ c.if-not-address_fits.true-raw))

pub empty_from-requires : goal.empty_from-requires
empty_from-requires c = let a = c.args in let e : length a.r.page ≡ 256 = c.well_formed.1.0.1.1.1.1.1.1.0.1.0.1 in rw (e, c.sent_to.ensures)
    (sent-in_page a.r.state a.pages a.r.cycles a.r.column a.r.row (rw
    c.columns_of.ensures at (sym c.address_fits.ensures) ∙ not-false _
    c.if-not-address_fits.false-raw))

pub returns : goal.returns
returns c = let a = c.args in let e : length a.r.page ≡ 256 = c.well_formed.1.0.1.1.1.1.1.1.0.1.0.1 in rw
    c.sent_to.ensures at c.empty_from.ensures ∙ sym (valid_blank a.pages a.r e (sym
    c.state_fits.ensures ∙ not-false _
    c.if-not-state_fits.false-raw) (rw
    c.columns_of.ensures at (sym c.address_fits.ensures)
    ∙ not-false _ c.if-not-address_fits.false-raw))
