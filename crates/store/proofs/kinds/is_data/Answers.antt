-- `store::kinds::is_data` meets its contract: no chosen block, then by its pages.
use mathlib.Core.Path.{◌≡◌, sym, ◌∙◌}
use mathlib.Core.Bool.{true, false, and-true, and-false}
use Rattle.store.specs.Kind.{is_chosen, is_data, has_events}
use Rattle.store.proofs.kinds.is_data.Goals as goal

pub returns-then-is_chosen : goal.returns-then-is_chosen
unfolding is_data
returns-then-is_chosen c =
    let a = c.args in
    let k : is_chosen a.numbers a.b ≡ true = sym c.is_chosen.ensures ∙ c.if-is_chosen.true in
    rw k (sym (and-false (has_events a.image.now a.b)))

pub returns : goal.returns
unfolding is_data
returns c =
    let a = c.args in
    let k : is_chosen a.numbers a.b ≡ false = sym c.is_chosen.ensures ∙ c.if-is_chosen.false in
    rw k (c.has_event.ensures ∙ sym (and-true (has_events a.image.now a.b)))
