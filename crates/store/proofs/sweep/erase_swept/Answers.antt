-- The blocks with a live page are marked; with the table of events the marks tell what mount erases.
use mathlib.Core.Path.{◌∙◌, ap}
use Rattle.image.specs.Power.{device, run}
use Rattle.store.proofs.Erasures.{kept_swept}
use Rattle.store.proofs.sweep.erase_swept.Goals as goal

pub returns : goal.returns
returns c =
    let a = c.args in
    let live = c.mark_live in
    c.erase_unmarked.ensures
    ∙ ap (λ steps. run steps (device a.p a.image.now))
    (kept_swept a.image.now a.map.now a.events.now live.new.marked c.keep.new.kept a.numbers c.requires live.ensures c.keep.ensures)
