-- A block without a live page is one that is not marked.
use mathlib.Core.Path.{ap, ◌∙◌}
use Rattle.image.specs.Power.{device, run}
use Rattle.image.proofs.Looks.{sized}
use Rattle.store.proofs.Unused.{unmarked_unused}
use Rattle.store.proofs.stages.erase_unused.Goals as goal

pub mark_others-requires : goal.mark_others-requires
mark_others-requires c = (sized c.args.image.now c.requires).most

pub erase_unmarked-requires : goal.erase_unmarked-requires
erase_unmarked-requires c = (sized c.args.image.now c.requires).most

pub returns : goal.returns
returns c =
    let a = c.args in
    c.erase_unmarked.ensures
    ∙ ap (λ steps. run steps (device a.p a.image.now)) (unmarked_unused a.image.now a.map.now c.mark_live.new.marked c.mark_others.new.marked a.numbers c.requires c.mark_live.ensures c.mark_others.ensures)
