-- No gather has that many steps.
use native.Mathlib.Omega.{arith}
use mathlib.Core.Path.{◌∙◌}
use Rattle.store.specs.Record.{record_of}
use Rattle.store.specs.Gather.{gather_of}
use Rattle.store.proofs.Cuts.{whole-left}
use Rattle.store.proofs.GatherCalls.{gather-few}
use Rattle.store.proofs.gather.gather.Goals as goal

pub returns : goal.returns
returns c =
    let a = c.args in
    let r = record_of a.map.now a.letters.now a.numbers in
    c.gather_cut.ensures ∙ whole-left _ 0 (gather_of a.image.now r a.block) a.image.now (gather-few a.image.now r a.block) (omega arith)
