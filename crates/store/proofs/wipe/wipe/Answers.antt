-- No wipe has that many steps.
use native.Mathlib.Omega.{arith}
use mathlib.Core.Path.{◌∙◌}
use Rattle.store.specs.Record.{record_of}
use Rattle.store.specs.Wipe.{wipe_of}
use Rattle.store.proofs.Renewals.{wipe-few}
use Rattle.store.proofs.Cuts.{whole-left}
use Rattle.store.proofs.wipe.wipe.Goals as goal

pub returns : goal.returns
returns c =
    let a = c.args in
    let r = record_of a.map.now a.letters.now a.numbers in
    c.wipe_cut.ensures ∙ whole-left _ 0 (wipe_of a.image.now r a.noise.now a.file a.offset) a.image.now (wipe-few a.image.now r a.noise.now a.file a.offset) (omega arith)
