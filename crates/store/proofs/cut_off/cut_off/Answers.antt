-- No cut-off has that many steps.
use native.Mathlib.Omega.{arith}
use mathlib.Core.Path.{◌∙◌}
use Rattle.store.specs.Record.{record_of}
use Rattle.store.specs.CutOff.{cut_off_of}
use Rattle.store.proofs.Calls.{cut_off-few}
use Rattle.store.proofs.Cuts.{whole-left}
use Rattle.store.proofs.cut_off.cut_off.Goals as goal

pub returns : goal.returns
returns c =
    let a = c.args in
    let r = record_of a.map.now a.letters.now a.numbers in
    c.cut_off_cut.ensures ∙ whole-left _ 0 (cut_off_of a.image.now r a.file a.offset) a.image.now (cut_off-few a.image.now r a.file a.offset) (omega arith)
