-- No write has that many steps.
use native.Mathlib.Omega.{arith}
use mathlib.Core.Path.{◌∙◌}
use Rattle.store.specs.Record.{record_of}
use Rattle.store.specs.Write.{write_of}
use Rattle.store.proofs.Calls.{write-few}
use Rattle.store.proofs.Cuts.{whole-left}
use Rattle.store.proofs.write.write.Goals as goal

pub returns : goal.returns
returns c =
    let a = c.args in
    let r = record_of a.map.now a.letters.now a.numbers in
    c.write_cut.ensures ∙ whole-left _ 0 (write_of a.image.now r a.file a.offset a.payload.now) a.image.now (write-few a.image.now r a.file a.offset a.payload.now) (omega arith)
