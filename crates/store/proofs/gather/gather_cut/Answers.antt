-- Refused, it leaves all as it was; taken, what the work leaves.
use mathlib.Core.Path.{refl, sym}
use Rattle.store.specs.Record.{record_of}
use Rattle.store.proofs.GatherCalls.{gather_refuse}
use Rattle.store.proofs.gather.gather_cut.Goals as goal

pub returns-in-Err : goal.returns-in-Err
returns-in-Err c =
    let a = c.args in
    let r = record_of a.map.now a.letters.now a.numbers in
    rw c.refused.ensures (gather_refuse a.image.now r a.block a.n a.k _ (sym c.in-Err.ensures) refl)
