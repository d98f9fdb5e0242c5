-- The file's places stand below the number of places.
use native.Mathlib.Omega.{arith}
use Rattle.store.proofs.Records.{file-end}
use Rattle.store.proofs.record.place_after.Goals as goal

pub overflow_add-result : goal.overflow_add-result
overflow_add-result c =
    omega (arith, file-end c.args.file c.requires, c.start.ensures, c.count.ensures)

pub returns : goal.returns
returns c =
    let e = file-end c.args.file c.requires in
    (omega (arith, c.start.ensures, c.count.ensures), omega (arith, c.start.ensures, c.count.ensures))
