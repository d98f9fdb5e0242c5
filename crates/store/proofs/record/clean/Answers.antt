-- Position by position.
use native.Mathlib.Omega.{arith}
use Rattle.store.proofs.Records.{cleaned_next}
use Rattle.store.proofs.record.clean.Goals as goal

pub loop-letter-preserved : goal.loop-letter-preserved
loop-letter-preserved c =
    let l = c.loop-letter in
    let a = c.args in
    cleaned_next a.letters.now l.letters l.letter-index _ (omega arith) l.invariant c.clean_letter.ensures
