-- Those before b are erased.
use mathlib.Core.Bool.{false, not}
use lib.ListN.{get_or}
use Rattle.image.specs.Size.{blocks}
use Rattle.store.proofs.Erasures.{Erasing}
use Rattle.store.proofs.sweep.erase_unmarked.Given as goal

abbrev pub invariant-loop-b : goal.invariant-loop-b
invariant-loop-b l = Erasing (λ a. not (get_or l.kept a false)) (blocks l.initial.image) l.initial.image l.initial.q l.image l.q l.b
