-- `driver::send` sends cycle after cycle: with i cycles sent, the rest of any list that they are is still to come.
use Prim.Native.Nat.{ℕ, ◌<◌}
use mathlib.Core.Path.{◌≡◌}
use mathlib.Core.List.{List}
use lib.ListN.{length}
use Rattle.chip.specs.declared.Cycle.{Cycle}
use Rattle.chip.specs.Driver.{cycle_at}
use Rattle.chip.proofs.Drives.{Sending}
use Rattle.chip.proofs.driver.send.Given as goal

abbrev pub invariant-loop-i : goal.invariant-loop-i
invariant-loop-i g l =
    (cycles : List Cycle) → length cycles ≡ l.count → ((k : ℕ) (sent : Cycle) → k < l.count → goal.C-post g l.cycle k sent → sent ≡ cycle_at cycles k)
    → Sending cycles l.initial.q l.initial.image l.i l.q l.image
