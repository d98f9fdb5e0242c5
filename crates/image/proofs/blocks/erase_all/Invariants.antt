-- `blocks::erase_all` erases block after block: with b blocks done, those from b on are left to run.
use Prim.Native.Nat.{◌-◌}
use mathlib.Core.Path.{◌≡◌}
use Rattle.base.specs.Fold.{list_from}
use Rattle.image.specs.Step.{erase}
use Rattle.image.specs.Power.{device, run}
use Rattle.image.proofs.blocks.erase_all.Given as goal

abbrev pub invariant-loop-b : goal.invariant-loop-b
invariant-loop-b l = run (list_from erase l.n 0) (device l.initial.q l.initial.image) ≡ run (list_from erase (l.n - l.b) l.b) (device l.q l.image)
