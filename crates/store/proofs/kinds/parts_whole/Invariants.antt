-- `store::kinds::parts_whole` meets its contract: part 0, then all are whole where those left are.
use Prim.Native.Nat.{◌-◌}
use mathlib.Core.Path.{◌≡◌}
use Rattle.base.specs.Search.{all_from}
use Rattle.page.specs.Entry.{parts}
use Rattle.store.specs.Kind.{part_whole}
use Rattle.store.proofs.kinds.parts_whole.Given as goal

abbrev pub invariant-loop-part : goal.invariant-loop-part
invariant-loop-part l = all_from (part_whole l.image l.b l.e l.s) parts 0 ≡ all_from (part_whole l.image l.b l.e l.s) (parts - l.part) l.part
