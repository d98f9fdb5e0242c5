-- `store::kinds::has_event` meets its contract: any page is one where any of those left is.
use Prim.Native.Nat.{ℕ, ◌-◌}
use mathlib.Core.Path.{◌≡◌}
use mathlib.Core.Bool.{Bool}
use mathlib.Core.List.{List}
use Rattle.base.specs.Search.{any_from}
use Rattle.image.specs.Size.{pages_in_block}
use Rattle.image.specs.Look.{form_at}
use Rattle.store.specs.Kind.{page_in, headed}
use Rattle.store.proofs.kinds.has_event.Given as goal

-- page i of the block is a whole or torn N or D page
abbrev pub event_in : List ℕ → ℕ → ℕ → Bool
event_in img b i = headed (form_at img (page_in b i))

abbrev pub invariant-loop-i : goal.invariant-loop-i
invariant-loop-i l = any_from (event_in l.image l.b) pages_in_block 0 ≡ any_from (event_in l.image l.b) (pages_in_block - l.i) l.i
