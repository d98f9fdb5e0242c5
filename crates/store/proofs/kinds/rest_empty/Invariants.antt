-- `store::kinds::rest_empty` meets its contract: all are empty where those left are.
use Prim.Native.Nat.{ℕ, ◌-◌}
use mathlib.Core.Path.{◌≡◌}
use mathlib.Core.Bool.{Bool}
use mathlib.Core.List.{List}
use Rattle.base.specs.Search.{all_from}
use Rattle.page.specs.Entry.{parts}
use Rattle.image.specs.Size.{pages_in_block}
use Rattle.image.specs.Look.{page_empty}
use Rattle.store.specs.Kind.{page_in}
use Rattle.store.proofs.kinds.rest_empty.Given as goal

-- page i of the block is empty
abbrev pub empty_in : List ℕ → ℕ → ℕ → Bool
empty_in img b i = page_empty img (page_in b i)

abbrev pub invariant-loop-i : goal.invariant-loop-i
invariant-loop-i l = all_from (empty_in l.image l.b) (pages_in_block - parts) parts ≡ all_from (empty_in l.image l.b) (pages_in_block - l.i) l.i
