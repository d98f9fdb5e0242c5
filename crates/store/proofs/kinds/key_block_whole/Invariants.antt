-- `store::kinds::key_block_whole` meets its contract: page 0 by its header, then all are whole where those left are.
use Prim.Native.Nat.{ℕ, ◌-◌}
use mathlib.Core.Path.{◌≡◌}
use mathlib.Core.Bool.{Bool}
use mathlib.Core.List.{List}
use Rattle.base.specs.Search.{all_from}
use Rattle.page.specs.Header.{keys_frame}
use Rattle.image.specs.Size.{pages_in_block}
use Rattle.image.specs.Look.{form_at}
use Rattle.store.specs.Kind.{page_in, whole_with, key_block_whole}
use Rattle.store.proofs.kinds.key_block_whole.Given as goal

-- page i of the block is page i of key block q of epoch e
abbrev pub keys_whole : List ℕ → ℕ → ℕ → ℕ → ℕ → Bool
keys_whole img b q e i = whole_with (keys_frame e q i) (form_at img (page_in b i))

abbrev pub invariant-loop-page : goal.invariant-loop-page
invariant-loop-page l = key_block_whole l.image l.b l.q l.e ≡ all_from (keys_whole l.image l.b l.q l.e) (pages_in_block - l.page) l.page
