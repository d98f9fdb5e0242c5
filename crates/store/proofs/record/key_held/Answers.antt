-- The key of a position stands in the block of its key block.
use Prim.Native.Nat.{ℕ, ◌≤◌, ◌+◌, ◌*◌}
use mathlib.Core.Bool.{Bool, true, false, cond}
use lib.Dec.{eqb}
use Rattle.image.specs.Size.{block_size}
use Rattle.store.specs.Write.{key_held}
use Rattle.store.proofs.record.key_held.Goals as goal

-- of two blocks in the image each
inside : (t : Bool) (a b n : ℕ) → a * block_size + block_size ≤ n → b * block_size + block_size ≤ n → cond t a b * block_size + block_size ≤ n
inside true a b n h k = h
inside false a b n h k = k

pub key_in_block-requires : goal.key_in_block-requires
key_in_block-requires c =
    rw c.keys_block.ensures (inside (eqb c.block_of.result 0) _ _ _ c.requires.0 c.requires.1)

pub returns : goal.returns
unfolding key_held
returns c = rw (c.key_in_block.ensures, c.keys_block.ensures, c.block_of.ensures)
