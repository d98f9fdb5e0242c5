-- `add_block` adds a block to a slice. After j turns its first j bytes are added.
use mathlib.Core.Path.{◌≡◌}
use lib.ListN.{take}
use Rattle.cipher.specs.Words.{xor_bytes}
use Rattle.cipher.proofs.stream.add_block.Given as goal

abbrev pub invariant-loop-j : goal.invariant-loop-j
invariant-loop-j l = l.x-items ≡ xor_bytes l.initial.x-items (take l.j l.block)
