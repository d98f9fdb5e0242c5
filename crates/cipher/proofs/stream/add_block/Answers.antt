-- `add_block` adds a block to a slice. After j turns its first j bytes are added.
use mathlib.Core.Path.{ap, sym, ◌∙◌}
use mathlib.Core.List.{List, ◌++◌}
use Prim.Native.Nat.{ℕ}
use native.Mathlib.Omega.{arith}
use native.Mathlib.Numerals.{add-one}
use lib.ListN.{get_or, take, drop, set, length-take}
use Rattle.cipher.specs.Field.{◌⊕◌}
use Rattle.cipher.specs.Words.{xor_bytes}
use Rattle.cipher.proofs.Sums.{xor_nil, xor_more, xor_all, xor_front}
use Rattle.cipher.proofs.stream.add_block.Goals as goal

pub loop-j-init : goal.loop-j-init
loop-j-init c = sym (xor_nil _)

pub loop-j-preserved : goal.loop-j-preserved
loop-j-preserved c =
    let l = c.loop-j in
    let n = c.min-n.result in
    let q = c.args.q.now in
    let k = c.args.block in
    let z = length-take n q in
    ap (λ (x : List ℕ). set x l.j (get_or x l.j 0 ⊕ get_or k l.j 0)) l.invariant
    ∙ xor_more (take n q) k l.j (omega arith) (omega arith)
    ∙ ap (λ (i : ℕ). xor_bytes (take n q) (take i k)) (sym (add-one l.j))

pub returns : goal.returns
returns c =
    let l = c.loop-j in
    let n = c.min-n.result in
    let q = c.args.q.now in
    let k = c.args.block in
    let z = length-take n q in
    ap (λ (x : List ℕ). x ++ drop n q) (l.invariant ∙ xor_all (take n q) k l.j (λ h. omega arith))
    ∙ xor_front n q k (omega arith) (omega arith) (λ h. omega arith)
