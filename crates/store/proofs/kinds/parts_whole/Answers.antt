-- `store::kinds::parts_whole` meets its contract: part 0 by its header, then all are whole where those left are.
use Prim.Native.Nat.{◌*◌}
use native.Mathlib.Omega.{arith}
use native.Mathlib.Nat.{add-zero}
use mathlib.Core.Path.{sym, ap, ◌∙◌}
use mathlib.Core.Bool.{not}
use Rattle.base.proofs.Searches.{all_next, all_fails, all_none}
use Rattle.page.specs.Entry.{parts}
use Rattle.image.specs.Size.{pages_in_block}
use Rattle.store.proofs.PageTests.{by_own_header}
use Rattle.store.proofs.kinds.parts_whole.Goals as goal

pub returns-then-ne : goal.returns-then-ne
returns-then-ne c =
    let w = by_own_header _ c.args.f _ _ _ c.requires.1 c.ne.ensures c.commit.ensures in
    sym (all_fails _ parts 0 (omega arith) (rw (sym w ∙ ap not c.if-ne.true)))

pub returns-then-not-payload_valid : goal.returns-then-not-payload_valid
returns-then-not-payload_valid c =
    let w = by_own_header _ c.args.f _ _ _ c.requires.1 c.ne.ensures c.commit.ensures in
    sym (all_fails _ parts 0 (omega arith) (rw (sym w ∙ ap not c.if-ne.false, add-zero (c.args.b * pages_in_block)) (sym c.payload_valid.ensures ∙ c.if-not-payload_valid.true)))

pub loop-part-init : goal.loop-part-init
loop-part-init c =
    let w = by_own_header _ c.args.f _ _ _ c.requires.1 c.ne.ensures c.commit.ensures in
    all_next _ parts 0 (omega arith) (rw (sym w ∙ ap not c.if-ne.false, add-zero (c.args.b * pages_in_block)) (sym c.payload_valid.ensures ∙ c.if-not-payload_valid.false))

pub returns-then-not-part_whole : goal.returns-then-not-part_whole
returns-then-not-part_whole c =
    let l = c.loop-part in
    sym (l.invariant ∙ all_fails _ parts l.part (omega arith) (sym c.part_whole.ensures ∙ c.if-not-part_whole.true))

pub loop-part-preserved : goal.loop-part-preserved
loop-part-preserved c =
    let l = c.loop-part in
    l.invariant ∙ all_next _ parts l.part (omega arith) (sym c.part_whole.ensures ∙ c.if-not-part_whole.false)

pub returns : goal.returns
returns c = sym (c.loop-part.invariant ∙ all_none _ parts c.loop-part.part c.loop-part-test.false)
