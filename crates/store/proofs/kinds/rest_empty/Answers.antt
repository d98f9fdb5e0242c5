-- `store::kinds::rest_empty` meets its contract: all are empty where those left are.
use native.Mathlib.Omega.{arith}
use mathlib.Core.Path.{sym, ◌∙◌}
use Rattle.base.proofs.Searches.{all_next, all_fails, all_none}
use Rattle.image.specs.Size.{pages_in_block}
use Rattle.store.proofs.kinds.rest_empty.Goals as goal

pub returns-then-not-page_empty : goal.returns-then-not-page_empty
returns-then-not-page_empty c =
    let l = c.loop-i in
    sym (l.invariant ∙ all_fails _ pages_in_block l.i (omega arith) (sym c.page_empty.ensures ∙ c.if-not-page_empty.true))

pub loop-i-preserved : goal.loop-i-preserved
loop-i-preserved c =
    let l = c.loop-i in
    l.invariant ∙ all_next _ pages_in_block l.i (omega arith) (sym c.page_empty.ensures ∙ c.if-not-page_empty.false)

pub returns : goal.returns
returns c = sym (c.loop-i.invariant ∙ all_none _ pages_in_block c.loop-i.i c.loop-i-test.false)
