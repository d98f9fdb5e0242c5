-- `store::kinds::has_event` meets its contract: any page is one where any of those left is.
use native.Mathlib.Omega.{arith}
use mathlib.Core.Path.{sym, ◌∙◌}
use Rattle.base.proofs.Searches.{any_here, any_next, any_none}
use Rattle.image.specs.Size.{pages_in_block}
use Rattle.store.proofs.kinds.has_event.Goals as goal

pub returns-then-event_at : goal.returns-then-event_at
returns-then-event_at c =
    let l = c.loop-i in
    sym (l.invariant ∙ any_here _ pages_in_block l.i (omega arith) (sym c.event_at.ensures ∙ c.if-event_at.true))

pub loop-i-preserved : goal.loop-i-preserved
loop-i-preserved c =
    let l = c.loop-i in
    l.invariant ∙ any_next _ pages_in_block l.i (omega arith) (sym c.event_at.ensures ∙ c.if-event_at.false)

pub returns : goal.returns
returns c = sym (c.loop-i.invariant ∙ any_none _ pages_in_block c.loop-i.i c.loop-i-test.false)
