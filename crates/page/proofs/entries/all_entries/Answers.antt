-- `page::entries::all_entries` meets its contract: all are entries where what is left are.
use native.Mathlib.Omega.{arith}
use mathlib.Core.Path.{sym, ◌∙◌}
use Rattle.base.proofs.Searches.{all_next, all_fails, all_none}
use Rattle.page.specs.Entry.{entries_in_part}
use Rattle.page.proofs.Commits.{vacant-entries}
use Rattle.page.proofs.entries.all_entries.Goals as goal

pub returns-then-all_vacant : goal.returns-then-all_vacant
returns-then-all_vacant c =
    sym (vacant-entries c.args.payload.now (sym c.all_vacant.ensures ∙ c.if-all_vacant.true))

pub returns-then-not-is_entry : goal.returns-then-not-is_entry
returns-then-not-is_entry c =
    let l = c.loop-j in
    sym (l.invariant ∙ all_fails _ entries_in_part l.j (omega arith) (rw (← c.array_at.ensures, ← c.is_entry.ensures) c.if-not-is_entry.true))

pub loop-j-preserved : goal.loop-j-preserved
loop-j-preserved c =
    let l = c.loop-j in
    l.invariant ∙ all_next _ entries_in_part l.j (omega arith) (rw (← c.array_at.ensures, ← c.is_entry.ensures) c.if-not-is_entry.false)

pub returns : goal.returns
returns c = sym (c.loop-j.invariant ∙ all_none _ entries_in_part c.loop-j.j (omega arith))
