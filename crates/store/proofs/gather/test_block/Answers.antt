-- The count of live pages, the sequences, and the pages for the copies.
use native.Mathlib.Omega.{arith}
use mathlib.Core.Path.{sym, ◌∙◌}
use Rattle.store.specs.Record.{held}
use Rattle.store.proofs.Fits.{fits_is}
use Rattle.store.proofs.Gathers.{live-few}
use Rattle.store.proofs.GatherTargets.{live-counted}
use Rattle.store.proofs.GatherCalls.{no_live_page, no_sequences, moves_tried}
use Rattle.store.proofs.gather.test_block.Goals as goal

pub returns-then-n-eq0 : goal.returns-then-n-eq0
returns-then-n-eq0 c =
    let a = c.args in
    let n = c.count_live-n.ensures ∙ live-counted a.lent.map.now a.block _ c.note_places-at.ensures in
    no_live_page a.image.now (held a.lent) a.block c.requires (sym n ∙ c.if-n-eq0.true)

pub overflow_add-lent : goal.overflow_add-lent
overflow_add-lent c =
    let a = c.args in
    let n = c.count_live-n.ensures ∙ live-counted a.lent.map.now a.block _ c.note_places-at.ensures in
    omega (arith, n, live-few a.lent.map.now a.block, (fits_is a.image.now (held a.lent) c.requires.fit).sequence.1)

pub returns-then-lent-n : goal.returns-then-lent-n
returns-then-lent-n c =
    let a = c.args in
    let n = c.count_live-n.ensures ∙ live-counted a.lent.map.now a.block _ c.note_places-at.ensures in
    no_sequences a.image.now (held a.lent) a.block c.requires (omega (arith, n)) (omega (arith, n, c.if-lent-n.true))

pub returns : goal.returns
returns c =
    let a = c.args in
    let n = c.count_live-n.ensures ∙ live-counted a.lent.map.now a.block _ c.note_places-at.ensures in
    rw c.ok_or.ensures.value
    (moves_tried a.image.now (held a.lent) a.block c.requires (omega (arith, n)) (omega (arith, n)) _ c.note_places-at.ensures _ c.find_moves.ensures)
