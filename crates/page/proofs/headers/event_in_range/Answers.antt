-- `headers::event_in_range` goes by the kind letter: what is no node is a cut_off.
use borrow.Author.Tests.{eq-eqb, ne_eqb}
use mathlib.Core.Path.{◌≡◌}
use mathlib.Core.Bool.{true}
use lib.Dec.{eqb}
use Rattle.page.specs.Header.{cut_off_letter, in_range}
use Rattle.page.proofs.headers.event_in_range.Goals as goal

pub returns-then-f-eq-NODE_LETTER : goal.returns-then-f-eq-NODE_LETTER
unfolding in_range
returns-then-f-eq-NODE_LETTER c = rw (eq-eqb _ _ c.if-f-eq-NODE_LETTER.true) c.is_node.ensures

pub returns : goal.returns
unfolding in_range
returns c =
    let no_Node = ne_eqb _ _ c.if-f-eq-NODE_LETTER.false in
    let cut_off : eqb c.args.f.kind cut_off_letter ≡ true = rw no_Node at c.requires in
    rw (no_Node, cut_off) c.is_cut_off.ensures
