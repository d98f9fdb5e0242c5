-- `store::replay::apply_event` meets its contract, by the header's sequence and kind.
use native.Mathlib.Omega.{arith}
use Rattle.store.specs.Replay.{held_at}
use Rattle.store.proofs.Replays.{other_stays, node_takes, cut_off_takes, file-end, node-planned, cut_off-planned}
use Rattle.store.proofs.replay.apply_event.Goals as goal

pub place_at-x-requires : goal.place_at-x-requires
place_at-x-requires c = (node-planned c.args.f c.if-f-eq-NODE_LETTER.true c.requires.1).0

pub overflow_cast-f : goal.overflow_cast-f
overflow_cast-f c = omega (arith, (node-planned c.args.f c.if-f-eq-NODE_LETTER.true c.requires.1).1)

pub returns-then-f-eq-NODE_LETTER : goal.returns-then-f-eq-NODE_LETTER
returns-then-f-eq-NODE_LETTER c =
    let a = c.args in
    let t = c.take_place in
    let node = c.if-f-eq-NODE_LETTER.true in
    node_takes a.covered a.g a.f a.map.now a.scratch.now t.new.map t.new.scratch c.place_at-x.result
    (omega (arith, c.if-f-covered.false)) node (node-planned a.f node c.requires.1).0 c.place_at-x.ensures.0 t.ensures

pub place_at-first-requires : goal.place_at-first-requires
place_at-first-requires c = cut_off-planned c.args.f c.if-f-eq-CUT_OFF_LETTER.true c.requires.1

pub start-requires : goal.start-requires
start-requires c = (cut_off-planned c.args.f c.if-f-eq-CUT_OFF_LETTER.true c.requires.1).file_right

pub overflow_add-end : goal.overflow_add-end
overflow_add-end c =
    let planned = cut_off-planned c.args.f c.if-f-eq-CUT_OFF_LETTER.true c.requires.1 in
    omega (arith, c.count.ensures, c.start.ensures, file-end c.args.f.unit planned.file_right)

pub remove_places-requires : goal.remove_places-requires
remove_places-requires c =
    let planned = cut_off-planned c.args.f c.if-f-eq-CUT_OFF_LETTER.true c.requires.1 in
    let start = c.start.ensures in
    let count = c.count.ensures in
    (omega (arith, start, count, c.place_at-first.ensures.0, planned.offset_right), omega (arith, start, count, file-end c.args.f.unit planned.file_right))

pub returns-then-f-eq-CUT_OFF_LETTER : goal.returns-then-f-eq-CUT_OFF_LETTER
returns-then-f-eq-CUT_OFF_LETTER c =
    let a = c.args in
    let t = c.remove_places in
    let start = c.start in
    let count = c.count in
    let first = c.place_at-first in
    cut_off_takes a.covered a.g a.f a.map.now a.scratch.now t.new.map t.new.scratch first.result start.result count.result
    (omega (arith, c.if-f-covered.false)) c.if-f-eq-CUT_OFF_LETTER.true first.ensures.0 start.ensures count.ensures t.ensures

pub returns-else-f-eq-CUT_OFF_LETTER : goal.returns-else-f-eq-CUT_OFF_LETTER
returns-else-f-eq-CUT_OFF_LETTER c =
    let a = c.args in
    λ x h. other_stays a.covered a.g a.f x (held_at a.map.now a.scratch.now x) c.if-f-eq-NODE_LETTER.false c.if-f-eq-CUT_OFF_LETTER.false
