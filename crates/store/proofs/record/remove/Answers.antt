-- Place by place up to the file's end.
use native.Mathlib.Omega.{arith}
use Rattle.store.specs.Record.{record_of}
use Rattle.store.proofs.Records.{removed_from, removing_next, removing_done}
use Rattle.store.proofs.record.remove.Goals as goal

pub loop-x-init : goal.loop-x-init
loop-x-init c =
    let a = c.args in
    let end = c.place_after-x-end.ensures in
    let first = c.place_at-x.ensures.0 in
    record {
      bound = omega (arith, c.requires.0.offset_right);
      map_full = omega arith;
      letters_full = omega arith;
      keys = c.requires.1;
      rest = λ n. removed_from a.file a.offset c.place_after-x-end.result c.place_at-x.result end.0 first (record_of a.map.now a.letters.now n);
    }

pub loop-x-preserved : goal.loop-x-preserved
loop-x-preserved c =
    let w = c.empty_place.ensures in
    let l = c.loop-x in
    removing_next _ _ _ _ _ l.map l.letters l.x _ _ l.invariant (omega arith) c.place_after-x-end.ensures.1 w.0 w.1

pub returns : goal.returns
returns c = let l = c.loop-x in removing_done _ _ _ _ _ l.map l.letters l.x l.invariant (omega arith)
