-- The loop's invariant: the live pages before page i are copied, and the others have their pages.
use native.Mathlib.Omega.{arith}
use mathlib.Core.Path.{◌≡◌, ap}
use Rattle.store.specs.Record.{record_of}
use Rattle.store.specs.declared.stages.Progress.{Progress}
use Rattle.store.proofs.GatherLoops.{data_inside, moving_first, moving_past, move_able, move_done, moving_last}
use Rattle.store.proofs.gather.gather_taken.Goals as goal
use Rattle.store.proofs.gather.gather_taken.Goals.{in-Some, in_default}

pub loop-i-init : goal.loop-i-init
loop-i-init c =
    let a = c.args in
    let m = c.requires.moves_in in
    rw (c.begin-p.ensures, m.in_order) (
      c.requires.gather_taken,
      moving_first a.image.now (record_of a.map.now a.letters.now a.numbers) a.block a.n a.k
          c.requires.gather_taken,
      m,
    )

pub overflow_mul-from : goal.overflow_mul-from
overflow_mul-from c =
    let a = c.args in
    let b = data_inside a.image.now (record_of a.map.now a.letters.now a.numbers) a.block c.requires.gather_taken in
    omega (arith, b)

pub overflow_add-from : goal.overflow_add-from
overflow_add-from c =
    let a = c.args in
    let b = data_inside a.image.now (record_of a.map.now a.letters.now a.numbers) a.block c.requires.gather_taken in
    omega (arith, b, c.loop-i.invariant.1.bound)

pub move_page-p-requires : goal.move_page-p-requires
move_page-p-requires c =
    let a = c.args in
    let l = c.loop-i in
    let r = record_of a.map.now a.letters.now c.begin-p.result.numbers in
    let m = move_able a.image.now r a.block a.n a.k l.invariant.0 l.image l.map l.p.power l.p.numbers l.i a.moves l.invariant.1 c.loop-i-test.true l.invariant.2
    _ _ c.in-Some.is in
    record { page_size_in_bounds = m.0; from_value = m.1; to_lt_none = m.2 }

pub loop-i-preserved : goal.loop-i-preserved
loop-i-preserved c =
    let a = c.args in
    let begun = c.begin-p.result in
    let l = c.loop-i in
    let r = record_of a.map.now a.letters.now begun.numbers in
    let h = c.loop-i-test.true in
    elim c.match-found.branch [
      | in-Some w ↦ rw (w.image-is, w.map-is, w.p-is) (
        l.invariant.0,
        move_done a.image.now r a.block a.n a.k l.invariant.0 l.image l.map l.p.power l.p.numbers l.i a.moves l.invariant.1 h l.invariant.2 _ _ w.in-Some.is
            _ _ _ _ w.move_page-p.ensures.0 w.move_page-p.ensures.1 w.move_page-p.ensures.2,
        l.invariant.2,
      )
      | in_default w ↦ rw (w.image-is, w.map-is, w.p-is) (
        l.invariant.0,
        moving_past a.image.now r a.block a.n a.k l.invariant.0 l.image l.map l.p.power l.p.numbers l.i a.moves l.invariant.1 h l.invariant.2 w.in_default.is,
        l.invariant.2,
      )
    ]

pub returns : goal.returns
returns c =
    let a = c.args in
    let l = c.loop-i in
    let n : c.begin-p.result.numbers ≡ a.numbers = ap (λ (p : Progress). p.numbers) c.begin-p.ensures in
    let r = record_of a.map.now a.letters.now c.begin-p.result.numbers in
    rw (c.answer.ensures, ← n) (moving_last a.image.now r a.block a.n a.k l.invariant.0 l.image l.map l.p.power l.p.numbers
    l.i _ l.invariant.1 (omega arith))
