-- The shorter commit, then the stages of a commit.
use native.Mathlib.Omega.{arith}
use mathlib.Core.Path.{ap}
use Rattle.image.specs.Power.{power_for}
use Rattle.store.specs.Record.{Record, record_of}
use Rattle.store.specs.Wipe.{removed_first}
use Rattle.store.proofs.Renewals.{first_reached, first_keys, first_numbers_lem, after_able, sequence-some, wipe-left}
use Rattle.store.proofs.wipe.wipe_taken.Goals as goal

pub renew-requires : goal.renew-requires
renew-requires c =
    let a = c.args in
    let t = c.requires.0 in
    let r = record_of a.map.now a.letters.now a.numbers in
    let w = c.shorten-shorter in
    let e = ap (λ (x : Record). x.numbers) w.ensures.1 in
    let k = first_keys a.image.now r a.noise.now a.file a.offset t in
    let n = first_numbers_lem a.image.now r a.noise.now a.file a.offset t in
    let g = first_reached a.image.now r a.file a.offset t.ready t.room in
    let able = after_able a.image.now a.numbers (removed_first a.image.now r a.file a.offset) g (power_for a.n a.k) _ _ _ w.ensures.0 in
    record { able = (able, c.lowest_spare-next.ensures, rw e k.0, rw e k.1); le_sequence = (rw e (omega (arith, n.0, sequence-some a.image.now r t.ready)), rw e (omega (arith, n.1, t.numbers_left))) }

pub returns : goal.returns
returns c =
    let a = c.args in
    let r = record_of a.map.now a.letters.now a.numbers in
    let w = c.shorten-shorter in
    rw c.answer.ensures
    (wipe-left a.image.now r a.noise.now a.file a.offset a.n a.k _ _ _ _ _ _ _ _ c.requires.0 w.ensures.0 w.ensures.1 c.renew.ensures)
