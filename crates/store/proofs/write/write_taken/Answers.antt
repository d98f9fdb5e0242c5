-- The page is programmed with what power there is, then the record is brought to the new state.
use native.Mathlib.Omega.{arith}
use Rattle.store.specs.Record.{record_of}
use Rattle.store.proofs.Calls.{keys_held, key_below, writable, write-left}
use Rattle.store.proofs.write.write_taken.Goals as goal

pub key_held-key-requires : goal.key_held-key-requires
key_held-key-requires c =
    let a = c.args in
    let r = record_of a.map.now a.letters.now a.numbers in
    keys_held a.image.now r c.requires.write_taken.ready

pub overflow_cast-p : goal.overflow_cast-p
overflow_cast-p c =
    let a = c.args in
    let r = record_of a.map.now a.letters.now a.numbers in
    let w = writable a.image.now r a.file a.offset a.payload.now a.p a.g c.requires.write_taken c.requires.p_value.0 c.requires.p_value.1 in
    omega (arith, w.position)

pub program_node-power-requires : goal.program_node-power-requires
program_node-power-requires c =
    let a = c.args in
    let r = record_of a.map.now a.letters.now a.numbers in
    let w = writable a.image.now r a.file a.offset a.payload.now a.p a.g c.requires.write_taken c.requires.p_value.0 c.requires.p_value.1 in
    (w.inside, c.requires.write_taken.filling.second_most)

pub set_place-requires : goal.set_place-requires
set_place-requires c =
    let a = c.args in
    let r = record_of a.map.now a.letters.now a.numbers in
    let w = writable a.image.now r a.file a.offset a.payload.now a.p a.g c.requires.write_taken c.requires.p_value.0 c.requires.p_value.1 in
    let x = c.place_at.ensures.1 in
    record { x_lt_places = (x, key_below a.image.now r c.requires.write_taken.ready c.place_at.result x); g_lt_none = (w.number, w.position) }

pub returns : goal.returns
returns c =
    let a = c.args in
    let r = record_of a.map.now a.letters.now a.numbers in
    let x = c.place_at.ensures.0 in
    let l = c.set_place.ensures in
    rw (c.taken.ensures, c.next_sequence.ensures, l.0, l.1, x)
    (write-left a.image.now r a.file a.offset a.payload.now a.n a.k a.p a.g _ _ _ c.requires.payload_value c.requires.write_taken c.requires.p_value.0 c.requires.p_value.1 c.key_held-key.ensures (rw c.power_for.ensures at c.program_node-power.ensures))
