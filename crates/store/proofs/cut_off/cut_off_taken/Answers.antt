-- The page is programmed with what power there is, then the record is brought to the new state.
use Rattle.store.specs.Record.{record_of}
use Rattle.store.proofs.Calls.{key_below, cut_off_inside, cut_off-left}
use Rattle.store.proofs.cut_off.cut_off_taken.Goals as goal

pub program_cut_off-power-requires : goal.program_cut_off-power-requires
program_cut_off-power-requires c =
    let a = c.args in
    cut_off_inside a.image.now (record_of a.map.now a.letters.now a.numbers) a.file a.offset a.g c.requires.0 c.requires.1

pub remove-requires : goal.remove-requires
remove-requires c =
    let a = c.args in
    let t = c.requires.0 in
    (t.planned, key_below a.image.now (record_of a.map.now a.letters.now a.numbers) t.ready)

pub returns : goal.returns
returns c =
    let a = c.args in
    let r = record_of a.map.now a.letters.now a.numbers in
    rw (c.taken.ensures, c.next_sequence.ensures)
    (cut_off-left a.image.now r a.file a.offset a.n a.k a.g _ _ c.requires.0 c.requires.1 (rw c.power_for.ensures at c.program_cut_off-power.ensures) (c.remove.ensures a.numbers))
