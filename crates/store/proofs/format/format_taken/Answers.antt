-- The record of an empty volume, and the volume with what power there is.
use Rattle.store.proofs.Calls.{format_left}
use Rattle.store.proofs.format.format_taken.Goals as goal

pub returns : goal.returns
returns c =
    let a = c.args in
    let b = c.requires.buffers in
    rw (c.taken.ensures, c.first_numbers.ensures, c.clear_map.ensures, c.fill.ensures, b.map_full, b.letters_full)
    (format_left a.image.now a.map.now a.letters.now a.noise.now a.n a.k _ _ c.requires (rw c.power_for.ensures at c.program_volume-power.ensures))
