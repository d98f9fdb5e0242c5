use mathlib.Core.Path.{◌∙◌}
use Rattle.image.specs.Size.{pages}
use Rattle.chip.proofs.Sets.{row_there, output_whole}
use Rattle.chip.proofs.bus.shown.Goals as goal

pub next_byte-requires : goal.next_byte-requires
next_byte-requires c = let a = c.args in (row_there a.image.now c.requires.0 a.r
    c.requires.1 (output_whole (pages a.image.now) a.r c.requires.1
    (c.requires.2 ∙ c.in-Output.is))).0
