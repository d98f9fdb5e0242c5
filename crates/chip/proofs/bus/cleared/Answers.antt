use Prim.Native.Nat.{◌*◌, ◌/◌}
use Rattle.image.specs.Step.{whole}
use Rattle.base.proofs.Parts.{lent_fill}
use Rattle.chip.proofs.bus.cleared.Goals as goal

pub returns : goal.returns
unfolding whole
returns c = let a = c.args in rw (
  c.resting.ensures,
  lent_fill a.image.now
      (a.r.row / 16 * 4096) 4096 c.requires _ 255 c.fill.ensures,
)
