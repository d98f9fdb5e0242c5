use mathlib.Core.Path.{◌≡◌}
use lib.ListN.{length}
use borrow.Author.Tests.{not-false}
use Prim.Native.Nat.{◌*◌}
use Rattle.image.specs.Step.{whole}
use Rattle.base.proofs.Parts.{lent}
use Rattle.chip.proofs.bus.programmed.Goals as goal

pub returns : goal.returns
unfolding whole
returns c = let a = c.args in let e : length a.r.page ≡ 256 = c.well_formed.0.1.1.1.1.1.1.0.1.0.1 in rw (
  ← c.page_empty.ensures,
  not-false
      c.page_empty.result
      c.if-not-page_empty.false-raw,
  c.resting-2.ensures,
  lent a.image.now (a.r.row * 256) 256
      c.requires _ a.r.page
      c.copy.ensures e,
)
