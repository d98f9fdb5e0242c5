-- No format has that many steps.
use native.Mathlib.Omega.{arith}
use mathlib.Core.Path.{◌∙◌}
use Rattle.store.specs.Format.{format_of}
use Rattle.store.proofs.Calls.{format_few}
use Rattle.store.proofs.Cuts.{whole-left}
use Rattle.store.proofs.format.format.Goals as goal

pub returns : goal.returns
returns c =
    let a = c.args in
    c.format_cut.ensures ∙ whole-left _ 0 (format_of a.image.now a.map.now a.letters.now a.noise.now) a.image.now (format_few a.image.now a.map.now a.letters.now a.noise.now) (omega arith)
