-- No mount has that many steps.
use native.Mathlib.Omega.{arith}
use mathlib.Core.Path.{◌∙◌}
use Rattle.store.specs.Mount.{mount_of}
use Rattle.store.proofs.Cuts.{whole-left}
use Rattle.store.proofs.MountCalls.{mount-call-few}
use Rattle.store.proofs.mount.mount.Goals as goal

pub returns : goal.returns
returns c =
    let a = c.args in
    c.mount_cut.ensures ∙ whole-left _ 0 (mount_of a.image.now a.map.now a.letters.now a.scratch.now) a.image.now (mount-call-few a.image.now a.map.now a.letters.now a.scratch.now) (omega arith)
