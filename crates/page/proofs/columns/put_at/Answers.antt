-- `columns::put_at` lends the columns from at on.
use Prim.Native.Nat.{ℕ, ◌+◌, ◌-◌}
use native.Mathlib.Omega.{arith}
use mathlib.Core.Path.{◌≡◌, ap, ◌∙◌}
use lib.ListN.{length, take, drop, length-take, length-drop}
use Rattle.base.proofs.Parts.{lent}
use Rattle.page.specs.Column.{spell}
use Rattle.page.proofs.Column.{length-spell}
use Rattle.page.proofs.columns.put_at.Goals as goal

pub returns : goal.returns
returns c =
    let a = c.args in
    let width : length (take ((a.at + a.w) - a.at) (drop a.at a.dst.now)) ≡ a.w = simp (length-take, length-drop) (omega (arith, c.requires.0)) in
    lent a.dst.now a.at a.w c.requires.0 _ (spell a.w a.n) (c.put.ensures ∙ ap (λ (w : ℕ). spell w a.n) width) (length-spell a.w a.n c.requires.1)
