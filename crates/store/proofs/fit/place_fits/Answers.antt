-- `store::fit::place_fits` meets its contract: the page and the key that the map has there, by the file and the offset of the place.
use Prim.Native.Nat.{◌+◌, ◌-◌}
use native.Mathlib.Omega.{arith}
use mathlib.Core.Path.{◌≡◌, sym, ◌∙◌}
use Rattle.page.specs.Plan.{file_plan, start_of}
use Rattle.page.proofs.HeaderParts.{longest-right}
use Rattle.store.specs.Record.{place_fits}
use Rattle.store.proofs.PlaceTests.{vacant-read, node-read}
use borrow.Author.Rules.{rules}
use Rattle.store.proofs.fit.place_fits.Goals as goal

pub returns-then-page-key : goal.returns-then-page-key
unfolding place_fits
returns-then-page-key c =
    let a = c.args in
    let v = sym (vacant-read a.map.now a.x (omega arith) (omega arith)) ∙ c.if-page-key.true in
    rw v

pub spelt4-text-requires : goal.spelt4-text-requires
spelt4-text-requires c = omega (arith, c.file_at-file.ensures.0)

pub node_fits-requires : goal.node_fits-requires
node_fits-requires c = let right = longest-right in search rules

pub returns : goal.returns
returns c =
    let a = c.args in
    let file = c.file_at-file in
    let start = c.start in
    let place : start_of file_plan file.result + (a.x - start.result) ≡ a.x = omega (arith, file.ensures.1, start.ensures) in
    sym (node-read a.map.now a.x (omega arith) (omega arith) a.image.now _ c.node_fits.result c.if-page-key.false place c.node_fits.ensures)
