-- Those of the file's places are tried.
use borrow.Author.Rules.{rules}
use Prim.Native.Nat.{◌-◌}
use native.Mathlib.Omega.{arith}
use borrow.Author.Tests.{tests}
use mathlib.Core.Path.{sym, ◌∙◌}
use lib.Dec.{ltb}
use lib.ListN.{take, drop}
use Rattle.std.proofs.lemmas.Iterator.{YieldsList-from_slice}
use Rattle.std.proofs.lemmas.Iterator.Search.{any_from_yields_List}
use Rattle.page.specs.Entry.{none}
use Rattle.store.proofs.Records.{live_from, part_live}
use Rattle.store.proofs.record.any_live.Goals as goal

pub returns : goal.returns
returns c =
    let a = c.args in
    let s = c.place_at.result in
    let end = c.place_after.result in
    let some = any_from_yields_List (λ page. ltb page none) _ _ _ c.any.ensures.ran (YieldsList-from_slice (take (end - s) (drop s a.map.now)) cc) (λ x b q k. search (rules, tests)) in
    some ∙ part_live a.map.now (end - s) s (omega arith) ∙ sym (live_from a.file a.offset end s c.place_after.ensures.0 c.place_at.ensures.0 a.map.now)
