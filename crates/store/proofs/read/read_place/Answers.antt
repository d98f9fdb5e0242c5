-- Page and key position of the place, from the map.
use borrow.Author.Tests.{lt-ltb}
use native.Mathlib.Omega.{arith}
use mathlib.Core.Path.{◌∙◌}
use Rattle.store.specs.Record.{record_of, page_of}
use Rattle.page.specs.Entry.{none}
use Rattle.store.specs.Read.{content_of}
use Rattle.store.proofs.Records.{page-read, key-read}
use Rattle.store.proofs.Calls.{page_held, keys_held, node_held}
use Rattle.store.proofs.read.read_place.Goals as goal

pub read_node-requires : goal.read_node-requires
read_node-requires c =
    let a = c.args in
    let r = record_of a.lent.map.now a.lent.letters.now a.lent.numbers in
    let ready = c.requires.ready in
    let here = lt-ltb (page_of a.lent.map.now a.x) none c.requires.x_lt_places.1 in
    record { page_size_in_bounds = rw (page-read a.lent.map.now a.x (omega arith)) (page_held a.image.now r ready a.x c.requires.x_lt_places.0 here); block_size_in_bounds = keys_held a.image.now r ready; g_value = rw (page-read a.lent.map.now a.x (omega arith)) (node_held a.image.now r ready a.x c.requires.x_lt_places.0 here) }

pub returns : goal.returns
unfolding content_of
returns c =
    let a = c.args in
    let e = c.read_node.ensures in
    (e.0 ∙ rw (page-read a.lent.map.now a.x (omega arith), key-read a.lent.map.now a.x (omega arith)), e.1 ∙ rw (page-read a.lent.map.now a.x (omega arith), key-read a.lent.map.now a.x (omega arith)))
