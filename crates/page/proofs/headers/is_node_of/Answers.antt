-- `page::headers::is_node_of` meets its contract: file, offset and key position first, then the other fields.
use native.Mathlib.Omega.{arith}
use mathlib.Core.Path.{◌≡◌, sym, ◌∙◌}
use mathlib.Core.Bool.{◌&&◌}
use borrow.Author.Rules.{rules}
use Rattle.base.specs.Part.{part}
use Rattle.page.proofs.HeaderParts.{named, unnamed_node, named_node, node_small}
use Rattle.page.proofs.headers.is_node_of.Goals as goal

pub hold-requires : goal.hold-requires
hold-requires c =
    let a = c.args in
    let small = node_small a.src.now a.file a.offset a.position (search rules) c.requires.0 in
    (omega (arith, small.0), omega (arith, small.1))

pub returns-then-not-named : goal.returns-then-not-named
unfolding part
returns-then-not-named c =
    let a = c.args in
    let tested : (c.is_file.result && c.hold.result) ≡ named a.src.now a.file a.offset a.position (search rules) =
    rw (c.is_file.ensures, c.hold.ensures, c.word4.ensures, c.word4-2.ensures) in
    unnamed_node a.src.now a.file a.offset a.position (search rules) (sym tested ∙ c.if-not-named.true)

pub returns : goal.returns
unfolding part
returns c =
    let a = c.args in
    let tested : (c.is_file.result && c.hold.result) ≡ named a.src.now a.file a.offset a.position (search rules) =
    rw (c.is_file.ensures, c.hold.ensures, c.word4.ensures, c.word4-2.ensures) in
    rw (c.same.ensures, c.is_counted.ensures, c.word8.ensures)
    (named_node a.src.now a.file a.offset a.position (search rules) (sym tested ∙ c.if-not-named.false))
