-- `page::forms::is_whole_node` meets its contract: the header but its second number, the closing, and that number.
use mathlib.Core.Path.{◌≡◌, sym, ap, ◌∙◌}
use mathlib.Core.Bool.{Bool, true, false, ◌&&◌}
use borrow.Author.Rules.{rules}
use Rattle.base.specs.Part.{part}
use Rattle.page.specs.Frame.{header_size}
use Rattle.page.specs.Header.{node_spelt, second_right}
use Rattle.page.specs.Form.{closed}
use Rattle.page.proofs.HeaderParts.{whole_node-parts}
use Rattle.page.proofs.forms.is_whole_node.Goals as goal

pub returns-then-not-spelt : goal.returns-then-not-spelt
returns-then-not-spelt c =
    let a = c.args in
    let spelt : node_spelt a.file a.offset a.position (part a.page.now 0 header_size) && closed a.page.now ≡ false =
    rw (← c.array_at-header.ensures, ← c.is_node_of.ensures, ← c.is_closed.ensures) (c.if-not-spelt.true) in
    sym (ap (λ (b : Bool). b && second_right (part (part a.page.now 0 header_size) 20 8)) spelt)
    ∙ whole_node-parts a.page.now a.file a.offset a.position (search rules) c.requires.0

pub returns : goal.returns
returns c =
    let a = c.args in
    let spelt : node_spelt a.file a.offset a.position (part a.page.now 0 header_size) && closed a.page.now ≡ true =
    rw (← c.array_at-header.ensures, ← c.is_node_of.ensures, ← c.is_closed.ensures) (c.if-not-spelt.false) in
    rw c.array_at-header.ensures at c.has_second.ensures
    ∙ sym (ap (λ (b : Bool). b && second_right (part (part a.page.now 0 header_size) 20 8)) spelt)
    ∙ whole_node-parts a.page.now a.file a.offset a.position (search rules) c.requires.0
