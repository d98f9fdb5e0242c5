-- `keys::key_in_block` reads the slot of position p from its page of the block.
use mathlib.Core.Path.{◌∙◌}
use Rattle.image.proofs.KeyBlock.{key_in_block_at}
use Rattle.image.proofs.keys.key_in_block.Goals as goal

pub returns : goal.returns
returns c =
    let a = c.args in
    c.key_in_page.ensures
    ∙ rw (c.slot_of.ensures, c.page_at-page.ensures, c.page_of.ensures) (key_in_block_at a.image.now a.b a.p)
