-- `page::keys::key_in_page` meets its contract: the 16 bytes of the slot are copied out.
use Rattle.page.specs.Key.{key_in_page}
use Rattle.page.proofs.keys.key_in_page.Goals as goal

pub returns : goal.returns
unfolding key_in_page
returns c = c.array_at.ensures
