-- `look::page_at` lends the page: a part of the image.
use Prim.Native.Nat.{◌*◌}
use mathlib.Core.Path.{◌∙◌}
use Rattle.page.specs.Frame.{page_size}
use Rattle.page.proofs.Slices.{lent-part}
use Rattle.image.specs.Look.{page_at}
use Rattle.image.proofs.look.page_at.Goals as goal

pub returns : goal.returns
unfolding page_at
returns c =
    let a = c.args in
    let h = rw c.unwrap.ensures at c.as_array.ensures.cases in
    h.same ∙ lent-part a.image.now (a.g * page_size) page_size
