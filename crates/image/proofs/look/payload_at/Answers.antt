-- `look::payload_at` lends the payload: a part of the page, which is a part of the image.
use Prim.Native.Nat.{◌+◌, ◌*◌}
use native.Mathlib.Omega.{arith}
use mathlib.Core.Path.{sym, ◌∙◌}
use Rattle.base.proofs.Parts.{part-part}
use Rattle.page.specs.Frame.{page_size, header_size, payload_size}
use Rattle.page.specs.Page.{payload_of}
use Rattle.page.proofs.Slices.{lent-part}
use Rattle.image.specs.Look.{page_at}
use Rattle.image.proofs.look.payload_at.Goals as goal

pub returns : goal.returns
unfolding payload_of page_at
returns c =
    let a = c.args in
    let at = a.g * page_size in
    let h = rw c.unwrap.ensures at c.as_array.ensures.cases in
    let e = h.same ∙ lent-part a.image.now (at + header_size) payload_size in
    e ∙ sym (part-part a.image.now at page_size header_size payload_size (omega arith))
