-- `page::writers::encipher` meets its contract: what the cipher says of the part, said of the page.
use native.Mathlib.Omega.{arith}
use mathlib.Core.Path.{◌∙◌}
use Rattle.base.specs.Part.{part}
use Rattle.base.proofs.Parts.{part_length, lent}
use Rattle.page.specs.Frame.{header_size, payload_size}
use Rattle.page.specs.Page.{payload_of}
use Rattle.page.proofs.Pages.{stream_enciphered, enciphered-length}
use Rattle.page.proofs.writers.encipher.Goals as goal

pub returns : goal.returns
unfolding payload_of part
returns c =
    let p = c.args.page.now in
    lent p header_size payload_size (omega arith) _ _ (stream_enciphered _ _ _ _ c.apply_stream.ensures c.expand.ensures)
    (enciphered-length c.args.key (part p header_size payload_size) ∙ part_length p header_size payload_size (omega arith))
