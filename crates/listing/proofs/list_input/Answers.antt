-- What was read is the front of the input, and its listing was written.
use Rattle.std.proofs.Common.{◌∙◌, length, rules}
use Rattle.listing.proofs.Inputs.{appended}
use Rattle.listing.proofs.list_input.Goals as goal

pub returns : goal.returns
returns g c =
    appended c.write_all.result _ _ _ (length c.read_full.new.buf) _ _ (search rules) c.in_ok-n.ensures.bytes (c.as_bytes.ensures ∙ c.list-text.ensures.1) c.write_all.ensures.bytes
