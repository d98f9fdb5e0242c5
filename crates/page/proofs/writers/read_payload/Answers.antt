use lib.ListN.{length}
use mathlib.Core.Path.{◌∙◌}
use Rattle.page.specs.Frame.{header_size}
use Rattle.page.proofs.Slices.{lent-part}
use Rattle.page.proofs.Pages.{front_enciphered}
use Rattle.page.proofs.writers.read_payload.Goals as goal

pub returns : goal.returns
returns c =
    front_enciphered c.args.key _ c.args.page.now _ _ (length c.args.out.now) c.requires c.apply_stream.ensures c.expand.ensures (c.copy.ensures ∙ lent-part c.args.page.now header_size (length c.args.out.now))
