-- The page is lent to the cipher's reader, and as many bytes of the output as its header says.
use native.Mathlib.Omega.{arith}
use mathlib.Core.Path.{ap, ◌∙◌}
use lib.ListN.{length}
use Rattle.page.specs.Form.{form_of}
use Rattle.image.proofs.Step.{page-length}
use Rattle.image.specs.Look.{form_at}
use Rattle.store.proofs.Calls.{front_read}
use Rattle.store.proofs.read.read_node.Goals as goal

pub node_length-n-requires : goal.node_length-n-requires
unfolding form_at
node_length-n-requires c =
    let node = c.requires.g_value in
    let page = c.page_at-page.ensures in
    (node.0, ap form_of page ∙ node.1, node.2)

pub returns : goal.returns
returns c =
    let n = c.node_length-n.ensures in
    let page = c.page_at-page in
    let key = c.key_held-key in
    let e = front_read key.result page.result.now c.args.output.now _ _ (ap length page.ensures ∙ page-length c.args.image.now c.args.g c.requires.page_size_in_bounds) n.0 n.1 (omega arith) c.read_payload.ensures in
    (e.0 ∙ rw (key.ensures, page.ensures), e.1 ∙ rw (key.ensures, page.ensures))
