-- `store::kinds::part_whole` meets its contract: the header, then the payload.
use native.Mathlib.Omega.{arith}
use Rattle.page.specs.Header.{commit_frame}
use Rattle.image.specs.Look.{form_at}
use Rattle.store.specs.Kind.{page_in}
use Rattle.page.proofs.HeaderTests.{with_whole}
use Rattle.store.proofs.BlockKinds.{commit_ranged}
use Rattle.store.proofs.kinds.part_whole.Goals as goal

pub page_like-requires : goal.page_like-requires
page_like-requires c =
    let a = c.args in
    let w = with_whole (commit_frame a.e 0 a.s) (form_at a.image.now (page_in a.b 0)) c.requires.2 in
    record { block_size_in_bounds = (c.requires.0, omega arith); b_value = (commit_frame a.e 0 a.s, c.requires.2, commit_ranged a.image.now (page_in a.b 0) a.e a.s a.i w c.requires.1) }
