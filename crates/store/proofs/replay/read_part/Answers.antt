-- `store::replay::read_part` meets its contract: the places passed have their entries, the others what they had.
use Prim.Native.Nat.{◌*◌}
use native.Mathlib.Omega.{arith}
use Rattle.page.specs.Entry.{entry_size}
use Rattle.store.proofs.CommitReads.{entry_at_most}
use Rattle.store.proofs.replay.read_part.Goals as goal

pub page_and_key-page-requires : goal.page_and_key-page-requires
page_and_key-page-requires c = entry_at_most c.args.payload.now (entry_size * c.loop-j.j) _ (omega arith) c.entry_at.ensures
