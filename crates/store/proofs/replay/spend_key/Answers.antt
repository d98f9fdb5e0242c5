-- `store::replay::spend_key` meets its contract: the letter of the key is set for a node above the covered sequence.
use native.Mathlib.Omega.{arith}
use Rattle.store.proofs.Replays.{node-planned}
use Rattle.store.proofs.replay.spend_key.Goals as goal

pub bounds-letters-p : goal.bounds-letters-p
bounds-letters-p c = omega (arith, (node-planned c.args.f c.if-f-ne-NODE_LETTER.false c.requires).1)
