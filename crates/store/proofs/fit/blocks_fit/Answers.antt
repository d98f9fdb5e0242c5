-- `store::fit::blocks_fit` meets its contract, block by block.
use Rattle.store.specs.Record.{blocks_fit}
use Rattle.store.proofs.fit.blocks_fit.Goals as goal

pub returns-then-not-is_keys : goal.returns-then-not-is_keys
unfolding blocks_fit
returns-then-not-is_keys c = rw (← c.is_keys.ensures, c.if-not-is_keys.true)

pub returns-then-not-is_keys-2 : goal.returns-then-not-is_keys-2
unfolding blocks_fit
returns-then-not-is_keys-2 c =
    rw (
      ← c.is_keys.ensures,
      c.if-not-is_keys.false,
      ← c.is_keys-2.ensures,
      c.if-not-is_keys-2.true,
    )

pub returns : goal.returns
unfolding blocks_fit
returns c =
    rw (
      ← c.is_keys.ensures,
      c.if-not-is_keys.false,
      ← c.is_keys-2.ensures,
      c.if-not-is_keys-2.false,
    )
    c.is_commit.ensures
