-- `store::kinds::kind_by` meets its contract, return by return.
use Rattle.store.specs.Kind.{commit_block_whole}
use Rattle.store.proofs.kinds.kind_by.Goals as goal

pub returns-then-not-parts_whole : goal.returns-then-not-parts_whole
unfolding commit_block_whole
returns-then-not-parts_whole c = rw (c.if-f-ne-COMMIT_LETTER.false, ← c.parts_whole.ensures, c.if-not-parts_whole.true)

pub returns-then-rest_empty : goal.returns-then-rest_empty
unfolding commit_block_whole
returns-then-rest_empty c =
    rw (
      c.if-f-ne-COMMIT_LETTER.false,
      ← c.parts_whole.ensures,
      c.if-not-parts_whole.false,
      ← c.rest_empty.ensures,
      c.if-rest_empty.true,
    )

pub returns-else-rest_empty : goal.returns-else-rest_empty
unfolding commit_block_whole
returns-else-rest_empty c =
    rw (
      c.if-f-ne-COMMIT_LETTER.false,
      ← c.parts_whole.ensures,
      c.if-not-parts_whole.false,
      ← c.rest_empty.ensures,
      c.if-rest_empty.false,
    )
