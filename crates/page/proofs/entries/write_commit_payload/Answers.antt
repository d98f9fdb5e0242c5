-- `page::entries::write_commit_payload` meets its contract: letters in the first parts, entries in the others.
use borrow.Author.Tests.{lt-ltb, le-ltb}
use mathlib.Core.Path.{◌∙◌}
use Rattle.page.specs.Frame.{payload_size}
use Rattle.page.specs.Entry.{commit_payload}
use Rattle.page.proofs.Slices.{lent-part}
use Rattle.page.proofs.entries.write_commit_payload.Goals as goal

pub returns-then-i-lt-FIRST_ENTRY_PART : goal.returns-then-i-lt-FIRST_ENTRY_PART
unfolding commit_payload
returns-then-i-lt-FIRST_ENTRY_PART c =
    rw (lt-ltb _ _ c.if-i-lt-FIRST_ENTRY_PART.true) (c.copy.ensures ∙ lent-part _ _ payload_size)

pub returns-else-i-lt-FIRST_ENTRY_PART : goal.returns-else-i-lt-FIRST_ENTRY_PART
unfolding commit_payload
returns-else-i-lt-FIRST_ENTRY_PART c = rw (le-ltb _ _ c.if-i-lt-FIRST_ENTRY_PART.false) c.write_entries.ensures
