-- `page::entries::valid_payload` meets its contract: letters in the first parts, entries in the others.
use borrow.Author.Tests.{lt-ltb, le-ltb}
use Rattle.page.specs.Entry.{valid_payload}
use Rattle.page.proofs.entries.valid_payload.Goals as goal

pub returns-then-i-lt-FIRST_ENTRY_PART : goal.returns-then-i-lt-FIRST_ENTRY_PART
unfolding valid_payload
returns-then-i-lt-FIRST_ENTRY_PART c = rw (lt-ltb _ _ c.if-i-lt-FIRST_ENTRY_PART.true) c.all_letters.ensures

pub returns-else-i-lt-FIRST_ENTRY_PART : goal.returns-else-i-lt-FIRST_ENTRY_PART
unfolding valid_payload
returns-else-i-lt-FIRST_ENTRY_PART c = rw (le-ltb _ _ c.if-i-lt-FIRST_ENTRY_PART.false) c.all_entries.ensures
