-- Document 01 from block kinds to "Calls and their refusals", in the document's order, and document 02, #102. What a page is, is page's; what a
-- step leaves, image's.
--   Reply     the replies and their numbers; tests in order
--   Kind      whole key blocks, whole commit blocks, data blocks
--   Record    the working record, and when it fits
--   Testing   the test of all places, place by place
--   Outcome   what a call leaves: reply, flash steps, record and lent buffer; and the same where the power fails
--   Find      the lowest free key and the page that a write takes
--   Format, Mount, Write, Read, CutOff, Commit, Wipe, Gather   the outcome of each call
--   Targets   where the copies of a gather go, as code finds it
--   Survey    what mount finds in one pass over the blocks
--   Replay    mount's pass over the pages, as it changes the lent lists
--   Rebuild   the record that mount makes from the commit and the pages
--   Stages    the stages of commit and wipe where the power may have failed
--   Taken     for each call, by name, what is known where it passed all its tests
-- Letters used throughout: g a page of the image, b a block, p a key position, x a place, e an epoch, s a sequence, n and k the power.
pub mod Reply
pub mod Kind
pub mod Record
pub mod Testing
pub mod Outcome
pub mod Find
pub mod Format
pub mod Mount
pub mod Write
pub mod Read
pub mod CutOff
pub mod Commit
pub mod Wipe
pub mod Gather
pub mod Targets
pub mod Survey
pub mod Replay
pub mod Rebuild
pub mod Stages
pub mod Taken
