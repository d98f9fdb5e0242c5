-- What the entry points of the test harness answer.
--   Answer   a reply and a lent buffer; the refusal of wrong arguments
--   Cipher   round keys, a block, a text
--   Page     forms, headers, entries, cut-offs, commits
--   Chip     the driver's steps against the chip's model
pub mod Answer
pub mod Cipher
pub mod Page
pub mod Chip
