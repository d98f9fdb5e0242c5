-- Document 01, "Cases": the listing program.
--   Text     a text that grows at its end
--   Listing  the text that it prints for what it reads
pub mod Text
pub mod Listing
