-- Laws of the listing.
--   Texts     text that grows from the front of a buffer
--   Files     the file and the offset of a place
--   Rows      the rows of a map's places
--   Examples  document 01's case, by computation
pub mod Inputs
pub mod Texts
pub mod Files
pub mod Rows
pub mod Examples
