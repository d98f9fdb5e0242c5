-- Laws of the harness.
--   Framed   a page written from a header and a payload
pub mod Framed
