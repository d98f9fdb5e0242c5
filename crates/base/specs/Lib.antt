-- Definitions on lists and numbers that the toolchain's library lacks. They know nothing of flash or ciphers.
--   Part     a part of a list, and a list with a part replaced
--   Search   of some numbers in a row the first, the count, the list of those that pass a test; whether all or any do; the highest value
--   Fold     a fold and a list over numbers in a row
--   Each     a fact that holds of each element of a list; tests of whole lists
-- Choice by a test is the library's `cond`, both tests `◌&&◌`: their laws are in proofs/Choice.antt.
pub mod Part
pub mod Search
pub mod Fold
pub mod Each
