-- The store's calls for C.
--   Face   what a call leaves, as a C caller sees it
--   Bus    the bytes of a step, and the chip's model
pub mod Face
pub mod Bus
