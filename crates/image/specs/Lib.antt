-- Document 01, "The flash image": its size, its pages and blocks, the two steps of the flash and what power cuts leave of them.
--   Size    blocks and pages of an image, and which sizes are taken
--   Look    the page and the block at a number, a page's form, emptiness, the lowest empty block
--   Step    the two steps, and the image where the power lasts for n steps and k bytes
--   Power   the same as a budget that each step takes from and hands on
--   Block   the steps that program a key block and a commit block
-- Letters used throughout: g a page of the image, b a block, i a page of a block, n a number of steps, k a number of bytes.
pub mod Size
pub mod Look
pub mod Step
pub mod Power
pub mod Block
