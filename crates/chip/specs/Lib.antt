-- Document 02, #109: the chip's side as a machine that bus cycles move, and the driver's side as lists of cycles.
--   Reply      what the model and the driver reply, with its number
--   Cycle      the bytes of the bus with their marks, and ONFI's command bytes
--   Registers  the register set: the sets that cycles over an image leave, and the two that rest and begin
--   Bus        one cycle sent to the chip, one byte received from it, cycles in a row
--   Driver     the cycles of a step of the flash, and what the driver replies
--   Numbers    registers and cycles as numbers, for callers in C
--   Claim      what is proved of both sides together
-- Letters used throughout: r a register set, n the pages of an image, x a byte, c a cycle, cs cycles in a row, g a page, b a block.
pub mod Reply
pub mod Cycle
pub mod Registers
pub mod Bus
pub mod Driver
pub mod Numbers
pub mod Claim
