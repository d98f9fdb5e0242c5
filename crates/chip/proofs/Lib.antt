-- Laws of the definitions of specs/; beside them the two walks, bus/send and bus/receive.
--   Sets      the sets that count: what the test says of each register, and what such a set lets the bus do
--   Moves     a cycle over such a set, case by case; the image keeps its length; cycles over a wrong image
--   Cycles    the cycles of a step, one by one
--   Replies   only success has the number 0
--   Drives    the loop of the driver: cycles sent up to a place, and the rest still to come
--   Keeps     cycles and bytes received lead from a set that counts to another
--   Outcomes  what the driver's cycles for a step bring the chip to, from any register set
--   Claims    the claims of specs/Claim.antt
--   Lefts     a set counts if and only if bytes leave it
--   InTurn    steps in turn: all of them, and cycles that end between two bytes
pub mod Sets
pub mod Moves
pub mod Cycles
pub mod Drives
pub mod Replies
pub mod Keeps
pub mod Outcomes
pub mod Claims
pub mod Lefts
pub mod InTurn
