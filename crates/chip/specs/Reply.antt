-- Document 02, #109: the numbers of what the chip's model and the driver reply.
use Rattle.std.specs.Prelude.{ℕ, Result, Ok, Err, ⊤}
use Rattle.chip.specs.declared.Error.{Error}
use Rattle.chip.specs.declared.Error.TheVariants.{ImageSize, PageLength, Failed}

-- a reply: success, or why a cycle or a step was not done
abbrev pub Reply : Type 0
Reply = Result ⊤ Error

abbrev pub Done : Reply
Done = Ok tt

-- an image of a wrong size has 1, a page of a wrong length 6, a chip that failed 10
abbrev pub error_number : Error → ℕ
error_number ImageSize = 1
error_number PageLength = 6
error_number Failed = 10

-- success has 0
abbrev pub number_of : Reply → ℕ
number_of (Ok done) = 0
number_of (Err error) = error_number error
