-- Document 01, "Calls and their refusals": the number of each refusal, and tests in the order written.
use Rattle.std.specs.Prelude.{ℕ, Bool, cond, List, [], ◌∷◌, Result, Ok, Err, ⊤, is_ok}
use Rattle.store.specs.declared.Error.{Error}
use Rattle.store.specs.declared.Error.TheVariants.{ImageSize, BufferLength, NoiseLength, NoSuchFile, OffsetOutside, PayloadLength, RecordUnfit, NothingThere, NoFreeKey, NoRoom, NumbersSpent, NoKeyBlock, NoCommit, EntryUnfit, NothingToGather, PowerCut}

-- what a call replies: success, or why it did not succeed
abbrev pub Reply : Type 0
Reply = Result ⊤ Error

abbrev pub Done : Reply
Done = Ok tt

-- the document's number of a refusal; a call that the power cut has no number there, and gets 255
abbrev pub error_number : Error → ℕ
error_number ImageSize = 1
error_number BufferLength = 2
error_number NoiseLength = 3
error_number NoSuchFile = 4
error_number OffsetOutside = 5
error_number PayloadLength = 6
error_number RecordUnfit = 7
error_number NothingThere = 8
error_number NoFreeKey = 9
error_number NoRoom = 10
error_number NumbersSpent = 11
error_number NoKeyBlock = 12
error_number NoCommit = 13
error_number EntryUnfit = 14
error_number NothingToGather = 15
error_number PowerCut = 255

-- the number of a reply: 0 for success
abbrev pub number_of : Reply → ℕ
number_of (Ok done) = 0
number_of (Err error) = error_number error

-- success
abbrev pub is_done : Reply → Bool
is_done = is_ok

-- what the tests of a call hand on: a value where they are passed, else the refusal
abbrev pub handed : {A : Type 0} → Reply → A → Result A Error
handed (Ok done) x = Ok x
handed (Err error) x = Err error

-- a test: what must hold, and the refusal where it does not
pub record Test : Type 0 where
  pub holds : Bool
  pub otherwise : Error

infix 5 ◌else◌
abbrev pub ◌else◌ : Bool → Error → Test
b else r = record { holds = b; otherwise = r }

-- the reply of tests in order: that of the first that fails
abbrev pub verdict : List Test → Reply
verdict [] = Done
verdict (t ∷ ts) = cond t.holds (verdict ts) (Err t.otherwise)
