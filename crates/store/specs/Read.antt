-- Document 01, "Calls and their refusals": Read.
use Rattle.std.specs.Prelude.{ℕ, cond, List, [], ◌∷◌, ◌++◌, eqb, length, drop, Result, Ok, Err}
use Rattle.page.specs.Frame.{payload_size}
use Rattle.page.specs.Page.{deciphered}
use Rattle.image.specs.Look.{page_at}
use Rattle.store.specs.Reply.{Reply, Done, Test, ◌else◌, verdict, is_done}
use Rattle.store.specs.Record.{Record, record_of, page_of, key_of, live}
use Rattle.store.specs.Outcome.{Outcome, Left, decided}
use Rattle.store.specs.Write.{node_tests, place_at, key_held}
use Rattle.store.specs.declared.Numbers.{Numbers}
use Rattle.store.specs.declared.Error.{Error}
use Rattle.store.specs.declared.Error.TheVariants.{NothingThere}

abbrev pub read_tests : List ℕ → Record → ℕ → ℕ → List ℕ → List Test
read_tests img r file offset output =
    node_tests img r file offset (eqb (length output) payload_size) ++ ((live r.map (place_at file offset) else NothingThere) ∷ [])

-- what the place's page holds, deciphered under the key of its position: as many bytes as its header says
unfoldable pub content_of : List ℕ → Record → ℕ → List ℕ
content_of img r x = deciphered (key_held img r.numbers (key_of r.map x)) (page_at img (page_of r.map x))

-- a content over the first bytes of an output; the rest of the output stays
abbrev pub filled : List ℕ → List ℕ → List ℕ
filled content output = content ++ drop (length content) output

unfoldable pub read_of : List ℕ → Record → ℕ → ℕ → List ℕ → Outcome
read_of img r file offset output =
    decided (verdict (read_tests img r file offset output)) [] r (filled (content_of img r (place_at file offset)) output) r output

-- the length that a read reports, 0 where it is refused
unfoldable pub read_length : List ℕ → Record → ℕ → ℕ → List ℕ → ℕ
read_length img r file offset output =
    cond (is_done (verdict (read_tests img r file offset output))) (length (content_of img r (place_at file offset))) 0

-- the reply of a read's result, and the length that it reports, 0 where it was refused
abbrev pub read_reply : Result ℕ Error → Reply
read_reply (Ok n) = Done
read_reply (Err error) = Err error

abbrev pub reported : Result ℕ Error → ℕ
reported (Ok n) = n
reported (Err error) = 0

-- what a read leaves: the equation of its contracts
abbrev pub read_leaves : (Outcome → List ℕ → Left) → List ℕ → List ℕ → List ℕ → Numbers → ℕ → ℕ → List ℕ → Left
read_leaves form img map letters numbers file offset output = form (read_of img (record_of map letters numbers) file offset output) img
