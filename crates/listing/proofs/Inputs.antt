-- The listing of any input, from what is read of it: one byte more than an image has at most.
use Rattle.std.specs.Prelude.{◌≡◌, ℕ, ◌+◌, ◌<◌, List, length, take, Option, Some, None, Result, Ok, Err, OnOk, IfSome}
use Rattle.std.proofs.Common.{sym, ap, ◌∙◌, subst, arith, length-take-le, take_all}
use Rattle.std.proofs.Math.Decide.{dec_lt}
use Rattle.std.specs.Io.KnownBytes.{Appends}
use borrow.Author.Tests.{lt-ltb}
use Rattle.store.specs.Reply.{number_of}
use Rattle.store.specs.declared.Error.TheVariants.{ImageSize}
use Rattle.listing.specs.Listing.{longest, refusal, listed}

refused : (input : List ℕ) → longest < length input → listed input ≡ refusal (number_of (Err ImageSize))
unfolding listed
refused input h = rw (lt-ltb longest (length input) h)

pub listed_front : (input : List ℕ) → listed (take (longest + 1) input) ≡ listed input
listed_front input =
    elim (dec_lt longest (length input)) [
      | yes h ↦ let l : length (take (longest + 1) input) ≡ longest + 1 = length-take-le (longest + 1) input (omega arith) in refused (take (longest + 1) input) (omega arith) ∙ sym (refused input h)
      | no h ↦ ap listed (take_all (longest + 1) input (omega arith))
    ]

-- what was read is the front of the input, as far as the buffer has room, and its listing was written
pub appended : {E : Type 0} (r : Result (Unit {0}) E) (known old new : Option (List ℕ)) (room : ℕ) (read text : List ℕ) → room ≡ longest + 1
    → IfSome known (λ input. read ≡ take room input) → text ≡ listed read → OnOk r (Appends old new text) → OnOk r (IfSome known (λ input. Appends old new (listed input)))
appended (Ok u) None old new room read text e a b h = tt
appended (Ok u) (Some input) old new room read text e a b h =
    subst (Appends old new) (b ∙ ap listed (a ∙ ap (λ n. take n input) e) ∙ listed_front input) h
appended (Err _) known old new room read text e a b h = tt
