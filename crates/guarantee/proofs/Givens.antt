-- What a write is given: the lengths of a right one, what is read back of it, and the store's laws of a write for it.
use Prim.Native.Nat.{ℕ}
use mathlib.Core.Path.{◌≡◌, refl, sym}
use mathlib.Core.Bool.{true, false}
use mathlib.Core.List.{List, []}
use lib.Dec.{eqb, leb}
use lib.ListN.{length, take}
use borrow.Author.Tests.{eqb-true, leb-true}
use Rattle.base.proofs.Choice.{and-true}
use Rattle.page.specs.Frame.{payload_size}
use Rattle.page.specs.Header.{length_of}
use Rattle.page.proofs.Pages.{padded_back}
use Rattle.page.proofs.Ranges.{within-true}
use Rattle.image.specs.Step.{AllLegal}
use Rattle.store.specs.Record.{Record}
use Rattle.store.specs.Reply.{Done, is_done}
use Rattle.store.specs.Find.{new_page, lowest_free, found_at}
use Rattle.store.specs.Write.{place_at, placed, append_steps, write_of}
use Rattle.store.specs.Taken.{Filling, WriteTaken}
use Rattle.store.proofs.Verdicts.{payload-filling, write_taken_lem}
use Rattle.store.proofs.Outcomes.{taken, stepless, write_outcome, write-refused}
use Rattle.store.proofs.Counts.{write-steps}
use Rattle.store.proofs.Legals.{write-legal}
use Rattle.guarantee.specs.Call.{Given, ours, theirs, second_given, bytes_given, payload_given, given_right, write, write_given, outcome_of}

-- a write that is given a payload is the store's
pub own_write : (file offset : ℕ) (payload img : List ℕ) (r : Record) → outcome_of (write file offset (ours payload)) img r ≡ write_of img r file offset payload
own_write file offset payload img r = refl

-- ---- what a right one fills its page with
pub given-filling : (given : Given) → given_right given ≡ true → Filling (second_given given) (bytes_given given)
given-filling (ours payload) e = payload-filling payload e
given-filling (theirs second bytes) e =
    let t = and-true (leb second payload_size) (eqb (length bytes) payload_size) e in
    record { second_most = leb-true second payload_size t.0; bytes_full = eqb-true (length bytes) payload_size t.1 }

pub given_back : (given : Given) → given_right given ≡ true → payload_given given ≡ take (length_of (second_given given)) (bytes_given given)
given_back (ours payload) e = sym (padded_back payload (within-true 1 payload_size (length payload) e).0)
given_back (theirs second bytes) e = refl

-- ---- the laws of a write, whatever it is given
module _ (img : List ℕ) (r : Record) (file offset : ℕ) (given : Given) where
  pub given_taken : (write_given img r file offset given).reply ≡ Done → WriteTaken img r file offset (second_given given) (bytes_given given)
  given_taken = write_taken_lem img r file offset (given_right given) (second_given given) (bytes_given given) (given-filling given)

  pub given_outcome : (write_given img r file offset given).reply ≡ Done
      → write_given img r file offset given
      ≡ taken (append_steps img r file offset (second_given given) (bytes_given given))
      (placed r (place_at file offset) (found_at (new_page img r.numbers)) (found_at (lowest_free r.letters))) []
  given_outcome = write_outcome img r file offset (given_right given) (second_given given) (bytes_given given)

  pub given-steps : (write_given img r file offset given).reply ≡ Done → length (write_given img r file offset given).steps ≡ 1
  given-steps = write-steps img r file offset (given_right given) (second_given given) (bytes_given given)

  pub given-refused : is_done (write_given img r file offset given).reply ≡ false
      → write_given img r file offset given ≡ stepless (write_given img r file offset given).reply r []
  given-refused = write-refused img r file offset (given_right given) (second_given given) (bytes_given given)

  pub given-legal : AllLegal img (write_given img r file offset given).steps
  given-legal = write-legal img r file offset (given_right given) (second_given given) (bytes_given given) (given-filling given)
