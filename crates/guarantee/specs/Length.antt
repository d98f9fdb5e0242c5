-- Document 02, #101: what is written keeps its length, whatever the power does. What that means of a file's offset, and which calls leave what stands there;
-- `own_length`, `former_length` and `older_node` (Lengths) of proofs/ prove it of every list.
-- Each point names, in brackets, wrong stores that it rules out.
use Rattle.std.specs.Prelude.{ℕ, ◌≡◌, Bool, true, not, List, ◌++◌, T, eqb, length, drop}
use Rattle.page.specs.Frame.{payload_size}
use Rattle.store.specs.Mount.{removes}
use Rattle.store.specs.Write.{place_at}
use Rattle.store.specs.Read.{read_of, read_length}
use Rattle.store.specs.Reply.{Done}
use Rattle.guarantee.specs.Call.{Call, mount, write, read, cut_off, commit, wipe, gather, Event}
use Rattle.guarantee.specs.Machine.{Machine}

-- a read of a file's offset gives a payload
pub record ReadsBack (m : Machine) (file offset : ℕ) (payload : List ℕ) : Type 0 where
  pub done : (output : List ℕ) → length output ≡ payload_size → (read_of m.image m.store file offset output).reply ≡ Done
  -- it reports the payload's length [224 always]
  pub long : (output : List ℕ) → length output ≡ payload_size → read_length m.image m.store file offset output ≡ length payload
  -- and puts its bytes before the rest of the output [an output that is filled with spaces]
  pub bytes : (output : List ℕ) → length output ≡ payload_size
      → (read_of m.image m.store file offset output).lent ≡ payload ++ drop (length payload) output

-- a call that leaves what place x holds, done or cut: no write of it, no cut-off and no wipe that reaches it
abbrev pub spares : ℕ → Call → Bool
spares x (mount map letters scratch) = true
spares x (write file offset given) = not (eqb x (place_at file offset))
spares x (read file offset output) = true
spares x (cut_off file offset) = not (removes file offset x)
spares x (commit noise) = true
spares x (wipe noise file offset) = not (removes file offset x)
spares x (gather block) = true

abbrev pub Sparing : ℕ → Event → Type 0
Sparing x e = T (spares x e.call)
