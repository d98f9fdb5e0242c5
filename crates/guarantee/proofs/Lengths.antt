-- Records shorter than a page: what was written reads back with its own length, whatever is called and cut afterwards, until a call reaches its place; a
-- write that was cut leaves the former record with its length; a node of an older recorder reads as 224 bytes.
use Prim.Native.Nat.{ℕ, zero, suc, ◌<◌, ◌≤◌}
use native.Mathlib.Omega.{arith}
use mathlib.Core.Path.{◌≡◌, refl, ap, subst, ◌∙◌}
use mathlib.Core.Logic.{◌⊎◌, inl, inr}
use mathlib.Core.Bool.{Bool, true, false, cond, not}
use mathlib.Core.List.{List, [], ◌∷◌, ◌++◌}
use mathlib.Core.Option.{Option, some}
use lib.Dec.{T, eqb}
use lib.ListN.{length, drop}
use lib.Seq.{take_all}
use borrow.Author.Tests.{eq-eqb, le-leb, lt-leb, le-ltb}
use Rattle.base.specs.Each.{Each}
use Rattle.page.specs.Frame.{header_size, payload_size, page_size}
use Rattle.store.specs.Reply.{Done, is_done}
use Rattle.store.specs.Outcome.{left}
use Rattle.store.specs.Mount.{removes}
use Rattle.store.specs.Write.{file_right, offset_right, place_at}
use Rattle.store.specs.Read.{read_of, read_length}
use Rattle.store.proofs.Verdicts.{done-true}
use Rattle.guarantee.specs.Call.{Given, theirs, payload_given, write_given, Call, mount, write, read, cut_off, commit, wipe, gather, Event, Fate, made_whole, torn}
use Rattle.guarantee.specs.Book.{Book, Holding, lowest_marked, book_written, book_spent, book_removed, only_if, removal_done, wipe_commit_at, entered}
use Rattle.guarantee.specs.Machine.{Machine, step, Allowed, fate_of, outcome_at, left_at}
use Rattle.guarantee.specs.Statement.{ReadGives}
use Rattle.guarantee.specs.Length.{ReadsBack, spares, Sparing}
use Rattle.guarantee.proofs.Givens.{given-refused, given-steps}
use Rattle.guarantee.proofs.Histories.{end_of, History, while_on, next, along, at_end}
use Rattle.guarantee.proofs.InOrOut.{only_files, spent_files, committed_files}

-- ---- what a read tells
-- at rest every payload of the book reads back so
module _ (m : Machine) (h : History m) (on : T m.on) (file offset : ℕ) (f : T (file_right file)) (o : T (offset_right file offset)) where
  pub reads_back : (held : Holding) → m.book.content (place_at file offset) ≡ some held → ReadsBack m file offset held.payload
  reads_back held e =
      record {
        done = λ output l. (gives output l).0;
        long = λ output l. (gives output l).1;
        bytes = λ output l. (gives output l).2 ∙ ap (λ (i : ℕ). held.payload ++ drop i output) (gives output l).1;
      }
    where
      gives : (output : List ℕ) → length output ≡ payload_size
          → ReadGives (read_of m.image m.store file offset output) (read_length m.image m.store file offset output) output (some held)
      gives output l =
          subst (ReadGives (read_of m.image m.store file offset output) (read_length m.image m.store file offset output) output) e
          ((at_end m h on).reads file offset output f o l)

-- ---- calls that leave what a place holds
not_chosen : {A : Type 0} (t : Bool) (a b : A) → T (not t) → cond t a b ≡ b
not_chosen true a b n = absurd n
not_chosen false a b n = refl

only_at : (t : Bool) (f : Book → Book) (b : Book) (x : ℕ) → (f b).content x ≡ b.content x → (only_if t f b).content x ≡ b.content x
only_at true f b x e = e
only_at false f b x e = refl

removed_at : (file offset x : ℕ) (b : Book) → T (not (removes file offset x)) → (book_removed file offset b).content x ≡ b.content x
unfolding book_removed
removed_at file offset x b n = not_chosen (removes file offset x) _ _ n

written_at : (x y : ℕ) (payload : List ℕ) (b : Book) → T (not (eqb x y)) → (book_written y payload b).content x ≡ b.content x
unfolding book_written
written_at x y payload b n = not_chosen (eqb x y) _ _ n

unwritten_at : (fate : Fate) (b : Book) (x : ℕ) → (only_if (torn header_size fate) book_spent b).content x ≡ b.content x
unwritten_at fate b x = ap (λ (f : ℕ → Option Holding). f x) (only_files (torn header_size fate) book_spent spent_files b)

spared : (x c : ℕ) (call : Call) (fate : Fate) (b : Book) → T (spares x call) → (entered c call fate b).content x ≡ b.content x
unfolding entered
spared x c (mount map letters scratch) fate b t = refl
spared x c (write file offset given) fate b t = go (made_whole fate 0)
  where
    go : (whole : Bool)
        → (cond whole (book_written (place_at file offset) (payload_given given) b) (only_if (torn header_size fate) book_spent b)).content x ≡ b.content x
    go true = written_at x (place_at file offset) (payload_given given) b t
    go false = unwritten_at fate b x
spared x c (read file offset output) fate b t = refl
spared x c (cut_off file offset) fate b t = only_at (made_whole fate 0) (book_removed file offset) b x (removed_at file offset x b t)
spared x c (commit noise) fate b t = ap (λ (f : ℕ → Option Holding). f x) (committed_files c 0 fate b)
spared x c (wipe noise file offset) fate b t =
    ap (λ (f : ℕ → Option Holding). f x) (committed_files c wipe_commit_at fate (only_if (made_whole fate removal_done) (book_removed file offset) b))
    ∙ only_at (made_whole fate removal_done) (book_removed file offset) b x (removed_at file offset x b t)
spared x c (gather block) fate b t = refl

-- over a list of such calls, however often cut
kept-content : (x : ℕ) (m : Machine) (es : List Event) → Each (Sparing x) es → (end_of m es).book.content x ≡ m.book.content x
unfolding step
kept-content x m [] p = refl
kept-content x m (e ∷ es) p =
    kept-content x (step m e) es p.1 ∙ spared x m.calls e.call (fate_of e (outcome_at m e) (left_at m e)) m.book p.0

-- ---- a write, with power for n steps and k bytes, and after it any calls that spare its place, cut anywhere, of which the last has finished
module _ (m : Machine) (h : History m) (on : T m.on) (file offset : ℕ) (given : Given) (n k : ℕ) where
  abbrev writing : Event
  writing = record { call = write file offset given; n = n; k = k }

  module _ (es : List Event) (may : Allowed (step m writing) es) (sparing : Each (Sparing (place_at file offset)) es) where
    abbrev after : Machine
    after = end_of (step m writing) es

    came : History after
    came = along (step m writing) (next m h writing (while_on m on false, tt)) es may

    module _ (on' : T (end_of (step m writing) es).on) (f : T (file_right file)) (o : T (offset_right file offset)) where
      -- its page was made whole: it reads back with its own length
      module _ (taken : (write_given m.image m.store file offset given).reply ≡ Done) (whole : (0 < n) ⊎ (page_size ≤ k)) where
        count : length (write_given m.image m.store file offset given).steps ≡ 1
        count = given-steps m.image m.store file offset given taken

        written : (step m writing).book ≡ book_written (place_at file offset) (payload_given given) m.book
        unfolding step left entered
        written = go n whole
          where
            go : (i : ℕ) → (0 < i) ⊎ (page_size ≤ k)
                → (step m (record { call = write file offset given; n = i; k = k })).book ≡ book_written (place_at file offset) (payload_given given) m.book
            go (suc i) w = rw (count, taken, le-ltb (suc i) 1 (omega arith))
            go zero (inl l) = absurd (omega arith)
            go zero (inr l) = rw (count, le-leb page_size k l)

        placed : (step m writing).book.content (place_at file offset) ≡ some (record { payload = payload_given given; position = lowest_marked m.book })
        unfolding book_written
        placed = ap (λ (b : Book). b.content (place_at file offset)) written ∙ rw (eq-eqb (place_at file offset) (place_at file offset) refl)

        pub own_length : ReadsBack (end_of (step m writing) es) file offset (payload_given given)
        own_length = reads_back after came on' file offset f o _ (kept-content (place_at file offset) (step m writing) es sparing ∙ placed)

      -- its page was not made whole, or it was refused: the record that was there reads back, with its own length
      module _ (held : Holding) (there : m.book.content (place_at file offset) ≡ some held) (none-whole : n ≡ 0) (short : k < page_size) where
        not-whole : (d : Bool) → is_done (write_given m.image m.store file offset given).reply ≡ d
            → made_whole (fate_of writing (outcome_at m writing) (left_at m writing)) 0 ≡ false
        unfolding left
        not-whole true e =
            let count = given-steps m.image m.store file offset given (done-true _ e) in
            rw (none-whole, count, lt-leb page_size k short)
        not-whole false e =
            rw (none-whole, given-refused m.image m.store file offset given e) e

        unwritten : (step m writing).book.content (place_at file offset) ≡ m.book.content (place_at file offset)
        unfolding step entered
        unwritten =
            rw (not-whole (is_done (write_given m.image m.store file offset given).reply) refl)
            (unwritten_at (fate_of writing (outcome_at m writing) (left_at m writing)) m.book (place_at file offset))

        pub former_length : ReadsBack (end_of (step m writing) es) file offset held.payload
        former_length = reads_back after came on' file offset f o held (kept-content (place_at file offset) (step m writing) es sparing ∙ unwritten ∙ there)

-- an older recorder's node, whose second number is 0, reads as all its 224 bytes
pub older_node : (m : Machine) (h : History m) (on : T m.on) (file offset : ℕ) (bytes : List ℕ) (n k : ℕ) (es : List Event)
    → Allowed (step m (writing m h on file offset (theirs 0 bytes) n k)) es → Each (Sparing (place_at file offset)) es
    → T (end_of (step m (writing m h on file offset (theirs 0 bytes) n k)) es).on → T (file_right file) → T (offset_right file offset)
    → (write_given m.image m.store file offset (theirs 0 bytes)).reply ≡ Done → (0 < n) ⊎ (page_size ≤ k) → length bytes ≡ payload_size
    → ReadsBack (end_of (step m (writing m h on file offset (theirs 0 bytes) n k)) es) file offset bytes
older_node m h on file offset bytes n k es may sparing on' f o taken whole l =
    subst (ReadsBack (end_of (step m (writing m h on file offset (theirs 0 bytes) n k)) es) file offset) (take_all payload_size bytes (omega arith))
    (own_length m h on file offset (theirs 0 bytes) n k es may sparing on' f o taken whole)
