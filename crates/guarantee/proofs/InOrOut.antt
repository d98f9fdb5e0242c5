-- An interrupted call is wholly in or wholly out: after it, and after mounts of which the last finished, the files are those from before it, or those
-- that it would have left had it come to its end. Nothing between.
use Prim.Native.Nat.{ℕ, ◌<◌}
use mathlib.Core.Path.{◌≡◌, refl, sym, ap, subst, ◌∙◌}
use mathlib.Core.Logic.{◌⊎◌, inl, inr}
use mathlib.Core.Bool.{Bool, true, false, cond}
use mathlib.Core.List.{List}
use mathlib.Core.Option.{Option}
use lib.Dec.{T}
use lib.ListN.{length, get_or}
use Rattle.base.specs.Each.{Each}
use Rattle.page.specs.Frame.{header_size, payload_size}
use Rattle.page.specs.Plan.{places}
use Rattle.page.specs.Key.{positions}
use Rattle.store.specs.Write.{file_right, offset_right, place_at}
use Rattle.store.specs.Read.{read_of, read_length}
use Rattle.store.specs.Reply.{Done}
use Rattle.guarantee.specs.Call.{Given, payload_given, Call, mount, write, read, cut_off, commit, wipe, gather, Event, Fate, replied, made_whole, torn}
use Rattle.guarantee.specs.Book.{Book, Holding, book_written, book_spent, book_removed, book_renewed, book_freed, only_if, keys_done, commit_done, removal_done, wipe_commit_at, book_committed, entered}
use Rattle.guarantee.specs.Machine.{Machine, step, fate_of, outcome_at, left_at}
use Rattle.guarantee.specs.Statement.{MapHas, ReadGives, AtRest}
use Rattle.guarantee.proofs.Histories.{end_of, Permitted, History, while_on, next, at_end, Mounting, remounted, remounted_book}

-- ---- the files
-- what stands at each place: nothing, or a payload and where its key is
abbrev pub Files : Type 0
Files = ℕ → Option Holding

-- the store holds these files: the map has a page and the position exactly where there is a payload, and a read gives the payload and its length
pub record FilesAre (m : Machine) (files : Files) : Type 0 where
  pub mapped : (x : ℕ) → x < places → MapHas m.store.map x (files x)
  pub reads : (file offset : ℕ) (output : List ℕ) → T (file_right file) → T (offset_right file offset) → length output ≡ payload_size
      → ReadGives (read_of m.image m.store file offset output) (read_length m.image m.store file offset output) output (files (place_at file offset))

-- at rest they are the book's
files_are : (m : Machine) → AtRest m → FilesAre m m.book.content
files_are m r = record { mapped = r.mapped; reads = r.reads }

-- ---- what a call, whatever its fate, makes of the book's files
pub only_files : (t : Bool) (f : Book → Book) → ((b : Book) → (f b).content ≡ b.content) → (b : Book) → (only_if t f b).content ≡ b.content
only_files true f h b = h b
only_files false f h b = refl

pub spent_files : (b : Book) → (book_spent b).content ≡ b.content
unfolding book_spent
spent_files b = refl

renewed_files : (c q : ℕ) (b : Book) → (book_renewed c q b).content ≡ b.content
unfolding book_renewed
renewed_files c q b = refl

freed_files : (b : Book) → (book_freed b).content ≡ b.content
unfolding book_freed
freed_files b = refl

pub committed_files : (c i : ℕ) (fate : Fate) (b : Book) → (book_committed c i fate b).content ≡ b.content
unfolding book_committed
committed_files c i fate b =
    only_files (made_whole fate (commit_done i)) book_freed freed_files _
    ∙ only_files (made_whole fate (keys_done i 1)) (book_renewed c 1) (renewed_files c 1) _
    ∙ only_files (made_whole fate (keys_done i 0)) (book_renewed c 0) (renewed_files c 0) b

-- as they were, or as the call leaves them at its end
either : (t : Bool) (b done kept : Book) → kept.content ≡ b.content → ((cond t done kept).content ≡ b.content) ⊎ ((cond t done kept).content ≡ done.content)
either true b done kept h = inr refl
either false b done kept h = inl h

entered_files : (c : ℕ) (call : Call) (fate : Fate) (b : Book)
    → ((entered c call fate b).content ≡ b.content) ⊎ ((entered c call fate b).content ≡ (entered c call (replied Done) b).content)
unfolding entered
entered_files c (mount map letters scratch) fate b = inl refl
entered_files c (write file offset given) fate b =
    either (made_whole fate 0) b (book_written (place_at file offset) (payload_given given) b) (only_if (torn header_size fate) book_spent b) (only_files (torn header_size fate) book_spent spent_files b)
entered_files c (read file offset output) fate b = inl refl
entered_files c (cut_off file offset) fate b = either (made_whole fate 0) b (book_removed file offset b) b refl
entered_files c (commit noise) fate b = inl (committed_files c 0 fate b)
entered_files c (wipe noise file offset) fate b =
    rw (committed_files c wipe_commit_at fate (only_if (made_whole fate removal_done) (book_removed file offset) b), committed_files c wipe_commit_at (replied Done) (book_removed file offset b))
    (either (made_whole fate removal_done) b (book_removed file offset b) b refl)
entered_files c (gather block) fate b = inl refl

-- ---- any call, cut anywhere or not, then mounts, however often cut, until one finishes (none need follow a call that was not cut)
module _ (m : Machine) (h : History m) (e : Event) (may : Permitted m e) (ms : List Event) (mounts : Each Mounting ms) (on : T (end_of (step m e) ms).on) where
  abbrev after : Machine
  after = end_of (step m e) ms

  pub after_files : FilesAre after (step m e).book.content
  after_files = subst (FilesAre after) (ap (λ (b : Book). b.content) (remounted_book (step m e) ms mounts)) (files_are after (at_end after (remounted (step m e) (next m h e may) ms mounts) on))

  -- the files are those of the book before the call, or of the book after it as if it had been done
  pub in_or_out : FilesAre (end_of (step m e) ms) m.book.content ⊎ FilesAre (end_of (step m e) ms) (entered m.calls e.call (replied Done) m.book).content
  unfolding step
  in_or_out = go (entered_files m.calls e.call (fate_of e (outcome_at m e) (left_at m e)) m.book)
    where
      go : ((step m e).book.content ≡ m.book.content) ⊎ ((step m e).book.content ≡ (entered m.calls e.call (replied Done) m.book).content)
          → FilesAre after m.book.content ⊎ FilesAre after (entered m.calls e.call (replied Done) m.book).content
      go (inl q) = inl (subst (FilesAre after) q after_files)
      go (inr q) = inr (subst (FilesAre after) q after_files)

-- ---- call by call
module _ (m : Machine) (h : History m) (on : T m.on) (n k : ℕ) (ms : List Event) (mounts : Each Mounting ms) where
  -- the machine after call, power for n steps and k bytes, and the mounts
  abbrev pub after_call : Call → Machine
  after_call call = end_of (step m (record { call = call; n = n; k = k })) ms

  -- a write: its payload stands at its place under the key taken, or all files are as they were
  pub write_in_or_out : (file offset : ℕ) (given : Given) → T (after_call (write file offset given)).on
      → FilesAre (after_call (write file offset given)) m.book.content
      ⊎ FilesAre (after_call (write file offset given)) (book_written (place_at file offset) (payload_given given) m.book).content
  unfolding entered
  write_in_or_out file offset given = in_or_out m h (record { call = write file offset given; n = n; k = k }) (while_on m on false, tt) ms mounts

  -- a cut-off: the file has nothing from the offset on, or all files are as they were
  pub cut_off_in_or_out : (file offset : ℕ) → T (after_call (cut_off file offset)).on
      → FilesAre (after_call (cut_off file offset)) m.book.content ⊎ FilesAre (after_call (cut_off file offset)) (book_removed file offset m.book).content
  unfolding entered
  cut_off_in_or_out file offset = in_or_out m h (record { call = cut_off file offset; n = n; k = k }) (while_on m on false, tt) ms mounts

  -- a wipe: the same
  pub wipe_in_or_out : (noise : List ℕ) (file offset : ℕ) → T (after_call (wipe noise file offset)).on
      → FilesAre (after_call (wipe noise file offset)) m.book.content ⊎ FilesAre (after_call (wipe noise file offset)) (book_removed file offset m.book).content
  unfolding entered
  wipe_in_or_out noise file offset on' =
      rw (← committed_files m.calls wipe_commit_at (replied Done) (book_removed file offset m.book))
      (in_or_out m h (record { call = wipe noise file offset; n = n; k = k }) (while_on m on false, tt) ms mounts on')

  -- a commit touches no file
  pub commit_keeps_files : (noise : List ℕ) → T (after_call (commit noise)).on → FilesAre (after_call (commit noise)) m.book.content
  unfolding step entered
  commit_keeps_files noise on' =
      subst (FilesAre (after_call (commit noise))) (committed_files m.calls 0 _ m.book)
      (after_files m h (record { call = commit noise; n = n; k = k }) (while_on m on false, tt) ms mounts on')

  -- nor does a gather
  pub gather_keeps_files : (block : ℕ) → T (after_call (gather block)).on → FilesAre (after_call (gather block)) m.book.content
  unfolding step entered
  gather_keeps_files block on' = after_files m h (record { call = gather block; n = n; k = k }) (while_on m on false, tt) ms mounts on'

  -- nor a letter
  pub gather_keeps_letters : (block : ℕ) → T (after_call (gather block)).on → (p : ℕ) → p < positions
      → get_or (after_call (gather block)).store.letters p 0 ≡ get_or m.store.letters p 0
  unfolding step entered
  gather_keeps_letters block on' p l =
      let e : Event = record { call = gather block; n = n; k = k } in
      (at_end (end_of (step m e) ms) (remounted (step m e) (next m h e (while_on m on false, tt)) ms mounts) on').lettered p l
      ∙ ap (λ (b : Book). b.mark p) (remounted_book (step m e) ms mounts)
      ∙ sym ((at_end m h on).lettered p l)
