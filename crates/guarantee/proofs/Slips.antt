-- Document 01, "Slips to shut out": that none of the four can happen, in any list of calls after a format, whatever is cut.
use Prim.Native.Nat.{ℕ, ◌<◌, ◌≤◌}
use mathlib.Core.Path.{◌≡◌, refl, sym, ap, subst, ◌∙◌}
use mathlib.Core.Logic.{◌⊎◌, inl, inr}
use mathlib.Core.Bool.{Bool, true, false, cond}
use mathlib.Core.List.{List}
use mathlib.Core.Option.{Option, none}
use lib.Dec.{T}
use lib.ListN.{length, get_or}
use borrow.Author.Tests.{eq-eqb, le-leb, lt-leb, lt-ltb}
use Rattle.base.specs.Each.{Each}
use Rattle.page.specs.Frame.{header_size, payload_size, page_size}
use Rattle.page.specs.Plan.{places}
use Rattle.page.specs.Key.{positions}
use Rattle.page.specs.Entry.{none as vacant, free_letter, deleted_letter}
use Rattle.store.specs.Record.{page_of}
use Rattle.store.specs.Outcome.{Outcome}
use Rattle.store.specs.Mount.{removes, mount_of}
use Rattle.store.specs.Write.{file_right, offset_right, place_at}
use Rattle.store.specs.Read.{read_of, read_length}
use Rattle.store.specs.Reply.{Done}
use Rattle.store.proofs.Verdicts.{verdict-done}
use Rattle.guarantee.specs.Call.{Given, write_given, mount, write, wipe, Event, lent_right}
use Rattle.guarantee.specs.Book.{Book, Holding, lowest_marked, book_spent, book_removed, entered}
use Rattle.guarantee.specs.Origin.{cipher}
use Rattle.guarantee.specs.Machine.{Machine, step}
use Rattle.guarantee.specs.Replies.{book_tests}
use Rattle.guarantee.specs.Statement.{MapHas, ReadGives}
use Rattle.guarantee.proofs.Givens.{given-steps}
use Rattle.guarantee.proofs.Histories.{History, while_on, next, at_end, at_call, Mounting, mounting_permitted, remounted, remounted_book}
use Rattle.guarantee.proofs.UsedKeys.{lowest_free_lem}
use Rattle.guarantee.proofs.InOrOut.{FilesAre, after_call, wipe_in_or_out}

-- ---- the key that a write takes
module _ (m : Machine) (h : History m) (on : T m.on) (file offset : ℕ) (given : Given) (taken : (write_given m.image m.store file offset given).reply ≡ Done) where
  abbrev pub key_taken : ℕ
  key_taken = lowest_marked m.book

  pub taken_free : (key_taken < positions) × (m.book.mark key_taken ≡ free_letter)
  taken_free =
      let r = (at_call m h (record { call = write file offset given; n = 0; k = 0 }) (while_on m on false, tt)).replied in
      let t = verdict-done (book_tests m.book m.store.map m.store.numbers m.image (write file offset given)) (sym r ∙ taken) in
      lowest_free_lem m.book t.1.1.1.1.0

  -- slip 1: no byte on the flash is under the key that a write takes; so no torn page's key is given out, nor any other that was used
  pub torn_key_not_free : (a : ℕ) → m.origin a ≡ cipher key_taken (m.book.bringer key_taken) → ⊥
  torn_key_not_free a = (at_end m h on).unspent a key_taken taken_free.0 taken_free.1

  -- the position of a page that a cut left torn is d, to the book and to the store: a write looks past it until a purge has brought it another key
  module _ (k : ℕ) (headed : header_size ≤ k) (unclosed : k < page_size) (ms : List Event) (mounts : Each Mounting ms) where
    abbrev torn_write : Event
    torn_write = record { call = write file offset given; n = 0; k = k }

    torn-mark : (step m torn_write).book.mark key_taken ≡ deleted_letter
    unfolding step entered book_spent
    torn-mark = rw (given-steps m.image m.store file offset given taken, lt-leb page_size k unclosed, le-leb header_size k headed, lt-ltb k page_size unclosed, eq-eqb key_taken key_taken refl)

    pub torn_key_deleted : T (after_call m h on 0 k ms mounts (write file offset given)).on → get_or (after_call m h on 0 k ms mounts (write file offset given)).store.letters key_taken 0 ≡ deleted_letter
    torn_key_deleted on' =
        (at_end _ (remounted (step m torn_write) (next m h torn_write (while_on m on false, tt)) ms mounts) on').lettered key_taken taken_free.0
        ∙ ap (λ (b : Book). b.mark key_taken) (remounted_book (step m torn_write) ms mounts)
        ∙ torn-mark

-- slip 2: whatever was cut, and wherever, a mount with right buffers is accepted: a whole copy of each key block is always there
pub copy_before_erase : (m : Machine) → History m → (map letters scratch : List ℕ) → T (lent_right (mount map letters scratch)) → (mount_of m.image map letters scratch).reply ≡ Done
copy_before_erase m h map letters scratch right =
    let e : Event = record { call = mount map letters scratch; n = 0; k = 0 } in
    (at_call m h e (mounting_permitted m e (tt, right))).replied

-- slip 3: after a wipe that was cut anywhere, and the mount, a read gives the payload as it was, also one that the wipe was to remove; or that one is gone
module _ (m : Machine) (h : History m) (on : T m.on) (n k : ℕ) (ms : List Event) (mounts : Each Mounting ms) (noise : List ℕ) (file offset : ℕ) where
  abbrev pub wiped : Machine
  wiped = after_call m h on n k ms mounts (wipe noise file offset)

  abbrev pub read_wiped : ℕ → ℕ → List ℕ → Outcome
  read_wiped f o output = read_of wiped.image wiped.store f o output

  abbrev pub length_wiped : ℕ → ℕ → List ℕ → ℕ
  length_wiped f o output = read_length wiped.image wiped.store f o output

  pub index_before_keys : T wiped.on → (f o : ℕ) (output : List ℕ) → T (file_right f) → T (offset_right f o) → length output ≡ payload_size
      → ReadGives (read_wiped f o output) (length_wiped f o output) output (m.book.content (place_at f o)) ⊎ (T (removes file offset (place_at f o)) × ReadGives (read_wiped f o output) (length_wiped f o output) output none)
  unfolding book_removed
  index_before_keys on' f o output fr or l = go (wipe_in_or_out m h on n k ms mounts noise file offset on')
    where
      gone : (t : Bool) → ReadGives (read_wiped f o output) (length_wiped f o output) output (cond t none (m.book.content (place_at f o)))
          → ReadGives (read_wiped f o output) (length_wiped f o output) output (m.book.content (place_at f o)) ⊎ (T t × ReadGives (read_wiped f o output) (length_wiped f o output) output none)
      gone true r = inr (tt, r)
      gone false r = inl r

      go : FilesAre wiped m.book.content ⊎ FilesAre wiped (book_removed file offset m.book).content
          → ReadGives (read_wiped f o output) (length_wiped f o output) output (m.book.content (place_at f o)) ⊎ (T (removes file offset (place_at f o)) × ReadGives (read_wiped f o output) (length_wiped f o output) output none)
      go (inl as-was) = inl (as-was.reads f o output fr or l)
      go (inr removed) = gone (removes file offset (place_at f o)) (removed.reads f o output fr or l)

-- slip 4: a place without payload in the book has no page in the map, whatever dead nodes of it are still on the flash
pub covered_dead_not_live : (m : Machine) → History m → T m.on → (x : ℕ) → x < places → m.book.content x ≡ none → page_of m.store.map x ≡ vacant
covered_dead_not_live m h on x below gone = (subst (λ (c : Option Holding). MapHas m.store.map x c) gone ((at_end m h on).mapped x below)).0
