-- What it means that the store forgets: after a wipe that succeeded no byte of a key of a payload that it removed is on the flash, and its image does not
-- depend on these keys. What was enciphered under them is noise from then on, wherever a copy of it may stand.
use Prim.Native.Nat.{ℕ, ◌<◌}
use native.Mathlib.Omega.{arith}
use mathlib.Core.Path.{◌≡◌, refl, ap, ◌∙◌}
use mathlib.Core.Logic.{◌⊎◌, inl, inr}
use mathlib.Core.Bool.{Bool, true, false, cond, ◌&&◌}
use mathlib.Core.List.{List}
use mathlib.Core.Option.{some}
use lib.Dec.{T, eqb, ltb}
use lib.ListN.{length, get_or}
use borrow.Author.Tests.{eq-eqb, ne_eqb}
use Rattle.base.proofs.Choice.{and_intro}
use Rattle.base.proofs.Searches.{any_intro}
use Rattle.page.specs.Plan.{places}
use Rattle.page.specs.Key.{positions}
use Rattle.page.specs.Entry.{deleted_letter}
use Rattle.store.specs.Reply.{Reply, Done, number_of}
use Rattle.store.specs.Outcome.{left}
use Rattle.store.specs.Mount.{removes}
use Rattle.store.specs.Wipe.{wipe_of}
use Rattle.std.specs.Prelude.{Err}
use Rattle.store.specs.declared.Error.TheVariants.{PowerCut}
use Rattle.guarantee.specs.Call.{commit, wipe, Event, replied}
use Rattle.guarantee.specs.Book.{Book, Holding, is_at_position, held_among, book_removed, wipe_commit_at, entered}
use Rattle.guarantee.specs.Origin.{Origin, key_byte}
use Rattle.guarantee.specs.Machine.{Machine, step, outcome_at, left_at}
use Rattle.guarantee.specs.Statement.{OfDeadKey}
use Rattle.guarantee.proofs.Histories.{History, while_on, next, at_end, at_call, standing}
use Rattle.guarantee.proofs.UsedKeys.{committed_renewed}

-- ---- a call that replied Done was not cut
finished : (t : Bool) (r : Reply) → cond t (Err PowerCut) r ≡ Done → (t ≡ false) × (r ≡ Done)
finished true r e = absurd (omega (arith, ap number_of e))
finished false r e = (refl, e)

module _ (m : Machine) (e : Event) (done : (left_at m e).reply ≡ Done) where
  pub finished_on : T (step m e).on
  unfolding step left
  finished_on = rw (finished (ltb e.n (length (outcome_at m e).steps)) (outcome_at m e).reply done).0 tt

  pub finished_book : (step m e).book ≡ entered m.calls e.call (replied Done) m.book
  unfolding step left
  finished_book = let f = finished (ltb e.n (length (outcome_at m e).steps)) (outcome_at m e).reply done in rw (f.0, f.1)

-- ---- wipe
-- an origin: a byte of the key of a payload that the file has at the offset or after it
pub record OfRemovedKey (m : Machine) (file offset : ℕ) (o : Origin) : Type 0 where
  pub place : ℕ
  pub inside : place < places
  pub removed : removes file offset place ≡ true
  pub holding : Holding
  pub held : m.book.content place ≡ some holding
  pub byte : ℕ
  pub origin : o ≡ key_byte holding.position (m.book.bringer holding.position) byte

module _ (m : Machine) (h : History m) (on : T m.on) (noise : List ℕ) (file offset n k : ℕ) where
  abbrev pub wiping : Event
  wiping = record { call = wipe noise file offset; n = n; k = k }

  module _ (done : (left_at m wiping).reply ≡ Done) where
    -- the position of a removed payload has a key of this wipe afterwards
    removed-mark : (o : Origin) (r : OfRemovedKey m file offset o) → (book_removed file offset m.book).mark r.holding.position ≡ deleted_letter
    unfolding book_removed held_among
    removed-mark o r =
        let p = r.holding.position in
        let here : is_at_position p (m.book.content r.place) ≡ true = rw r.held (eq-eqb p p refl) in
        rw (any_intro (λ x. removes file offset x && is_at_position p (m.book.content x)) places 0 r.place (omega arith) (omega (arith, r.inside)) (and_intro _ _ r.removed here))

    removed-renewed : (o : Origin) (r : OfRemovedKey m file offset o) → r.holding.position < positions → (step m wiping).book.bringer r.holding.position ≡ m.calls
    unfolding entered
    removed-renewed o r below =
        let p = r.holding.position in
        let d = removed-mark o r in
        ap (λ (b : Book). b.bringer p) (finished_book m wiping done)
        ∙ committed_renewed p m.calls wipe_commit_at below (book_removed file offset m.book) (λ u. omega arith)

    -- no byte of a key of a payload that it removed is on the flash
    pub wipe_forgets : (a : ℕ) → OfRemovedKey m file offset ((step m wiping).origin a) → ⊥
    wipe_forgets a r =
        let p = r.holding.position in
        let s = (at_end (step m wiping) (next m h wiping (while_on m on false, tt)) (finished_on m wiping done)).slotted a p (m.book.bringer p) r.byte r.origin in
        omega (arith, s.1, removed-renewed _ r s.0, (standing m h).settled.sound.begun p)

    -- with any other bytes in their place it leaves the same image, the same record and the same reply
    pub wipe_independent : (img : List ℕ) → length img ≡ length m.image → ((a : ℕ) → (get_or img a 0 ≡ get_or m.image a 0) ⊎ OfRemovedKey m file offset (m.origin a))
        → left n k (wipe_of img m.store noise file offset) img ≡ left_at m wiping
    wipe_independent img long same =
        (at_call m h wiping (while_on m on false, tt)).purged tt done img (record { as_long = long; elsewhere = λ a. go a (same a) })
      where
        dead : (o : Origin) (r : OfRemovedKey m file offset o) → r.holding.position < positions → OfDeadKey (step m wiping).book o
        dead o r below =
            let p = r.holding.position in
            let other : eqb (m.book.bringer p) ((step m wiping).book.bringer p) ≡ false = ne_eqb (m.book.bringer p) ((step m wiping).book.bringer p) (λ z. omega (arith, removed-renewed o r below, (standing m h).settled.sound.begun p)) in
            rw (r.origin, other) tt

        go : (a : ℕ) → (get_or img a 0 ≡ get_or m.image a 0) ⊎ OfRemovedKey m file offset (m.origin a) → (get_or img a 0 ≡ get_or m.image a 0) ⊎ OfDeadKey (step m wiping).book (m.origin a)
        go a (inl q) = inl q
        go a (inr r) = inr (dead (m.origin a) r ((at_end m h on).slotted a r.holding.position (m.book.bringer r.holding.position) r.byte r.origin).0)

-- ---- commit: the same of a key that a write replaced, a cut-off removed or a cut write spoilt
module _ (m : Machine) (h : History m) (on : T m.on) (noise : List ℕ) (n k : ℕ) where
  abbrev pub committing : Event
  committing = record { call = commit noise; n = n; k = k }

  pub commit_forgets : (left_at m committing).reply ≡ Done → (a p i : ℕ) → m.book.mark p ≡ deleted_letter → (step m committing).origin a ≡ key_byte p (m.book.bringer p) i → ⊥
  unfolding entered
  commit_forgets done a p i d q =
      let s = (at_end (step m committing) (next m h committing (while_on m on false, tt)) (finished_on m committing done)).slotted a p (m.book.bringer p) i q in
      let renewed = ap (λ (b : Book). b.bringer p) (finished_book m committing done) ∙ committed_renewed p m.calls 0 s.0 m.book (λ u. omega arith) in
      omega (arith, s.1, renewed, (standing m h).settled.sound.begun p)
