-- The payload of a place is the node of its key: what a gather copies under a key is the node that the key has, on however many pages it stands.
use Prim.Native.Nat.{ℕ, ◌<◌}
use native.Mathlib.Omega.{arith}
use native.Mathlib.Decide.{ℕ_discrete}
use mathlib.Core.Path.{◌≡◌, refl, sym, ap, subst, ◌∙◌}
use mathlib.Core.Bool.{Bool, true, false, cond, not, ◌&&◌}
use mathlib.Core.List.{List, [], ◌∷◌}
use mathlib.Core.Option.{Option, none, some}
use lib.Dec.{T, eqb}
use lib.ListN.{take}
use borrow.Author.Tests.{eq-eqb, ne_eqb}
use Rattle.base.specs.Search.{any_from}
use Rattle.base.proofs.Choice.{and-true, true-false}
use Rattle.base.proofs.Searches.{any_intro, any_all_fail}
use Rattle.page.specs.Frame.{header_size}
use Rattle.page.specs.Plan.{places}
use Rattle.page.specs.Header.{length_of}
use Rattle.page.specs.Key.{positions, key_block}
use Rattle.page.specs.Entry.{used_letter}
use Rattle.store.specs.Mount.{removes, mounted}
use Rattle.store.specs.Write.{place_at}
use Rattle.store.proofs.Verdicts.{write-right}
use Rattle.store.proofs.Fits.{fits_is, live-key, live_used}
use Rattle.guarantee.specs.Call.{Given, second_given, bytes_given, payload_given, given_right, Call, mount, write, read, cut_off, commit, wipe, gather, Event, Fate, made_whole, torn}
use Rattle.guarantee.specs.Book.{Book, Holding, is_at_position, held_among, lowest_marked, book_written, book_spent, book_removed, book_renewed, book_freed, book_committed, only_if, keys_done, commit_done, removal_done, wipe_commit_at, entered}
use Rattle.guarantee.specs.Machine.{Machine, Node, nodes_after, start, outcome_at, left_at, fate_of, step, Allowed}
use Rattle.guarantee.specs.Statement.{HeldWell}
use Rattle.guarantee.proofs.Sounds.{Holds}
use Rattle.guarantee.proofs.Events.{or-on}
use Rattle.guarantee.proofs.Histories.{History, Permitted, end_of, history, next, at_end, standing}
use Rattle.guarantee.proofs.KeysOnce.{began_taken, one_node_per_key}
use Rattle.guarantee.proofs.Givens.{given_back}

-- ---- what is noted under the key of a place's payload
abbrev pub NodeOf : (ℕ → ℕ → Option Node) → (ℕ → ℕ) → ℕ → Option Holding → Type 0
NodeOf nodes bringer x none = Unit {0}
NodeOf nodes bringer x (some h) = (v : Node) × (nodes h.position (bringer h.position) ≡ some v) × (place_at v.file v.offset ≡ x)
    × (take (length_of v.second) v.bytes ≡ h.payload)

abbrev Noted : Machine → Type 0
Noted m = (x : ℕ) → x < places → NodeOf m.nodes m.book.bringer x (m.book.content x)

-- ---- books: keys of used positions stay
renewed-same : (now q p : ℕ) (b : Book) → b.mark p ≡ used_letter → ((book_renewed now q b).bringer p ≡ b.bringer p)
    × ((book_renewed now q b).mark p ≡ used_letter)
unfolding book_renewed
renewed-same now q p b u = (rw u (go (eqb (key_block p) q)), u)
  where
    go : (t : Bool) → cond (t && false) now (b.bringer p) ≡ b.bringer p
    go true = refl
    go false = refl

only_same : (t : Bool) (now q p : ℕ) (b : Book) → b.mark p ≡ used_letter → ((only_if t (book_renewed now q) b).bringer p ≡ b.bringer p)
    × ((only_if t (book_renewed now q) b).mark p ≡ used_letter)
only_same true now q p b u = renewed-same now q p b u
only_same false now q p b u = (refl, u)

freed_same : (t : Bool) (p : ℕ) (b : Book) → (only_if t book_freed b).bringer p ≡ b.bringer p
unfolding book_freed
freed_same true p b = refl
freed_same false p b = refl

committed_same : (now i p : ℕ) (fate : Fate) (b : Book) → b.mark p ≡ used_letter → (book_committed now i fate b).bringer p ≡ b.bringer p
unfolding book_committed
committed_same now i p fate b u =
    let one = only_same (made_whole fate (keys_done i 0)) now 0 p b u in
    let two = only_same (made_whole fate (keys_done i 1)) now 1 p (only_if (made_whole fate (keys_done i 0)) (book_renewed now 0) b) one.1 in
    freed_same (made_whole fate (commit_done i)) p _ ∙ two.0 ∙ one.0

committed_content : (now i : ℕ) (fate : Fate) (b : Book) (x : ℕ) → (book_committed now i fate b).content x ≡ b.content x
unfolding book_committed book_freed book_renewed
committed_content now i fate b x = go (made_whole fate (commit_done i)) (made_whole fate (keys_done i 1)) (made_whole fate (keys_done i 0))
  where
    go : (u v w : Bool) → (only_if u book_freed (only_if v (book_renewed now 1) (only_if w (book_renewed now 0) b))).content x ≡ b.content x
    go true true true = refl
    go true true false = refl
    go true false true = refl
    go true false false = refl
    go false true true = refl
    go false true false = refl
    go false false true = refl
    go false false false = refl

module _ (m : Machine) (h : History m) where
  -- a payload's position is one, and used
  held : (x : ℕ) → x < places → (c : Option Holding) → Holds m.image m.noise m.book.bringer x c → (v : Holding) → c ≡ some v
      → (v.position < positions) × (m.book.mark v.position ≡ used_letter)
  held x l none e v q = absurd (let z : ◌≡◌ {A = ℕ} 0 1 = cc in omega arith)
  held x l (some w) e v q =
      let s = (standing m h).settled.sound in
      let fit = fits_is m.image (mounted m.image) s.mountable.fit in
      let same : w ≡ v = cc in
      let k = live-key m.image (mounted m.image) fit x l e.0 in
      let p : w.position < positions = rw e.1 at k in
      let u = live_used m.image (mounted m.image) fit x l e.0 in
      let o : m.book.mark w.position ≡ used_letter = sym (s.marks w.position p) ∙ (rw e.1 at u) in
      subst (λ (v : Holding). (v.position < positions) × (m.book.mark v.position ≡ used_letter)) same (p, o)

  module _ (e : Event) (may : Permitted m e) (noted : Noted m) where
    -- where a payload stays, and its position keeps its key, its node is noted still
    kept : (x : ℕ) → x < places → (bringer' : ℕ → ℕ) → ((v : Holding) → m.book.content x ≡ some v → bringer' v.position ≡ m.book.bringer v.position)
        → NodeOf (step m e).nodes bringer' x (m.book.content x)
    kept x l bringer' same = go (m.book.content x) refl (noted x l)
      where
        go : (c : Option Holding) → m.book.content x ≡ c → NodeOf m.nodes m.book.bringer x c → NodeOf (step m e).nodes bringer' x c
        go none q n = tt
        go (some v) q n =
            let f = held x l (m.book.content x) ((standing m h).settled.sound.content x l) v q in (
              n.0,
              ap ((step m e).nodes v.position) (same v q) ∙ one_node_per_key m h e may v.position (m.book.bringer v.position) f.0 n.0
                  n.1,
              n.2,
              n.3,
            )

    -- or it is gone
    removed : (x : ℕ) → x < places → (t : Bool) (bringer' : ℕ → ℕ) → (t ≡ false → (v : Holding) → m.book.content x ≡ some v
        → bringer' v.position ≡ m.book.bringer v.position)
        → NodeOf (step m e).nodes bringer' x (cond t none (m.book.content x))
    removed x l true bringer' same = tt
    removed x l false bringer' same = kept x l bringer' (same refl)

  -- ---- call by call
  abbrev After : Call → ℕ → ℕ → ℕ → Type 0
  After call n k x = let e : Event = record { call = call; n = n; k = k } in NodeOf (step m e).nodes (step m e).book.bringer x ((step m e).book.content x)

  -- no removed place has a position that another place holds
  other_held : (file offset x : ℕ) (v : Holding) → T m.on → x < places → removes file offset x ≡ false → m.book.content x ≡ some v
      → held_among (removes file offset) m.book v.position ≡ false
  unfolding held_among
  other_held file offset x v on l stays q =
      any_all_fail (λ y. removes file offset y && is_at_position v.position (m.book.content y)) places 0
      (λ y a b. go y (omega arith) (removes file offset y && is_at_position v.position (m.book.content y)) refl)
    where
      alone : T (not (held_among (λ y. not (eqb y x)) m.book v.position))
      alone = (subst (λ (c : Option Holding). HeldWell m.book x c) q ((at_end m h on).apart x l)).1

      go : (y : ℕ) → y < places → (t : Bool) → removes file offset y && is_at_position v.position (m.book.content y) ≡ t → t ≡ false
      go y i true z =
          let d = and-true (removes file offset y) (is_at_position v.position (m.book.content y)) z in
          let n : y ≡ x → ⊥ = λ w. true-false d.0 (rw w stays) in
          let other : any_from (λ y. not (eqb y x) && is_at_position v.position (m.book.content y)) places 0 ≡ true = any_intro
          (λ y. not (eqb y x) && is_at_position v.position (m.book.content y)) places 0 y (omega arith) (omega arith) (rw (ne_eqb y x n) d.1) in
          absurd (rw other at alone)
      go y i false z = refl

  module _ (noted : Noted m) (n k x : ℕ) (l : x < places) where
    noted-same : (call : Call) → Permitted m (record { call = call; n = n; k = k }) → ((fate : Fate) → entered m.calls call fate m.book ≡ m.book)
        → After call n k x
    unfolding step
    noted-same call may same =
        let e : Event = record { call = call; n = n; k = k } in
        rw (same (fate_of e (outcome_at m e) (left_at m e))) (kept e may noted x l m.book.bringer (λ v q. refl))

    noted-cut_off : (file offset : ℕ) → Permitted m (record { call = cut_off file offset; n = n; k = k }) → After (cut_off file offset) n k x
    unfolding step entered book_removed
    noted-cut_off file offset may =
        let e : Event = record { call = cut_off file offset; n = n; k = k } in
        go (made_whole (fate_of e (outcome_at m e) (left_at m e)) 0)
      where
        go : (t : Bool)
            → NodeOf (step m (record { call = cut_off file offset; n = n; k = k })).nodes (only_if t (book_removed file offset) m.book).bringer x ((only_if t (book_removed file offset) m.book).content x)
        go true = removed (record { call = cut_off file offset; n = n; k = k }) may noted x l (removes file offset x) m.book.bringer (λ z v q. refl)
        go false = kept (record { call = cut_off file offset; n = n; k = k }) may noted x l m.book.bringer (λ v q. refl)

    noted-commit : (noise : List ℕ) → Permitted m (record { call = commit noise; n = n; k = k }) → After (commit noise) n k x
    unfolding step entered
    noted-commit noise may =
        let e : Event = record { call = commit noise; n = n; k = k } in
        let fate = fate_of e (outcome_at m e) (left_at m e) in
        rw (committed_content m.calls 0 fate m.book x)
        (kept e may noted x l (book_committed m.calls 0 fate m.book).bringer
        (λ v q. committed_same m.calls 0 v.position fate m.book
        (held x l (m.book.content x) ((standing m h).settled.sound.content x l) v q).1))

    module _ (noise : List ℕ) (file offset : ℕ) (may : Permitted m (record { call = wipe noise file offset; n = n; k = k })) where
      abbrev wiping : Event
      wiping = record { call = wipe noise file offset; n = n; k = k }

      wiped : (fate : Fate) (t : Bool)
          → NodeOf (step m wiping).nodes (book_committed m.calls wipe_commit_at fate (only_if t (book_removed file offset) m.book)).bringer x ((only_if t (book_removed file offset) m.book).content x)
      unfolding book_removed
      wiped fate true =
          removed wiping may noted x l (removes file offset x) (book_committed m.calls wipe_commit_at fate (book_removed file offset m.book)).bringer
          (λ z v q.
          let u = (held x l (m.book.content x) ((standing m h).settled.sound.content x l) v q).1 in
          let none_else = other_held file offset x v (or-on m.on may.0) l z q in
          committed_same m.calls wipe_commit_at v.position fate (book_removed file offset m.book) (rw none_else u))
      wiped fate false =
          kept wiping may noted x l (book_committed m.calls wipe_commit_at fate m.book).bringer
          (λ v q. committed_same m.calls wipe_commit_at v.position fate m.book
          (held x l (m.book.content x) ((standing m h).settled.sound.content x l) v q).1)

      noted-wipe : After (wipe noise file offset) n k x
      unfolding step entered
      noted-wipe =
          let fate = fate_of wiping (outcome_at m wiping) (left_at m wiping) in
          rw (committed_content m.calls wipe_commit_at fate (only_if (made_whole fate removal_done) (book_removed file offset) m.book) x)
          (wiped fate (made_whole fate removal_done))

    module _ (file offset : ℕ) (given : Given) (may : Permitted m (record { call = write file offset given; n = n; k = k })) where
      abbrev writing : Event
      writing = record { call = write file offset given; n = n; k = k }

      spent_kept : (t : Bool) → NodeOf (step m writing).nodes (only_if t book_spent m.book).bringer x ((only_if t book_spent m.book).content x)
      unfolding book_spent
      spent_kept true = kept writing may noted x l m.book.bringer (λ v q. refl)
      spent_kept false = kept writing may noted x l m.book.bringer (λ v q. refl)

      -- the node that a whole page notes
      new_node : (fate : Fate) → made_whole fate 0 ≡ true
          → nodes_after (write file offset given) fate m.book m.nodes (lowest_marked m.book) (m.book.bringer (lowest_marked m.book)) ≡ some (record { file = file; offset = offset; second = second_given given; bytes = bytes_given given })
      unfolding nodes_after
      new_node fate w = rw (
        w,
        eq-eqb (lowest_marked m.book) (lowest_marked m.book) refl,
        eq-eqb (m.book.bringer (lowest_marked m.book))
            (m.book.bringer (lowest_marked m.book)) refl,
      )

      -- what is read back of it
      whole_back : made_whole (fate_of writing (outcome_at m writing) (left_at m writing)) 0 ≡ true
          → payload_given given ≡ take (length_of (second_given given)) (bytes_given given)
      whole_back w = given_back given (write-right m.image m.store file offset (given_right given) (second_given given) (bytes_given given)
          (began_taken m file offset given n k (rw w)))

      written : (fate : Fate) → (step m writing).nodes ≡ nodes_after (write file offset given) fate m.book m.nodes
          → (made_whole fate 0 ≡ true → payload_given given ≡ take (length_of (second_given given)) (bytes_given given)) → (t : Bool) → made_whole fate 0 ≡ t
          → NodeOf (step m writing).nodes (cond t (book_written (place_at file offset) (payload_given given) m.book) (only_if (torn header_size fate) book_spent m.book)).bringer x ((cond t (book_written (place_at file offset) (payload_given given) m.book) (only_if (torn header_size fate) book_spent m.book)).content x)
      unfolding book_written
      written fate is back true w = elim (ℕ_discrete x (place_at file offset)) [
        | yes q ↦ rw (eq-eqb x (place_at file offset) q) (
          record { file = file; offset = offset; second = second_given given; bytes = bytes_given given },
          ap
              (λ (f : ℕ → ℕ → Option Node). f (lowest_marked m.book) (m.book.bringer (lowest_marked m.book))) is ∙ new_node fate w,
          sym q,
          sym (back w),
        )
        | no q ↦ rw (ne_eqb x (place_at file offset) q) (kept writing may noted x l m.book.bringer (λ v z. refl))
      ]
      written fate is back false w = spent_kept (torn header_size fate)

      noted-write : After (write file offset given) n k x
      unfolding step entered
      noted-write =
          let fate = fate_of writing (outcome_at m writing) (left_at m writing) in
          written fate refl whole_back (made_whole fate 0) refl

  noted_step : Noted m → (call : Call) (n k : ℕ) → Permitted m (record { call = call; n = n; k = k }) → Noted (step m (record { call = call; n = n; k = k }))
  unfolding entered
  noted_step noted (mount map letters scratch) n k may x l = noted-same noted n k x l (mount map letters scratch) may (λ fate. refl)
  noted_step noted (write file offset given) n k may x l = noted-write noted n k x l file offset given may
  noted_step noted (read file offset output) n k may x l = noted-same noted n k x l (read file offset output) may (λ fate. refl)
  noted_step noted (cut_off file offset) n k may x l = noted-cut_off noted n k x l file offset may
  noted_step noted (commit noise) n k may x l = noted-commit noted n k x l noise may
  noted_step noted (wipe noise file offset) n k may x l = noted-wipe noted n k x l noise file offset may
  noted_step noted (gather block) n k may x l = noted-same noted n k x l (gather block) may (λ fate. refl)

-- ---- at the end of every list
start-noted : (img map letters noise : List ℕ) → Noted (start img map letters noise)
unfolding start
start-noted img map letters noise x l = tt

along_noted : (m : Machine) → History m → Noted m → (es : List Event) → Allowed m es → Noted (end_of m es)
along_noted m h noted [] a = noted
along_noted m h noted (e ∷ es) a = along_noted (step m e) (next m h e (a.0, a.1)) (noted_step m h noted e.call e.n e.k (a.0, a.1)) es a.2

noted-end : (m : Machine) → History m → Noted m
noted-end m h =
    subst Noted h.here
    (along_noted _ (history h.image h.map h.letters h.noise h.size h.lent h.long [] tt)
    (start-noted h.image h.map h.letters h.noise) h.events h.allowed)

-- the key of a payload has enciphered that payload, for that file and offset, and nothing else
pub held_node : (m : Machine) → History m → (x : ℕ) → x < places → (v : Holding) → m.book.content x ≡ some v
    → (w : Node) × (m.nodes v.position (m.book.bringer v.position) ≡ some w) × (place_at w.file w.offset ≡ x)
    × (take (length_of w.second) w.bytes ≡ v.payload)
held_node m h x l v q = subst (NodeOf m.nodes m.book.bringer x) q (noted-end m h x l)
