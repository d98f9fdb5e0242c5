-- Keys that have enciphered a node: as long as a position has such a key it is not marked f, so no write takes the key again. Over the book alone, then of a machine.
use Prim.Native.Nat.{ℕ, ◌+◌, ◌<◌, ◌≤◌}
use native.Mathlib.Omega.{arith}
use native.Mathlib.Decide.{dec_lt, ℕ_discrete}
use mathlib.Core.Path.{◌≡◌, refl}
use mathlib.Core.Logic.{◌⊎◌, inl, inr}
use mathlib.Core.Bool.{Bool, true, false, cond, not, ◌&&◌, ◌||◌}
use mathlib.Core.List.{List}
use mathlib.Core.Option.{Option, none, some}
use lib.Dec.{eqb, ltb, leb}
use borrow.Author.Tests.{eq-eqb, ne_eqb, eqb-true, eqb-false, ltb-true, lt-ltb}
use Rattle.base.proofs.Choice.{and-true, true-false, or_left}
use Rattle.base.proofs.Searches.{first_holds, first_least, any_holds}
use Rattle.page.specs.Frame.{header_size, page_size}
use Rattle.page.specs.Key.{positions, key_block}
use Rattle.page.specs.Entry.{free_letter, used_letter, deleted_letter}
use Rattle.store.specs.Mount.{removes}
use Rattle.store.specs.Write.{place_at}
use Rattle.store.specs.Reply.{Done}
use Rattle.guarantee.specs.Call.{Given, second_given, bytes_given, payload_given, Call, mount, write, read, cut_off, commit, wipe, gather, Event, Fate, replied, cut, made_whole, torn}
use Rattle.guarantee.specs.Book.{Book, held_among, lowest_marked, book_written, book_spent, book_removed, book_renewed, book_freed, only_if, keys_done, commit_done, removal_done, wipe_commit_at, book_committed, entered}
use Rattle.guarantee.specs.Machine.{Node, began, nodes_after, Machine, start, step, fate_of, outcome_at, left_at}
use Rattle.guarantee.specs.Replies.{any_free}

-- ---- what a purge renews
-- a position that is not u has a key of call now
abbrev pub Renewed : ℕ → ℕ → Book → Type 0
Renewed p now b = (b.mark p ≡ used_letter → ⊥) → b.bringer p ≡ now

renewed_both : (p now : ℕ) → p < positions → (b : Book) → Renewed p now (book_renewed now 1 (book_renewed now 0 b))
unfolding book_renewed
renewed_both p now below b free =
    let u = ne_eqb (b.mark p) used_letter free in
    rw u (go (eqb (key_block p) 1) refl (eqb (key_block p) 0) refl)
  where
    go : (s : Bool) → eqb (key_block p) 1 ≡ s → (t : Bool) → eqb (key_block p) 0 ≡ t → cond (s && true) now (cond (t && true) now (b.bringer p)) ≡ now
    go true d t e = refl
    go false d true e = refl
    go false d false e = absurd (omega (arith, eqb-false (key_block p) 1 d, eqb-false (key_block p) 0 e))

-- a commit, or the commit in a wipe, that comes to its end
pub committed_renewed : (p now i : ℕ) → p < positions → (b : Book) → (b.mark p ≡ used_letter → ⊥) → (book_committed now i (replied Done) b).bringer p ≡ now
unfolding book_committed book_freed book_renewed
committed_renewed p now i below b free = renewed_both p now below b free

-- ---- the book alone
-- the key that call c brought to position p is used up: as long as p has it, p is not marked f
abbrev pub UsedUp : ℕ → ℕ → Book → Type 0
UsedUp p c b = b.bringer p ≡ c → b.mark p ≡ free_letter → ⊥

not_free : (t : Bool) (l v : ℕ) → (l ≡ free_letter → ⊥) → cond t l v ≡ free_letter → v ≡ free_letter
not_free true l v h e = absurd (h e)
not_free false l v h e = e

-- each change of the book leaves it used up
module _ (p c : ℕ) where
  written_used : (x : ℕ) (payload : List ℕ) (b : Book) → UsedUp p c b → UsedUp p c (book_written x payload b)
  unfolding book_written
  written_used x payload b h e f =
      h e (not_free (held_among (λ y. eqb y x) b p) deleted_letter (b.mark p) (omega arith) (not_free (eqb p (lowest_marked b)) used_letter _ (omega arith) f))

  spent_used : (b : Book) → UsedUp p c b → UsedUp p c (book_spent b)
  unfolding book_spent
  spent_used b h e f = h e (not_free (eqb p (lowest_marked b)) deleted_letter (b.mark p) (omega arith) f)

  removed_used : (file offset : ℕ) (b : Book) → UsedUp p c b → UsedUp p c (book_removed file offset b)
  unfolding book_removed
  removed_used file offset b h e f = h e (not_free (held_among (removes file offset) b p) deleted_letter (b.mark p) (omega arith) f)

  only_used : (t : Bool) (f : Book → Book) → ((b : Book) → UsedUp p c b → UsedUp p c (f b)) → (b : Book) → UsedUp p c b → UsedUp p c (only_if t f b)
  only_used true f h b u = h b u
  only_used false f h b u = u

  -- a commit or wipe, call now: where it makes a mark f it has brought the position a key before, block by block
  module _ (now : ℕ) (earlier : c < now) where
    renewed_used : (q : ℕ) (b : Book) → UsedUp p c b → UsedUp p c (book_renewed now q b)
    unfolding book_renewed
    renewed_used q b h = go (eqb (key_block p) q && not (eqb (b.mark p) used_letter))
      where
        go : (t : Bool) → cond t now (b.bringer p) ≡ c → b.mark p ≡ free_letter → ⊥
        go true e f = omega arith
        go false e f = h e f

    freed_used : (b : Book) → Renewed p now b → UsedUp p c (book_freed b)
    unfolding book_freed
    freed_used b renewed e f = go (ℕ_discrete (b.mark p) used_letter)
      where
        go : Dec (b.mark p ≡ used_letter) → ⊥
        go (yes u) = let same : used_letter ≡ free_letter = rw u at f in omega arith
        go (no u) = omega (arith, renewed u)

    -- the last commit block is made whole after both copies
    whole_before : (fate : Fate) (i q : ℕ) → q < 2 → made_whole fate (commit_done i) ≡ true → made_whole fate (keys_done i q) ≡ true
    whole_before (replied r) i q l h = h
    whole_before (cut n k) i q l h = or_left _ _ (lt-ltb (keys_done i q) n (omega (arith, reached (ltb (commit_done i) n) refl h)))
      where
        reached : (t : Bool) → ltb (commit_done i) n ≡ t → t || eqb (commit_done i) n && leb page_size k ≡ true → commit_done i ≤ n
        reached true e h = omega (arith, ltb-true (commit_done i) n e)
        reached false e h = omega (arith, eqb-true (commit_done i) n (and-true (eqb (commit_done i) n) (leb page_size k) h).0)

    committed_used : p < positions → (i : ℕ) (fate : Fate) (b : Book) → UsedUp p c b → UsedUp p c (book_committed now i fate b)
    unfolding book_committed
    committed_used below i fate b h = go (made_whole fate (commit_done i)) refl
      where
        go : (t : Bool) → made_whole fate (commit_done i) ≡ t → UsedUp p c (only_if t book_freed (only_if (made_whole fate (keys_done i 1)) (book_renewed now 1) (only_if (made_whole fate (keys_done i 0)) (book_renewed now 0) b)))
        go true e = rw (whole_before fate i 0 (omega arith) e, whole_before fate i 1 (omega arith) e) (freed_used (book_renewed now 1 (book_renewed now 0 b)) (renewed_both p now below b))
        go false e = only_used (made_whole fate (keys_done i 1)) (book_renewed now 1) (renewed_used 1) _ (only_used (made_whole fate (keys_done i 0)) (book_renewed now 0) (renewed_used 0) b h)

    pub entered_used : p < positions → (call : Call) (fate : Fate) (b : Book) → UsedUp p c b → UsedUp p c (entered now call fate b)
    unfolding entered
    entered_used below (mount map letters scratch) fate b h = h
    entered_used below (write file offset given) fate b h = go (made_whole fate 0)
      where
        go : (t : Bool) → UsedUp p c (cond t (book_written (place_at file offset) (payload_given given) b) (only_if (torn header_size fate) book_spent b))
        go true = written_used (place_at file offset) (payload_given given) b h
        go false = only_used (torn header_size fate) book_spent spent_used b h
    entered_used below (read file offset output) fate b h = h
    entered_used below (cut_off file offset) fate b h = only_used (made_whole fate 0) (book_removed file offset) (removed_used file offset) b h
    entered_used below (commit noise) fate b h = committed_used below 0 fate b h
    entered_used below (wipe noise file offset) fate b h =
        committed_used below wipe_commit_at fate _ (only_used (made_whole fate removal_done) (book_removed file offset) (removed_used file offset) b h)
    entered_used below (gather block) fate b h = h

-- ---- a write whose header was programmed has used up the key that it took
written_up : (c file offset : ℕ) (given : Given) (fate : Fate) (b : Book) → began fate ≡ true → UsedUp (lowest_marked b) (b.bringer (lowest_marked b)) (entered c (write file offset given) fate b)
unfolding entered book_written book_spent
written_up c file offset given fate b h e f = go (made_whole fate 0) (torn header_size fate) h f
  where
    go : (s t : Bool) → s || t ≡ true → (cond s (book_written (place_at file offset) (payload_given given) b) (only_if t book_spent b)).mark (lowest_marked b) ≡ free_letter → ⊥
    go true t h f = let same : used_letter ≡ free_letter = rw (eq-eqb (lowest_marked b) (lowest_marked b) refl) at f in omega arith
    go false true h f = let same : deleted_letter ≡ free_letter = rw (eq-eqb (lowest_marked b) (lowest_marked b) refl) at f in omega arith
    go false false h f = true-false h refl

-- ---- the machine: each key with a node is of an earlier call, and used up
abbrev pub Once : Machine → Type 0
Once m = (p c : ℕ) → p < positions → (v : Node) → m.nodes p c ≡ some v → (c < m.calls) × UsedUp p c m.book

pub start_once : (img map letters noise : List ℕ) → Once (start img map letters noise)
unfolding start
start_once img map letters noise p c below v h = absurd (let z : ◌≡◌ {A = ℕ} 0 1 = cc in omega arith)

-- a key has the node that it had, or the one of a write that took it
node_from : (now : ℕ) (call : Call) (fate : Fate) (b : Book) (nodes : ℕ → ℕ → Option Node) (p c : ℕ) (v : Node) → nodes_after call fate b nodes p c ≡ some v
    → (nodes p c ≡ some v) ⊎ ((c ≡ b.bringer p) × UsedUp p c (entered now call fate b))
unfolding nodes_after
node_from now (mount map letters scratch) fate b nodes p c v h = inl h
node_from now (write file offset given) fate b nodes p c v h = go (began fate && (eqb p (lowest_marked b) && eqb c (b.bringer p))) refl h
  where
    go : (t : Bool) → began fate && (eqb p (lowest_marked b) && eqb c (b.bringer p)) ≡ t → cond t (some (record { file = file; offset = offset; second = second_given given; bytes = bytes_given given })) (nodes p c) ≡ some v
        → (nodes p c ≡ some v) ⊎ ((c ≡ b.bringer p) × UsedUp p c (entered now (write file offset given) fate b))
    go true q z =
        let d = and-true (began fate) (eqb p (lowest_marked b) && eqb c (b.bringer p)) q in
        let s = and-true (eqb p (lowest_marked b)) (eqb c (b.bringer p)) d.1 in
        let at : p ≡ lowest_marked b = eqb-true _ _ s.0 in
        let key : c ≡ b.bringer p = eqb-true _ _ s.1 in
        inr (key, rw (key, at) (written_up now file offset given fate b d.0))
    go false q z = inl z
node_from now (read file offset output) fate b nodes p c v h = inl h
node_from now (cut_off file offset) fate b nodes p c v h = inl h
node_from now (commit noise) fate b nodes p c v h = inl h
node_from now (wipe noise file offset) fate b nodes p c v h = inl h
node_from now (gather block) fate b nodes p c v h = inl h

pub call_once : (m : Machine) → ((p : ℕ) → m.book.bringer p < m.calls) → Once m → (e : Event) → Once (step m e)
unfolding step
call_once m begun once e p c below v h = go (node_from m.calls e.call (fate_of e (outcome_at m e) (left_at m e)) m.book m.nodes p c v h)
  where
    go : (m.nodes p c ≡ some v) ⊎ ((c ≡ m.book.bringer p) × UsedUp p c (entered m.calls e.call (fate_of e (outcome_at m e) (left_at m e)) m.book))
        → (c < m.calls + 1) × UsedUp p c (entered m.calls e.call (fate_of e (outcome_at m e) (left_at m e)) m.book)
    go (inl q) =
        let u = once p c below v q in
        (omega (arith, u.0), entered_used p c m.calls u.0 below e.call (fate_of e (outcome_at m e) (left_at m e)) m.book u.1)
    go (inr q) = (omega (arith, q.0, begun p), q.1)

-- ---- so a write that is taken finds a key without a node
-- the lowest f, if there is one
pub lowest_free_lem : (b : Book) → any_free b ≡ true → (lowest_marked b < positions) × (b.mark (lowest_marked b) ≡ free_letter)
unfolding any_free lowest_marked
lowest_free_lem b e =
    let p : ℕ → Bool = λ q. eqb (b.mark q) free_letter in
    let w = any_holds p positions 0 e in
    let below : lowest_marked b < positions = elim (dec_lt (lowest_marked b) positions) [
      | yes h ↦ h
      | no h ↦ absurd (true-false w.3 (first_least p positions 0 w.0 (omega arith) (omega (arith, w.2))))
    ] in
    (below, eqb-true _ _ (first_holds p positions 0 (omega arith)))

pub write_unused : (m : Machine) → Once m → any_free m.book ≡ true → m.nodes (lowest_marked m.book) (m.book.bringer (lowest_marked m.book)) ≡ none
write_unused m once free = go (m.nodes (lowest_marked m.book) (m.book.bringer (lowest_marked m.book))) refl
  where
    go : (t : Option Node) → m.nodes (lowest_marked m.book) (m.book.bringer (lowest_marked m.book)) ≡ t → t ≡ none
    go none q = refl
    go (some v) q = let l = lowest_free_lem m.book free in absurd ((once (lowest_marked m.book) (m.book.bringer (lowest_marked m.book)) l.0 v q).1 refl l.1)
