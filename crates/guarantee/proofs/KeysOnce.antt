-- A key that enciphered a page is never given out again: of two taken writes of one list at one position, the first of them whole or torn, a purge
-- brought that position another key between them. This holds of the whole list, of pages too that have been erased since.
use Prim.Native.Nat.{ℕ, zero, suc, ◌<◌, ◌≤◌}
use native.Mathlib.Omega.{arith}
use native.Mathlib.Decide.{dec_lt}
use mathlib.Core.Path.{◌≡◌, refl, sym, ap, subst}
use mathlib.Core.Logic.{◌⊎◌, inl, inr}
use mathlib.Core.Bool.{Bool, true, false, cond, ◌&&◌, ◌||◌}
use mathlib.Core.List.{List, [], ◌∷◌}
use mathlib.Core.Option.{some}
use lib.Dec.{T, eqb}
use borrow.Author.Tests.{eq-eqb, eqb-true, le-leb, lt-leb, lt-ltb, le-ltb}
use Rattle.base.proofs.Choice.{and-true, true-false}
use Rattle.page.specs.Frame.{header_size, page_size}
use Rattle.page.specs.Key.{positions}
use Rattle.page.specs.Entry.{used_letter, deleted_letter}
use Rattle.store.specs.Reply.{Done, is_done}
use Rattle.store.specs.Outcome.{Outcome, left}
use Rattle.store.proofs.Verdicts.{done-true}
use Rattle.guarantee.specs.Call.{Given, second_given, bytes_given, write_given, Call, mount, write, read, cut_off, commit, wipe, gather, Event, outcome_of, is_mount, Fate}
use Rattle.guarantee.specs.Book.{lowest_marked, book_written, book_spent, entered}
use Rattle.guarantee.specs.Machine.{Node, began, nodes_after, Machine, step, Allowed, fate_of, outcome_at, left_at}
use Rattle.guarantee.proofs.Givens.{given-refused, given-steps}
use Rattle.guarantee.proofs.Events.{calls_next, or-on, fate_stepless}
use Rattle.guarantee.proofs.Histories.{end_of, Permitted, History, while_on, next, along, standing}
use Rattle.guarantee.proofs.Slips.{taken_free}
use Rattle.guarantee.proofs.UsedKeys.{UsedUp, entered_used}

-- ---- over a list of calls
module _ (p c : ℕ) where
  called_used : p < positions → (m : Machine) (e : Event) → c < m.calls → UsedUp p c m.book → UsedUp p c (step m e).book
  unfolding step
  called_used below m e earlier h = entered_used p c m.calls earlier below e.call (fate_of e (outcome_at m e) (left_at m e)) m.book h

  along_used : p < positions → (m : Machine) → c < m.calls → UsedUp p c m.book → (es : List Event) → UsedUp p c (end_of m es).book
  along_used below m earlier h [] = h
  along_used below m earlier h (e ∷ es) = along_used below (step m e) (omega (arith, calls_next m e)) (called_used below m e earlier h) es

-- ---- the machines
module _ (m : Machine) (h : History m) (on : T m.on) (file offset : ℕ) (given : Given) (taken : (write_given m.image m.store file offset given).reply ≡ Done) where
  abbrev p : ℕ
  p = lowest_marked m.book

  abbrev writing : ℕ → ℕ → Event
  writing n k = record { call = write file offset given; n = n; k = k }

  -- a write that programmed its header, or more, leaves its position u or d
  marked : (n k : ℕ) → (0 < n) ⊎ (header_size ≤ k) → ((step m (writing n k)).book.mark p ≡ used_letter) ⊎ ((step m (writing n k)).book.mark p ≡ deleted_letter)
  unfolding step left entered book_written book_spent
  marked (suc n) k begun = inl (rw (given-steps m.image m.store file offset given taken, taken, le-ltb (suc n) 1 (omega arith), eq-eqb p p refl))
  marked zero k (inl l) = absurd (omega arith)
  marked zero k (inr headed) = elim (dec_lt k page_size) [
    | yes l ↦ inr (rw (given-steps m.image m.store file offset given taken, lt-leb page_size k l, le-leb header_size k headed, lt-ltb k page_size l, eq-eqb p p refl))
    | no l ↦ inl (rw (given-steps m.image m.store file offset given taken, le-leb page_size k (omega arith), eq-eqb p p refl))
  ]

  marked_up : (n k : ℕ) → (0 < n) ⊎ (header_size ≤ k) → UsedUp p (m.book.bringer p) (step m (writing n k)).book
  marked_up n k begun e f = go (marked n k begun)
    where
      go : ((step m (writing n k)).book.mark p ≡ used_letter) ⊎ ((step m (writing n k)).book.mark p ≡ deleted_letter) → ⊥
      go (inl u) = omega arith
      go (inr d) = omega arith

  -- and its node is noted under its key
  pub node-noted : (n k : ℕ) → (0 < n) ⊎ (header_size ≤ k)
      → (step m (writing n k)).nodes (lowest_marked m.book) (m.book.bringer (lowest_marked m.book)) ≡ some (record { file = file; offset = offset; second = second_given given; bytes = bytes_given given })
  unfolding step left nodes_after
  node-noted (suc n) k begun = rw (given-steps m.image m.store file offset given taken, taken, le-ltb (suc n) 1 (omega arith), eq-eqb p p refl, eq-eqb (m.book.bringer p) (m.book.bringer p) refl)
  node-noted zero k (inl l) = absurd (omega arith)
  node-noted zero k (inr headed) = elim (dec_lt k page_size) [
    | yes l ↦ rw (given-steps m.image m.store file offset given taken, lt-leb page_size k l, le-leb header_size k headed, lt-ltb k page_size l, eq-eqb p p refl, eq-eqb (m.book.bringer p) (m.book.bringer p) refl)
    | no l ↦ rw (given-steps m.image m.store file offset given taken, le-leb page_size k (omega arith), eq-eqb p p refl, eq-eqb (m.book.bringer p) (m.book.bringer p) refl)
  ]

  -- a later write that is taken at the same position finds another key there
  module _ (n k : ℕ) (begun : (0 < n) ⊎ (header_size ≤ k)) (es : List Event) (allowed : Allowed (step m (writing n k)) es) where
    abbrev pub later : Machine
    later = end_of (step m (writing n k)) es

    pub no_key_twice : T later.on → (file' offset' : ℕ) (given' : Given) → (write_given later.image later.store file' offset' given').reply ≡ Done
        → lowest_marked later.book ≡ lowest_marked m.book → later.book.bringer (lowest_marked m.book) ≡ m.book.bringer (lowest_marked m.book) → ⊥
    no_key_twice on' file' offset' given' taken' same key =
        let hist = along (step m (writing n k)) (next m h (writing n k) (while_on m on false, tt)) es allowed in
        let free = (taken_free later hist on' file' offset' given' taken').1 in
        along_used p (m.book.bringer p) (taken_free m h on file offset given taken).0 (step m (writing n k))
        (omega (arith, calls_next m (writing n k), (standing m h).settled.sound.begun p)) (marked_up n k begun) es key (rw same at free)

-- ---- the node of a key
-- a write whose header was programmed was taken
pub began_taken : (m : Machine) (file offset : ℕ) (given : Given) (n k : ℕ)
    → began (fate_of (record { call = write file offset given; n = n; k = k }) (write_given m.image m.store file offset given) (left n k (write_given m.image m.store file offset given) m.image)) ≡ true
    → (write_given m.image m.store file offset given).reply ≡ Done
began_taken m file offset given n k h = go (is_done (write_given m.image m.store file offset given).reply) refl
  where
    go : (t : Bool) → is_done (write_given m.image m.store file offset given).reply ≡ t → (write_given m.image m.store file offset given).reply ≡ Done
    go true q = done-true (write_given m.image m.store file offset given).reply q
    go false q =
        let none = ap (λ (o : Outcome). o.steps) (given-refused m.image m.store file offset given q) in
        let refused : is_done (write_given m.image m.store file offset given).reply || false ≡ true =
        subst (λ (f : Fate). began f ≡ true) (fate_stepless (record { call = write file offset given; n = n; k = k }) (write_given m.image m.store file offset given) m.image none) h in
        absurd (true-false (rw q at refused) refl)

-- one key, one node: whatever is called, a key keeps the node that it has enciphered
module _ (m : Machine) (h : History m) where
  node_kept : (call : Call) (n k : ℕ) → T (m.on || is_mount call) → (p c : ℕ) → p < positions → (v : Node) → m.nodes p c ≡ some v
      → nodes_after call (fate_of (record { call = call; n = n; k = k }) (outcome_of call m.image m.store) (left n k (outcome_of call m.image m.store) m.image)) m.book m.nodes p c ≡ some v
  unfolding nodes_after
  node_kept (mount map letters scratch) n k may p c below v q = q
  node_kept (write file offset given) n k may p c below v q = go _ refl
    where
      go : (t : Bool) → began (fate_of (record { call = write file offset given; n = n; k = k }) (write_given m.image m.store file offset given) (left n k (write_given m.image m.store file offset given) m.image))
          && (eqb p (lowest_marked m.book) && eqb c (m.book.bringer p)) ≡ t → cond t (some (record { file = file; offset = offset; second = second_given given; bytes = bytes_given given })) (m.nodes p c) ≡ some v
      go true z =
          let d = and-true _ _ z in
          let s = and-true (eqb p (lowest_marked m.book)) (eqb c (m.book.bringer p)) d.1 in
          let at : p ≡ lowest_marked m.book = eqb-true _ _ s.0 in
          let free = (taken_free m h (or-on m.on may) file offset given (began_taken m file offset given n k d.0)).1 in
          absurd (((standing m h).once p c below v q).1 (sym (eqb-true _ _ s.1)) (rw at free))
      go false z = q
  node_kept (read file offset output) n k may p c below v q = q
  node_kept (cut_off file offset) n k may p c below v q = q
  node_kept (commit noise) n k may p c below v q = q
  node_kept (wipe noise file offset) n k may p c below v q = q
  node_kept (gather block) n k may p c below v q = q

  pub one_node_per_key : (e : Event) → Permitted m e → (p c : ℕ) → p < positions → (v : Node) → m.nodes p c ≡ some v → (step m e).nodes p c ≡ some v
  unfolding step
  one_node_per_key e may = node_kept e.call e.n e.k may.0
