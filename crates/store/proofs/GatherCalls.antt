-- A gather as its code decides it: the tests in order, the count of live pages standing for 15 and the pages found for 10.
use Prim.Native.Nat.{ℕ, ◌+◌, ◌≤◌, ◌<◌}
use native.Mathlib.Omega.{arith}
use mathlib.Core.Path.{◌≡◌, sym, ◌∙◌}
use mathlib.Core.Bool.{true, false}
use mathlib.Core.List.{List, [], ◌∷◌}
use lib.Dec.{eqb, leb}
use lib.ListN.{length}
use borrow.Author.Tests.{le-leb, lt-leb, eq-eqb, ne_eqb}
use Rattle.page.specs.Header.{last_number}
use Rattle.store.specs.Reply.{Reply, Done, ◌else◌, is_done, verdict}
use Rattle.store.specs.Record.{Record}
use Rattle.store.specs.Outcome.{left, most_steps}
use Rattle.store.specs.Gather.{live_pages, is_gathered, room_for_all, gather_tests, gather_of}
use Rattle.store.specs.Targets.{targets, PlacesIn, Moved, Tried}
use Rattle.store.specs.Taken.{Ready}
use Rattle.std.specs.Prelude.{Option, Some, None, is_some, MatchOption, Err, ◌≢◌}
use Rattle.std.specs.Option.{ok_or}
use Rattle.std.specs.List.{count_by}
use Rattle.store.specs.declared.Error.TheVariants.{NoRoom, NumbersSpent, NothingToGather}
use Rattle.store.proofs.Verdicts.{buffers_right_lem, gather-reply}
use Rattle.store.proofs.Outcomes.{leaves, gather-refused}
use Rattle.store.proofs.Counts.{gather-steps}
use Rattle.store.proofs.Cuts.{taken_few}
use Rattle.store.proofs.Calls.{refused-left}
use Rattle.store.proofs.Fits.{fits_is}
use Rattle.store.proofs.Gathers.{live-few}
use Rattle.store.proofs.GatherRooms.{gather_gathering}
use Rattle.store.proofs.GatherTargets.{live-counted, gathered_counted, room-targets}
use Rattle.store.proofs.GatherLoops.{moves_in}

module _ (img : List ℕ) (r : Record) (block : ℕ) where
  abbrev n : ℕ
  n = length (live_pages r.map block)

  -- ---- after those of the record, the tests of the block, of the sequences and of the pages
  module _ (ready : Ready img r) where
    goes_on : verdict (gather_tests img r block)
        ≡ verdict ((is_gathered img r block else NothingToGather) ∷ (leb (r.numbers.sequence + n) (last_number + 1) else NumbersSpent) ∷
        (room_for_all block (live_pages r.map block) img r else NoRoom) ∷ [])
    goes_on = rw (ready.size, buffers_right_lem r.map r.letters ready.buffers, ready.fit)

    pub no_live_page : n ≡ 0 → verdict (gather_tests img r block) ≡ (Err NothingToGather)
    no_live_page e = goes_on ∙ rw (gathered_counted img r block (fits_is img r ready.fit), lt-leb 1 n (omega arith))

    module _ (some : 1 ≤ n) where
      live-page : verdict (gather_tests img r block)
          ≡ verdict ((leb (r.numbers.sequence + n) (last_number + 1) else NumbersSpent) ∷
          (room_for_all block (live_pages r.map block) img r else NoRoom) ∷ [])
      live-page = goes_on ∙ rw (gathered_counted img r block (fits_is img r ready.fit), le-leb 1 n some)

      pub no_sequences : last_number + 1 < r.numbers.sequence + n → verdict (gather_tests img r block) ≡ (Err NumbersSpent)
      no_sequences h = live-page ∙ rw (lt-leb (r.numbers.sequence + n) (last_number + 1) h)

      module _ (left : r.numbers.sequence + n ≤ last_number + 1) where
        room-found : room_for_all block (live_pages r.map block) img r ≡ eqb (length (targets block img r.numbers n)) n
        room-found = room-targets block (live_pages r.map block) img r
            (gather_gathering img r block (fits_is img r ready.fit) ready.size ready.buffers some left) (live-few r.map block)

        sequences_left : verdict (gather_tests img r block) ≡ verdict ((eqb (length (targets block img r.numbers n)) n else NoRoom) ∷ [])
        sequences_left = live-page ∙ rw (le-leb (r.numbers.sequence + n) (last_number + 1) left, room-found)

        no_pages : eqb (length (targets block img r.numbers n)) n ≡ false → verdict (gather_tests img r block) ≡ (Err NoRoom)
        no_pages e = sequences_left ∙ rw e

        all_passed : eqb (length (targets block img r.numbers n)) n ≡ true → verdict (gather_tests img r block) ≡ Done
        all_passed e = sequences_left ∙ rw e

        -- what the search for the pages gives
        pub moves_tried : (at : List (Option ℕ)) → PlacesIn r.map block at → (o : Option (List (Option (ℕ × ℕ))))
            → (let m = count_by is_some at in
            MatchOption o (length (targets block img r.numbers m) ≢ m)
            (λ moves. Moved at (targets block img r.numbers m) moves × (length (targets block img r.numbers m) ≡ m)))
            → Tried img r block (ok_or o NoRoom)
        moves_tried at p (Some moves) w =
            let e = live-counted r.map block at p in
            (all_passed (eq-eqb _ _ (rw e at w.1)), moves_in r.map block img r.numbers at moves n e p w.0)
        moves_tried at p None w =
            let e = live-counted r.map block at p in
            no_pages (ne_eqb _ _ (rw e at w))

  -- ---- the call
  pub gather_refuse : (m k : ℕ) (v : Reply) → v ≡ verdict (gather_tests img r block) → is_done v ≡ false
      → leaves v img r [] ≡ left m k (gather_of img r block) img
  gather_refuse m k v e d = refused-left m k img r v (e ∙ sym (gather-reply img r block)) d (gather-refused img r block)

  pub gather-few : length (gather_of img r block).steps ≤ most_steps
  gather-few =
      taken_few most_steps (gather_of img r block) (λ e. omega (arith, gather-steps img r block e, live-few r.map block))
      (λ d. rw (gather-refused img r block d))
