-- Which calls of a list are sure to be taken: commit and wipe, never short of a block; and after any format a mount, a write, a commit and a wipe, cut ones too.
use Prim.Native.Nat.{ℕ, ◌+◌, ◌<◌, ◌≤◌}
use native.Mathlib.Omega.{arith}
use native.Mathlib.Decide.{dec_le}
use mathlib.Core.Path.{◌≡◌, refl, sym, ap, ◌∙◌}
use mathlib.Core.Bool.{Bool, true, false, not, ◌||◌}
use mathlib.Core.List.{List, []}
use lib.Dec.{T, eqb}
use lib.ListN.{length}
use borrow.Author.Tests.{eq-eqb, le-leb, lt-ltb}
use Rattle.base.specs.Search.{any_from}
use Rattle.base.proofs.Choice.{true-false}
use Rattle.base.proofs.Searches.{count_unique}
use Rattle.page.specs.Header.{last_number}
use Rattle.image.specs.Size.{size_right, blocks}
use Rattle.image.specs.Look.{block_empty, empty_blocks}
use Rattle.image.proofs.Looks.{sized}
use Rattle.store.specs.Reply.{Reply, Done, Test, number_of, verdict}
use Rattle.store.specs.Outcome.{Outcome, left, left_whole}
use Rattle.store.specs.Format.{noise_size, buffers_right}
use Rattle.store.specs.Mount.{mount_of}
use Rattle.store.specs.Write.{file_right, offset_right}
use Rattle.store.specs.Record.{is_dead}
use Rattle.store.specs.Commit.{commit_of}
use Rattle.store.specs.Wipe.{wipe_of}
use Rattle.std.specs.Prelude.{Err}
use Rattle.store.specs.declared.Error.TheVariants.{NoRoom}
use Rattle.store.specs.Gather.{live_pages, gather_of}
use Rattle.store.proofs.Gathers.{live-few, gathered_dead}
use Rattle.store.proofs.Outcomes.{gather_outcome}
use Rattle.image.proofs.Plays.{play_all_lem}
use Rattle.store.proofs.Verdicts.{verdict-passed, verdict_among, gather_taken_lem}
use Rattle.store.proofs.Counts.{replaced_steps, commit-steps}
use Rattle.guarantee.specs.Call.{Given, given_right, write_given, Call, mount, write, commit, wipe, gather, Event, is_mount, lent_right}
use Rattle.guarantee.specs.Machine.{Machine, start, step, outcome_at}
use Rattle.guarantee.specs.Replies.{room_for_copies, any_free, has_room, room_left, book_tests}
use Rattle.guarantee.proofs.Givens.{given-steps}
use Rattle.guarantee.proofs.Sounds.{is_true}
use Rattle.guarantee.proofs.FormatCall.{format_empty, format_length, format_taken_lem}
use Rattle.guarantee.proofs.Histories.{History, history, while_on, at_end, at_call}
use Rattle.guarantee.proofs.Slips.{copy_before_erase}

-- ---- commit and wipe
module _ (m : Machine) (h : History m) (on : T m.on) where
  abbrev tests : Call → List Test
  tests call = book_tests m.book m.store.map m.store.numbers m.image call

  due : (call : Call) → lent_right call ≡ true → (outcome_at m (record { call = call; n = 0; k = 0 })).reply ≡ verdict (tests call)
  due call right = (at_call m h (record { call = call; n = 0; k = 0 }) (while_on m on (is_mount call), rw right tt)).replied

  -- with noise of the right length, a file and an offset of the plan, and epochs left, they are done
  pub commit-is_done : (noise : List ℕ) → length noise ≡ noise_size → m.store.numbers.epoch ≤ last_number → (commit_of m.image m.store noise).reply ≡ Done
  commit-is_done noise long few = due (commit noise) refl ∙ verdict-passed (tests (commit noise)) (eq-eqb _ _ long, (le-leb _ _ few, tt))

  pub wipe-is_done : (noise : List ℕ) (file offset : ℕ) → length noise ≡ noise_size → T (file_right file) → T (offset_right file offset) → m.store.numbers.epoch < last_number
      → (wipe_of m.image m.store noise file offset).reply ≡ Done
  wipe-is_done noise file offset long f o few =
      due (wipe noise file offset) refl
      ∙ verdict-passed (tests (wipe noise file offset)) (eq-eqb _ _ long, (is_true (file_right file) f, (is_true (offset_right file offset) o, (le-leb (m.store.numbers.epoch + 1) last_number (omega arith), tt))))

  -- and there are epochs left for fifty million calls
  pub epochs_left : m.calls < 50_000_000 → m.store.numbers.epoch < last_number
  epochs_left few = omega (arith, (at_end m h on).counted.1)

  -- whatever their arguments, 10 is never their reply: a block is always there
  is_ten : Reply → Bool
  is_ten r = eqb (number_of r) 10

  never_ten : (call : Call) → verdict (tests call) ≡ (Err NoRoom) → not (is_ten (verdict (tests call))) ≡ true → ⊥
  unfolding is_ten
  never_ten call e q = true-false (rw e at q) refl

  pub commit_has_block : (noise : List ℕ) → (commit_of m.image m.store noise).reply ≡ (Err NoRoom) → ⊥
  unfolding is_ten
  commit_has_block noise e = never_ten (commit noise) (sym (due (commit noise) refl) ∙ e) (verdict_among (λ r. not (is_ten r)) (tests (commit noise)) refl refl)

  pub wipe_has_block : (noise : List ℕ) (file offset : ℕ) → (wipe_of m.image m.store noise file offset).reply ≡ (Err NoRoom) → ⊥
  unfolding is_ten
  wipe_has_block noise file offset e =
      never_ten (wipe noise file offset) (sym (due (wipe noise file offset) refl) ∙ e) (verdict_among (λ r. not (is_ten r)) (tests (wipe noise file offset)) refl refl)

-- ---- a mount, a write, a commit and a wipe
pub record Takes (m : Machine) : Type 0 where
  -- with right arguments these are done
  pub mounts : (map letters scratch : List ℕ) → T (lent_right (mount map letters scratch)) → (mount_of m.image map letters scratch).reply ≡ Done
  pub writes : (file offset : ℕ) (given : Given) → T (file_right file) → T (offset_right file offset) → given_right given ≡ true → (write_given m.image m.store file offset given).reply ≡ Done
  pub commits : (noise : List ℕ) → length noise ≡ noise_size → (commit_of m.image m.store noise).reply ≡ Done
  pub wipes : (noise : List ℕ) (file offset : ℕ) → length noise ≡ noise_size → T (file_right file) → T (offset_right file offset) → (wipe_of m.image m.store noise file offset).reply ≡ Done
  -- and short of power they are cut
  pub cut_writes : (file offset : ℕ) (given : Given) (k : ℕ) → T (file_right file) → T (offset_right file offset) → given_right given ≡ true
      → (step m (record { call = write file offset given; n = 0; k = k })).on ≡ false
  pub cut_commits : (noise : List ℕ) (n k : ℕ) → length noise ≡ noise_size → n < replaced_steps → (step m (record { call = commit noise; n = n; k = k })).on ≡ false

-- the power fails in a call that has more steps
pub cut_off-power : (m : Machine) (e : Event) → e.n < length (outcome_at m e).steps → (step m e).on ≡ false
unfolding step
cut_off-power m e l = rw (lt-ltb e.n (length (outcome_at m e).steps) l)

-- two empty blocks are room for a page
pub two_empty : (img : List ℕ) (a b : ℕ) → a < b → b < blocks img → block_empty img a ≡ true → block_empty img b ≡ true → 2 ≤ empty_blocks img
unfolding empty_blocks
two_empty img a b apart inside x y = elim (dec_le 2 (empty_blocks img)) [
  | yes l ↦ l
  | no l ↦ let z = count_unique (block_empty img) (blocks img) 0 a b (omega arith) (omega arith) (omega arith) (omega arith) (omega arith) x y in absurd (omega arith)
]

pub two_empty_room : (img : List ℕ) (a b : ℕ) → a < b → b < blocks img → block_empty img a ≡ true → block_empty img b ≡ true → room_left img ≡ true
unfolding room_left
two_empty_room img a b apart inside x y = rw (le-leb 2 (empty_blocks img) (two_empty img a b apart inside x y)) (go (any_from (has_room img) (blocks img) 0))
  where
    go : (t : Bool) → t || true ≡ true
    go true = refl
    go false = refl

-- while a key is free, there is room, and calls are few
module _ (m : Machine) (h : History m) (on : T m.on) (few : m.calls < 6_000_000) (free : any_free m.book ≡ true) (room : room_left m.image ≡ true) where
  write-is_done : (file offset : ℕ) (given : Given) → T (file_right file) → T (offset_right file offset) → given_right given ≡ true → (write_given m.image m.store file offset given).reply ≡ Done
  write-is_done file offset given f o l =
      due m h on (write file offset given) refl
      ∙ verdict-passed (tests m h on (write file offset given))
      (is_true (file_right file) f, (is_true (offset_right file offset) o, (l, (le-leb m.store.numbers.sequence last_number (omega (arith, (at_end m h on).counted.0)), (free, (room, tt))))))

  pub calls_taken : Takes m
  calls_taken =
      let early = epochs_left m h on (omega arith) in
      record {
        mounts = copy_before_erase m h;
        writes = write-is_done;
        commits = λ arg l. commit-is_done m h on arg l (omega arith);
        wipes = λ arg file offset l f o. wipe-is_done m h on arg file offset l f o early;
        cut_writes = λ file offset given k f o l. cut_off-power m (record { call = write file offset given; n = 0; k = k }) (omega (arith, given-steps m.image m.store file offset given (write-is_done file offset given f o l)));
        cut_commits = λ arg n k l short. cut_off-power m (record { call = commit arg; n = n; k = k }) (omega (arith, commit-steps m.image m.store arg (commit-is_done m h on arg l (omega arith))));
      }

-- a gather of a block with a live page, where there is room for its copies
pub gather-is_done : (m : Machine) → History m → T m.on → m.calls < 6_000_000 → (block : ℕ) → 1 ≤ length (live_pages m.store.map block) → room_for_copies m.image block (length (live_pages m.store.map block)) ≡ true
    → (gather_of m.image m.store block).reply ≡ Done
gather-is_done m h on few block some room =
    due m h on (gather block) refl
    ∙ verdict-passed (tests m h on (gather block)) (le-leb 1 (length (live_pages m.store.map block)) some, (le-leb (m.store.numbers.sequence + length (live_pages m.store.map block)) (last_number + 1) (omega (arith, (at_end m h on).counted.0, live-few m.store.map block)), (room, tt)))

-- and when it has finished, its block is one that a commit erases
pub gathered_block_dead : (m : Machine) (block n k : ℕ) → (gather_of m.image m.store block).reply ≡ Done → length (gather_of m.image m.store block).steps ≤ n
    → is_dead (step m (record { call = gather block; n = n; k = k })).image (step m (record { call = gather block; n = n; k = k })).store block ≡ true
unfolding step left
gathered_block_dead m block n k done whole =
    let e = gather_outcome m.image m.store block done in
    rw (play_all_lem n k (gather_of m.image m.store block).steps m.image whole, ap (λ (o : Outcome). o.steps) e, ap (λ (o : Outcome). o.after) e) (gathered_dead m.image m.store block (gather_taken_lem m.image m.store block done))

-- ---- after a format: the one theorem is about lists in which calls are really taken, and really cut
module _ (img map letters noise : List ℕ) (size : T (size_right img)) (lent : T (buffers_right map letters)) (long : length noise ≡ noise_size) where
  abbrev m : Machine
  m = start img map letters noise

  h : History m
  h = history img map letters noise size lent long [] tt

  on : T m.on
  unfolding start
  on = tt

  -- all but the first three blocks are empty, and there are five more
  pub start_empty : (b : ℕ) → 3 ≤ b → b < 8 → block_empty m.image b ≡ true
  unfolding start left_whole
  start_empty b past few =
      let right = is_true (size_right img) size in
      let z = sized img right in
      rw (format_taken_lem img map letters noise size lent long) (format_empty img noise right long b past (omega (arith, z.fewest)))

  pub start-blocks : 8 ≤ blocks m.image
  unfolding start left_whole
  start-blocks =
      let right = is_true (size_right img) size in
      let z = sized img right in
      let same = format_length img noise right long in
      rw (format_taken_lem img map letters noise size lent long, same) (omega (arith, z.fewest))

  pub start_free : any_free m.book ≡ true
  unfolding start any_free any_from
  start_free = refl

  first_call : m.calls ≡ 1
  unfolding start
  first_call = refl

  pub after_format_taken : Takes (start img map letters noise)
  after_format_taken = calls_taken m h on (omega (arith, first_call)) start_free (two_empty_room m.image 3 4 (omega arith) (omega (arith, start-blocks)) (start_empty 3 (omega arith) (omega arith)) (start_empty 4 (omega arith) (omega arith)))
