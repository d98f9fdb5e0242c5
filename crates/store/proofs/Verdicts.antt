-- Replies and their numbers, tests in order, and for each call: it succeeds exactly where all its tests pass.
use Prim.Native.Nat.{ℕ, ◌+◌}
use native.Mathlib.Omega.{arith}
use mathlib.Core.Path.{◌≡◌, refl, sym, ap, ◌∙◌}
use mathlib.Core.Bool.{Bool, true, false, cond, ◌&&◌, ◌||◌}
use mathlib.Core.List.{List, [], ◌∷◌, ◌++◌}
use lib.ListN.{length, get_or}
use lib.Dec.{eqb, leb}
use borrow.Author.Tests.{eqb-true, leb-true, ltb-true, eq-eqb, le-leb, lt-ltb}
use Rattle.base.specs.Each.{Each}
use Rattle.base.proofs.Choice.{and-true, and_intro, true-false}
use Rattle.base.proofs.Eachs.{each_at}
use Rattle.page.specs.Frame.{payload_size}
use Rattle.page.specs.Plan.{places}
use Rattle.page.specs.Header.{last_number}
use Rattle.page.specs.Key.{positions}
use Rattle.page.specs.Page.{padded}
use Rattle.page.proofs.Ranges.{within-true}
use Rattle.page.proofs.Pages.{padded-length}
use Rattle.image.specs.Size.{size_right}
use Rattle.store.specs.Reply.{Reply, Done, Test, ◌else◌, verdict, is_done, number_of}
use Rattle.store.specs.Kind.{is_data}
use Rattle.store.specs.Record.{Record, map_size, keys_apart, fits}
use Rattle.store.specs.Find.{is_found, found_at}
use Rattle.store.specs.Format.{buffers_right, format_tests, format_of}
use Rattle.store.specs.Mount.{chosen_commit, chosen_keys, mount_map, entries_fit, mount_tests, mount_of}
use Rattle.store.specs.Write.{file_right, offset_right, payload_right, append_tests, append_of}
use Rattle.store.specs.Read.{read_tests, read_of}
use Rattle.store.specs.CutOff.{cut_off_tests, cut_off_of}
use Rattle.store.specs.Commit.{commit_tests, commit_of}
use Rattle.store.specs.Wipe.{wipe_tests, wipe_of}
use Rattle.store.specs.Gather.{live_pages, gather_tests, gather_of}
use Rattle.store.specs.Taken.{Buffers, Ready, Planned, FormatTaken, MountTaken, Filling, WriteTaken, ReadTaken, CutOffTaken, CommitTaken, WipeTaken, GatherTaken}
use Rattle.std.specs.Prelude.{Ok, Err}
use Rattle.store.specs.declared.Error.TheVariants.{ImageSize, BufferLength, NoiseLength, NoSuchFile, OffsetOutside, PayloadLength, RecordUnfit, NothingThere, NoFreeKey, NoRoom, NumbersSpent, NoKeyBlock, NoCommit, EntryUnfit, NothingToGather, PowerCut}

-- ---- numbers
-- the reply of a number of the document
abbrev reply_of : ℕ → Reply
reply_of n =
    get_or
    (Done ∷ (Err ImageSize) ∷ (Err BufferLength) ∷ (Err NoiseLength) ∷ (Err NoSuchFile) ∷ (Err OffsetOutside) ∷ (Err PayloadLength) ∷ (Err RecordUnfit) ∷ (Err NothingThere) ∷ (Err NoFreeKey) ∷ (Err NoRoom) ∷ (Err NumbersSpent) ∷ (Err NoKeyBlock) ∷ (Err NoCommit) ∷ (Err EntryUnfit) ∷ (Err NothingToGather) ∷ [])
    n (Err PowerCut)

reply_of_number : (r : Reply) → reply_of (number_of r) ≡ r
reply_of_number (Ok done) = refl
reply_of_number (Err ImageSize) = refl
reply_of_number (Err BufferLength) = refl
reply_of_number (Err NoiseLength) = refl
reply_of_number (Err NoSuchFile) = refl
reply_of_number (Err OffsetOutside) = refl
reply_of_number (Err PayloadLength) = refl
reply_of_number (Err RecordUnfit) = refl
reply_of_number (Err NothingThere) = refl
reply_of_number (Err NoFreeKey) = refl
reply_of_number (Err NoRoom) = refl
reply_of_number (Err NumbersSpent) = refl
reply_of_number (Err NoKeyBlock) = refl
reply_of_number (Err NoCommit) = refl
reply_of_number (Err EntryUnfit) = refl
reply_of_number (Err NothingToGather) = refl
reply_of_number (Err PowerCut) = refl

-- no two replies have one number, and only success has 0
pub number_apart : (r v : Reply) → number_of r ≡ number_of v → r ≡ v
number_apart r v e = sym (reply_of_number r) ∙ ap reply_of e ∙ reply_of_number v

pub number_zero : (r : Reply) → number_of r ≡ 0 → r ≡ Done
number_zero r e = number_apart r Done e

-- ---- success
pub done-true : (r : Reply) → is_done r ≡ true → r ≡ Done
done-true (Ok done) e = refl
done-true (Err error) e = absurd (true-false e refl)

pub done-false : (r : Reply) → (r ≡ Done → ⊥) → is_done r ≡ false
done-false (Ok done) h = absurd (h refl)
done-false (Err error) h = refl

pub not_done : (r : Reply) → is_done r ≡ false → r ≡ Done → ⊥
not_done r e h = true-false (ap is_done h) e

-- ---- tests in order
pub verdict-pass : (t : Test) (ts : List Test) → t.holds ≡ true → verdict (t ∷ ts) ≡ verdict ts
verdict-pass t ts e = rw e

pub verdict_stop : (t : Test) (ts : List Test) → t.holds ≡ false → verdict (t ∷ ts) ≡ (Err t.otherwise)
verdict_stop t ts e = rw e

-- a test passes
abbrev pub Passes : Test → Type 0
Passes t = t.holds ≡ true

pub verdict_first : (t : Test) (ts : List Test) → verdict (t ∷ ts) ≡ Done → (t.holds ≡ true) × (verdict ts ≡ Done)
verdict_first t ts e = go t.holds refl
  where
    go : (b : Bool) → t.holds ≡ b → (t.holds ≡ true) × (verdict ts ≡ Done)
    go true h = (h, sym (verdict-pass t ts h) ∙ e)
    go false h = absurd (not_done (Err t.otherwise) refl (sym (verdict_stop t ts h) ∙ e))

-- success is that each test passes
pub verdict-done : (ts : List Test) → verdict ts ≡ Done → Each Passes ts
verdict-done [] e = tt
verdict-done (t ∷ ts) e = let f = verdict_first t ts e in (f.0, verdict-done ts f.1)

pub verdict-passed : (ts : List Test) → Each Passes ts → verdict ts ≡ Done
verdict-passed [] p = refl
verdict-passed (t ∷ ts) p = verdict-pass t ts p.0 ∙ verdict-passed ts p.1

-- any other reply is that of the first test that fails
pub record FirstFailure (ts : List Test) : Type 0 where
  pub before : List Test
  pub test : Test
  pub after : List Test
  pub in_order : ts ≡ before ++ (test ∷ after)
  pub passed : Each Passes before
  pub failed : test.holds ≡ false
  pub reply : verdict ts ≡ (Err test.otherwise)

pub verdict-failed : (ts : List Test) → is_done (verdict ts) ≡ false → FirstFailure ts
verdict-failed [] e = absurd (true-false refl e)
verdict-failed (t ∷ ts) e = go t.holds refl (verdict-failed ts)
  where
    go : (b : Bool) → t.holds ≡ b → (is_done (verdict ts) ≡ false → FirstFailure ts) → FirstFailure (t ∷ ts)
    go true h f =
        let p = verdict-pass t ts h in
        let g = f (sym (ap is_done p) ∙ e) in
        record {
          before = t ∷ g.before;
          test = g.test;
          after = g.after;
          in_order = ap (λ (us : List Test). t ∷ us) g.in_order;
          passed = (h, g.passed);
          failed = g.failed;
          reply = p ∙ g.reply;
        }
    go false h f =
        record { before = []; test = t; after = ts; in_order = refl; passed = tt; failed = h; reply = verdict_stop t ts h }

-- what holds of success and of each refusal of the tests holds of their verdict
abbrev pub all_refusals : (Reply → Bool) → List Test → Bool
all_refusals p [] = true
all_refusals p (t ∷ ts) = p (Err t.otherwise) && all_refusals p ts

pub verdict_among : (p : Reply → Bool) (ts : List Test) → p Done ≡ true → all_refusals p ts ≡ true → p (verdict ts) ≡ true
verdict_among p [] d a = d
verdict_among p (t ∷ ts) d a =
    let b = and-true (p (Err t.otherwise)) (all_refusals p ts) a in
    go t.holds b.0 (verdict_among p ts d b.1)
  where
    go : (h : Bool) → p (Err t.otherwise) ≡ true → p (verdict ts) ≡ true → p (cond h (verdict ts) (Err t.otherwise)) ≡ true
    go true e f = f
    go false e f = e

-- ---- the tests of a call, by their place in the list
passed : (ts : List Test) → verdict ts ≡ Done → (i : ℕ) → (get_or ts i (true else NoRoom)).holds ≡ true
passed ts e i = each_at Passes ts i (true else NoRoom) refl (verdict-done ts e)

-- ---- what several calls test
pub buffers-true : (map letters : List ℕ) → buffers_right map letters ≡ true → Buffers map letters
buffers-true map letters e =
    let b = and-true (eqb (length map) map_size) (eqb (length letters) positions) e in
    record { map_full = eqb-true _ _ b.0; letters_full = eqb-true _ _ b.1 }

pub buffers_right_lem : (map letters : List ℕ) → Buffers map letters → buffers_right map letters ≡ true
buffers_right_lem map letters b =
    and_intro (eqb (length map) map_size) (eqb (length letters) positions) (eq-eqb _ _ b.map_full) (eq-eqb _ _ b.letters_full)

pub ready-true : (img : List ℕ) (r : Record) → size_right img ≡ true → buffers_right r.map r.letters ≡ true → fits img r ≡ true → Ready img r
ready-true img r s b f = record { size = s; buffers = buffers-true r.map r.letters b; fit = f }

pub planned-true : (file offset : ℕ) → file_right file ≡ true → offset_right file offset ≡ true → Planned file offset
planned-true file offset f o = record { file_right = leb-true _ _ f; offset_right = ltb-true _ _ o }

-- ---- format
module _ (img map letters noise : List ℕ) where
  pub format_reply : (format_of img map letters noise).reply ≡ verdict (format_tests img map letters noise)
  unfolding format_of
  format_reply = refl

  pub format_taken_lem : (format_of img map letters noise).reply ≡ Done → FormatTaken img map letters noise
  format_taken_lem e =
      let t = passed (format_tests img map letters noise) (sym format_reply ∙ e) in
      record { size = t 0; buffers = buffers-true map letters (t 1); noise_full = eqb-true _ _ (t 2) }

  pub format_done_lem : FormatTaken img map letters noise → (format_of img map letters noise).reply ≡ Done
  format_done_lem t =
      format_reply
      ∙ verdict-passed (format_tests img map letters noise) (t.size, (buffers_right_lem map letters t.buffers, (eq-eqb _ _ t.noise_full, tt)))

-- ---- mount
module _ (img map letters scratch : List ℕ) where
  pub mount-reply : (mount_of img map letters scratch).reply ≡ verdict (mount_tests img map letters scratch)
  unfolding mount_of
  mount-reply = refl

  -- refused, it is with 1 or 2, or with 12 to 14
  pub mount_number : leb (number_of (mount_of img map letters scratch).reply) 2 || leb 12 (number_of (mount_of img map letters scratch).reply) ≡ true
  mount_number =
      rw mount-reply (verdict_among (λ v. leb (number_of v) 2 || leb 12 (number_of v)) (mount_tests img map letters scratch) refl refl)

  pub mount_taken : (mount_of img map letters scratch).reply ≡ Done → MountTaken img map letters scratch
  mount_taken e =
      let t = passed (mount_tests img map letters scratch) (sym mount-reply ∙ e) in
      let c = found_at (chosen_commit img) in
      let b = and-true (buffers_right map letters) (eqb (length scratch) places) (t 1) in
      let k = and-true (is_found (chosen_keys img 0)) (is_found (chosen_keys img 1)) (t 3) in
      let f = and-true (entries_fit img c) (keys_apart (mount_map img c)) (t 4) in
      record {
        size = t 0;
        buffers = buffers-true map letters b.0;
        scratch_full = eqb-true _ _ b.1;
        commit_there = t 2;
        keys0_there = k.0;
        keys1_there = k.1;
        entries = f.0;
        apart = f.1;
      }

  pub mount-done : MountTaken img map letters scratch → (mount_of img map letters scratch).reply ≡ Done
  mount-done t =
      let c = found_at (chosen_commit img) in
      let b = and_intro (buffers_right map letters) (eqb (length scratch) places) (buffers_right_lem map letters t.buffers) (eq-eqb _ _ t.scratch_full) in
      let k = and_intro (is_found (chosen_keys img 0)) (is_found (chosen_keys img 1)) t.keys0_there t.keys1_there in
      let f = and_intro (entries_fit img c) (keys_apart (mount_map img c)) t.entries t.apart in
      mount-reply ∙ verdict-passed (mount_tests img map letters scratch) (t.size, (b, (t.commit_there, (k, (f, tt)))))

-- ---- write, and whatever else appends a node; right says that its lengths are
module _ (img : List ℕ) (r : Record) (file offset : ℕ) (right : Bool) (second : ℕ) (bytes : List ℕ) where
  pub write-reply : (append_of img r file offset right second bytes).reply ≡ verdict (append_tests img r file offset right)
  unfolding append_of
  write-reply = refl

  pub write-right : (append_of img r file offset right second bytes).reply ≡ Done → right ≡ true
  write-right e = passed (append_tests img r file offset right) (sym write-reply ∙ e) 4

  pub write_taken_lem : (right ≡ true → Filling second bytes) → (append_of img r file offset right second bytes).reply ≡ Done → WriteTaken img r file offset second bytes
  write_taken_lem fills e =
      let t = passed (append_tests img r file offset right) (sym write-reply ∙ e) in
      record {
        ready = ready-true img r (t 0) (t 1) (t 5);
        planned = planned-true file offset (t 2) (t 3);
        filling = fills (t 4);
        numbers_left = leb-true _ _ (t 6);
        key_free = t 7;
        room = t 8;
      }

  pub write_done : right ≡ true → WriteTaken img r file offset second bytes → (append_of img r file offset right second bytes).reply ≡ Done
  write_done p t =
      let b = buffers_right_lem r.map r.letters t.ready.buffers in
      let f = le-leb _ _ t.planned.file_right in
      let o = lt-ltb _ _ t.planned.offset_right in
      let s = le-leb _ _ t.numbers_left in
      write-reply
      ∙ verdict-passed (append_tests img r file offset right) (t.ready.size, (b, (f, (o, (p, (t.ready.fit, (s, (t.key_free, (t.room, tt)))))))))

-- a payload of a right length, padded
pub payload-filling : (payload : List ℕ) → payload_right payload ≡ true → Filling (length payload) (padded payload)
payload-filling payload e =
    let w = within-true 1 payload_size (length payload) e in
    record { second_most = w.1; bytes_full = padded-length payload w.1 }

-- ---- read
module _ (img : List ℕ) (r : Record) (file offset : ℕ) (output : List ℕ) where
  pub read-reply : (read_of img r file offset output).reply ≡ verdict (read_tests img r file offset output)
  unfolding read_of
  read-reply = refl

  pub read_taken : (read_of img r file offset output).reply ≡ Done → ReadTaken img r file offset output
  read_taken e =
      let t = passed (read_tests img r file offset output) (sym read-reply ∙ e) in
      record {
        ready = ready-true img r (t 0) (t 1) (t 5);
        planned = planned-true file offset (t 2) (t 3);
        output_full = eqb-true _ _ (t 4);
        node_there = ltb-true _ _ (t 6);
      }

  pub read_done : ReadTaken img r file offset output → (read_of img r file offset output).reply ≡ Done
  read_done t =
      let b = buffers_right_lem r.map r.letters t.ready.buffers in
      let f = le-leb _ _ t.planned.file_right in
      let o = lt-ltb _ _ t.planned.offset_right in
      let p = eq-eqb _ _ t.output_full in
      let n = lt-ltb _ _ t.node_there in
      read-reply ∙ verdict-passed (read_tests img r file offset output) (t.ready.size, (b, (f, (o, (p, (t.ready.fit, (n, tt)))))))

-- ---- cut-off
module _ (img : List ℕ) (r : Record) (file offset : ℕ) where
  pub cut_off-reply : (cut_off_of img r file offset).reply ≡ verdict (cut_off_tests img r file offset)
  unfolding cut_off_of
  cut_off-reply = refl

  pub cut_off_taken_lem : (cut_off_of img r file offset).reply ≡ Done → CutOffTaken img r file offset
  cut_off_taken_lem e =
      let t = passed (cut_off_tests img r file offset) (sym cut_off-reply ∙ e) in
      record {
        ready = ready-true img r (t 0) (t 1) (t 4);
        planned = planned-true file offset (t 2) (t 3);
        some_live = t 5;
        numbers_left = leb-true _ _ (t 6);
        room = t 7;
      }

  pub cut_off-done : CutOffTaken img r file offset → (cut_off_of img r file offset).reply ≡ Done
  cut_off-done t =
      let b = buffers_right_lem r.map r.letters t.ready.buffers in
      let f = le-leb _ _ t.planned.file_right in
      let o = lt-ltb _ _ t.planned.offset_right in
      let s = le-leb _ _ t.numbers_left in
      cut_off-reply
      ∙ verdict-passed (cut_off_tests img r file offset) (t.ready.size, (b, (f, (o, (t.ready.fit, (t.some_live, (s, (t.room, tt))))))))

-- ---- commit
module _ (img : List ℕ) (r : Record) (noise : List ℕ) where
  pub commit-reply : (commit_of img r noise).reply ≡ verdict (commit_tests img r noise)
  unfolding commit_of
  commit-reply = refl

  pub commit_taken_lem : (commit_of img r noise).reply ≡ Done → CommitTaken img r noise
  commit_taken_lem e =
      let t = passed (commit_tests img r noise) (sym commit-reply ∙ e) in
      record {
        ready = ready-true img r (t 0) (t 1) (t 3);
        noise_full = eqb-true _ _ (t 2);
        numbers_left = omega (arith, leb-true (r.numbers.epoch + 0) last_number (t 4));
        room = leb-true _ _ (t 5);
      }

  pub commit_done_lem : CommitTaken img r noise → (commit_of img r noise).reply ≡ Done
  commit_done_lem t =
      let b = buffers_right_lem r.map r.letters t.ready.buffers in
      let n = eq-eqb _ _ t.noise_full in
      let e = le-leb (r.numbers.epoch + 0) last_number (omega (arith, t.numbers_left)) in
      let m = le-leb _ _ t.room in
      commit-reply ∙ verdict-passed (commit_tests img r noise) (t.ready.size, (b, (n, (t.ready.fit, (e, (m, tt))))))

-- ---- wipe
module _ (img : List ℕ) (r : Record) (noise : List ℕ) (file offset : ℕ) where
  pub wipe-reply : (wipe_of img r noise file offset).reply ≡ verdict (wipe_tests img r noise file offset)
  unfolding wipe_of
  wipe-reply = refl

  pub wipe_taken_lem : (wipe_of img r noise file offset).reply ≡ Done → WipeTaken img r noise file offset
  wipe_taken_lem e =
      let t = passed (wipe_tests img r noise file offset) (sym wipe-reply ∙ e) in
      record {
        ready = ready-true img r (t 0) (t 1) (t 5);
        planned = planned-true file offset (t 3) (t 4);
        noise_full = eqb-true _ _ (t 2);
        numbers_left = leb-true _ _ (t 6);
        room = leb-true _ _ (t 7);
      }

  pub wipe-done : WipeTaken img r noise file offset → (wipe_of img r noise file offset).reply ≡ Done
  wipe-done t =
      let b = buffers_right_lem r.map r.letters t.ready.buffers in
      let n = eq-eqb _ _ t.noise_full in
      let f = le-leb _ _ t.planned.file_right in
      let o = lt-ltb _ _ t.planned.offset_right in
      let e = le-leb _ _ t.numbers_left in
      let m = le-leb _ _ t.room in
      wipe-reply
      ∙ verdict-passed (wipe_tests img r noise file offset) (t.ready.size, (b, (n, (f, (o, (t.ready.fit, (e, (m, tt))))))))

-- ---- gather
module _ (img : List ℕ) (r : Record) (block : ℕ) where
  pub gather-reply : (gather_of img r block).reply ≡ verdict (gather_tests img r block)
  unfolding gather_of
  gather-reply = refl

  pub gather_taken_lem : (gather_of img r block).reply ≡ Done → GatherTaken img r block
  gather_taken_lem e =
      let t = passed (gather_tests img r block) (sym gather-reply ∙ e) in
      let d = and-true (is_data img r.numbers block) (leb 1 (length (live_pages r.map block))) (t 3) in
      record {
        ready = ready-true img r (t 0) (t 1) (t 2);
        data_block = d.0;
        some_live = leb-true _ _ d.1;
        numbers_left = leb-true _ _ (t 4);
        room = t 5;
      }

  pub gather-done : GatherTaken img r block → (gather_of img r block).reply ≡ Done
  gather-done t =
      let b = buffers_right_lem r.map r.letters t.ready.buffers in
      let d = and_intro (is_data img r.numbers block) (leb 1 (length (live_pages r.map block))) t.data_block (le-leb _ _ t.some_live) in
      gather-reply
      ∙ verdict-passed (gather_tests img r block) (t.ready.size, (b, (t.ready.fit, (d, (le-leb _ _ t.numbers_left, (t.room, tt))))))
