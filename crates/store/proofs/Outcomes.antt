-- What each call leaves where it is taken and where it is refused, whole and with the power failing; and that lent buffers keep their lengths.
use Prim.Native.Nat.{ℕ, ◌+◌, ◌<◌, ◌≤◌}
use native.Mathlib.Omega.{arith}
use mathlib.Core.Path.{◌≡◌, refl, ap, ◌∙◌}
use mathlib.Core.Bool.{Bool, true, false, cond}
use mathlib.Core.List.{List, [], ◌∷◌, map}
use lib.ListN.{length, set, replicate, length-append, length-map, length-set, length-replicate}
use lib.Dec.{ltb}
use borrow.Author.Tests.{le-leb, lt-leb, lt-ltb, le-ltb}
use Rattle.base.proofs.Choice.{cond_same}
use Rattle.base.specs.Fold.{list_from}
use Rattle.base.proofs.Folds.{fold_keeps, length-list_from}
use Rattle.page.specs.Plan.{places}
use Rattle.page.specs.Key.{positions}
use Rattle.page.specs.Entry.{none, free_letter, used_letter, deleted_letter}
use Rattle.image.proofs.Plays.{play_all_lem}
use Rattle.image.specs.Step.{Step, play, play_all}
use Rattle.store.specs.Reply.{Reply, Done, verdict, is_done, number_of}
use Rattle.store.specs.Record.{Record, with_numbers, map_size, key_of, live}
use Rattle.store.specs.Outcome.{Outcome, decided, Left, left}
use Rattle.store.specs.Find.{lowest_free, new_page, found_at}
use Rattle.store.specs.Format.{no_numbers, formatted, format_steps, format_tests, format_of}
use Rattle.store.specs.Mount.{chosen_commit, decision, mount_map, mount_letter, mount_scratch, mounted, mount_steps, mount_tests, fills, unmounted, mount_of}
use Rattle.store.specs.Write.{place_at, next_sequence, released, placed, append_steps, append_tests, append_of}
use Rattle.store.specs.Read.{content_of, filled, read_tests, read_of, read_length}
use Rattle.store.specs.CutOff.{rest_of, emptied, removed, cut_off_steps, cut_off_tests, cut_off_of}
use Rattle.store.specs.Commit.{Stage, begin, clean_letter, cleaned, keys_replaced, commit_replaced, dead_erased, commit_stages, commit_tests, commit_of}
use Rattle.store.specs.Gather.{live_pages, copied, copy_steps, copied_all, gather_tests, gather_of}
use Rattle.store.specs.Wipe.{removed_first, wipe_tests, wipe_of}
use Rattle.store.specs.Taken.{Buffers}
use Rattle.store.specs.declared.Numbers.{Numbers}
use Rattle.std.specs.Prelude.{Err}
use Rattle.store.specs.declared.Error.TheVariants.{PowerCut}
use Rattle.store.proofs.Verdicts.{done-false}

-- ---- taken or refused
-- the outcome of a call that was taken, and an outcome without steps
abbrev pub taken : List Step → Record → List ℕ → Outcome
taken steps after lent = record { reply = Done; steps = steps; after = after; lent = lent }

abbrev pub stepless : Reply → Record → List ℕ → Outcome
stepless v after lent = record { reply = v; steps = []; after = after; lent = lent }

module _ (v : Reply) (steps : List Step) (after : Record) (lent : List ℕ) (before : Record) (as_given : List ℕ) where
  pub decided_taken : v ≡ Done → decided v steps after lent before as_given ≡ taken steps after lent
  decided_taken e = ap (λ (w : Reply). decided w steps after lent before as_given) e

  pub decided-refused : is_done v ≡ false → decided v steps after lent before as_given ≡ stepless v before as_given
  decided-refused e = rw e

-- ---- format: refused, map and letters stay as lent, and the numbers are all 0
module _ (img map letters noise : List ℕ) where
  pub format_outcome : (format_of img map letters noise).reply ≡ Done → format_of img map letters noise ≡ taken (format_steps img noise) formatted []
  unfolding format_of
  format_outcome e = decided_taken _ _ _ _ _ _ e

  pub format_refused : is_done (format_of img map letters noise).reply ≡ false
      → format_of img map letters noise ≡ stepless (format_of img map letters noise).reply (record { map = map; letters = letters; numbers = no_numbers }) []
  unfolding format_of
  format_refused e = decided-refused _ _ _ _ _ _ e

-- ---- mount: refused with 1 or 2, all stays as lent; with 12 to 14, map, letters and scratch are filled; the numbers are all 0
module _ (img map letters scratch : List ℕ) where
  pub mount_outcome : (mount_of img map letters scratch).reply ≡ Done
      → mount_of img map letters scratch ≡ taken (mount_steps img) (mounted img) (mount_scratch img (found_at (chosen_commit img)))
  unfolding mount_of
  mount_outcome e = decided_taken _ _ _ _ _ _ e

  pub mount-refused : is_done (mount_of img map letters scratch).reply ≡ false
      → mount_of img map letters scratch
      ≡ stepless (mount_of img map letters scratch).reply (unmounted (mount_of img map letters scratch).reply map letters)
      (cond (fills (mount_of img map letters scratch).reply) (replicate places 0) scratch)
  unfolding mount_of
  mount-refused e = decided-refused _ _ _ _ _ _ e

  pub mount_as_lent : is_done (mount_of img map letters scratch).reply ≡ false → number_of (mount_of img map letters scratch).reply < 12
      → mount_of img map letters scratch
      ≡ stepless (mount_of img map letters scratch).reply (record { map = map; letters = letters; numbers = no_numbers }) scratch
  mount_as_lent e h =
      mount-refused e ∙ rw (lt-leb 12 (number_of (mount_of img map letters scratch).reply) h)

  pub mount-filled : 12 ≤ number_of (mount_of img map letters scratch).reply
      → mount_of img map letters scratch
      ≡ stepless (mount_of img map letters scratch).reply
      (record { map = replicate map_size none; letters = replicate positions deleted_letter; numbers = no_numbers })
      (replicate places 0)
  mount-filled h =
      mount-refused (done-false (mount_of img map letters scratch).reply (λ e. let z = ap number_of e in omega arith))
      ∙ rw (le-leb 12 (number_of (mount_of img map letters scratch).reply) h)

-- ---- write, read, cut-off, commit, wipe: refused, the record and the output stay as they were
module _ (img : List ℕ) (r : Record) (file offset : ℕ) (right : Bool) (second : ℕ) (bytes : List ℕ) where
  pub write_outcome : (append_of img r file offset right second bytes).reply ≡ Done
      → append_of img r file offset right second bytes
      ≡ taken (append_steps img r file offset second bytes) (placed r (place_at file offset) (found_at (new_page img r.numbers)) (found_at (lowest_free r.letters))) []
  unfolding append_of
  write_outcome e = decided_taken _ _ _ _ _ _ e

  pub write-refused : is_done (append_of img r file offset right second bytes).reply ≡ false
      → append_of img r file offset right second bytes ≡ stepless (append_of img r file offset right second bytes).reply r []
  unfolding append_of
  write-refused e = decided-refused _ _ _ _ _ _ e

module _ (img : List ℕ) (r : Record) (file offset : ℕ) (output : List ℕ) where
  pub read_outcome : (read_of img r file offset output).reply ≡ Done → read_of img r file offset output ≡ taken [] r (filled (content_of img r (place_at file offset)) output)
  unfolding read_of
  read_outcome e = decided_taken _ _ _ _ _ _ e

  -- taken or refused, it has no steps and leaves the record
  pub read_stepless : read_of img r file offset output
      ≡ stepless (read_of img r file offset output).reply r (read_of img r file offset output).lent
  unfolding read_of
  read_stepless =
      rw (
        cond_same (is_done (verdict (read_tests img r file offset output))) r,
        cond_same {A = List Step} (is_done (verdict (read_tests img r file offset output))) [],
      )

  -- the length that it reports
  pub read_length_lem : (read_of img r file offset output).reply ≡ Done → read_length img r file offset output ≡ length (content_of img r (place_at file offset))
  unfolding read_of read_length
  read_length_lem e = rw e

  pub read_no_length : is_done (read_of img r file offset output).reply ≡ false → read_length img r file offset output ≡ 0
  unfolding read_of read_length
  read_no_length e = rw e

  pub read-refused : is_done (read_of img r file offset output).reply ≡ false
      → read_of img r file offset output ≡ stepless (read_of img r file offset output).reply r output
  unfolding read_of
  read-refused e = decided-refused _ _ _ _ _ _ e

module _ (img : List ℕ) (r : Record) (file offset : ℕ) where
  pub cut_off_outcome : (cut_off_of img r file offset).reply ≡ Done
      → cut_off_of img r file offset
      ≡ taken (cut_off_steps img r file offset) (with_numbers (removed r file offset) (next_sequence r.numbers)) []
  unfolding cut_off_of
  cut_off_outcome e = decided_taken _ _ _ _ _ _ e

  pub cut_off-refused : is_done (cut_off_of img r file offset).reply ≡ false
      → cut_off_of img r file offset ≡ stepless (cut_off_of img r file offset).reply r []
  unfolding cut_off_of
  cut_off-refused e = decided-refused _ _ _ _ _ _ e

module _ (img : List ℕ) (r : Record) (noise : List ℕ) where
  pub commit_outcome : (commit_of img r noise).reply ≡ Done
      → commit_of img r noise
      ≡ taken (commit_stages noise (begin img (cleaned r))).steps (commit_stages noise (begin img (cleaned r))).after []
  unfolding commit_of
  commit_outcome e = decided_taken _ _ _ _ _ _ e

  pub commit-refused : is_done (commit_of img r noise).reply ≡ false → commit_of img r noise ≡ stepless (commit_of img r noise).reply r []
  unfolding commit_of
  commit-refused e = decided-refused _ _ _ _ _ _ e

module _ (img : List ℕ) (r : Record) (noise : List ℕ) (file offset : ℕ) where
  pub wipe_outcome : (wipe_of img r noise file offset).reply ≡ Done
      → wipe_of img r noise file offset
      ≡ taken (commit_stages noise (removed_first img r file offset)).steps (commit_stages noise (removed_first img r file offset)).after []
  unfolding wipe_of
  wipe_outcome e = decided_taken _ _ _ _ _ _ e

  pub wipe-refused : is_done (wipe_of img r noise file offset).reply ≡ false
      → wipe_of img r noise file offset ≡ stepless (wipe_of img r noise file offset).reply r []
  unfolding wipe_of
  wipe-refused e = decided-refused _ _ _ _ _ _ e

module _ (img : List ℕ) (r : Record) (block : ℕ) where
  pub gather_outcome : (gather_of img r block).reply ≡ Done
      → gather_of img r block ≡ taken (copy_steps block (live_pages r.map block) img r) (copied_all block (live_pages r.map block) img r) []
  unfolding gather_of
  gather_outcome e = decided_taken _ _ _ _ _ _ e

  pub gather-refused : is_done (gather_of img r block).reply ≡ false → gather_of img r block ≡ stepless (gather_of img r block).reply r []
  unfolding gather_of
  gather-refused e = decided-refused _ _ _ _ _ _ e

-- ---- with n and k
-- what stands after a reply
abbrev pub leaves : Reply → List ℕ → Record → List ℕ → Left
leaves v img after lent = record { reply = v; image = img; after = after; lent = lent }

module _ (n k : ℕ) (o : Outcome) (img : List ℕ) where
  -- n is at least the number of steps: the whole call
  pub left_whole_lem : length o.steps ≤ n → left n k o img ≡ leaves o.reply (play_all o.steps img) o.after o.lent
  unfolding left
  left_whole_lem h = rw (le-ltb n (length o.steps) h, play_all_lem n k o.steps img h)

  -- n is below it: a cut
  pub left_cut : n < length o.steps → left n k o img ≡ leaves (Err PowerCut) (play n k o.steps img) o.after o.lent
  unfolding left
  left_cut h = rw (lt-ltb n (length o.steps) h)

-- a call that was taken, by its steps
pub left_taken : (n k : ℕ) {o : Outcome} {steps : List Step} {after : Record} {lent : List ℕ} (img : List ℕ) → o ≡ taken steps after lent
    → left n k o img ≡ leaves (cond (ltb n (length steps)) (Err PowerCut) Done) (play n k steps img) after lent
unfolding left
left_taken n k img e = ap (λ (p : Outcome). left n k p img) e

-- a call without steps cannot be cut, and leaves the image as it was: every refused call, and each read
pub left_stepless : (n k : ℕ) {o : Outcome} {v : Reply} {after : Record} {lent : List ℕ} (img : List ℕ) → o ≡ stepless v after lent
    → left n k o img ≡ leaves v img after lent
unfolding left play
left_stepless n k img e = ap (λ (p : Outcome). left n k p img) e ∙ rw (le-ltb n 0 (omega arith))

-- ---- lent buffers keep their lengths
-- map and letters of s are as long as those of r
pub record AsLong (r s : Record) : Type 0 where
  pub map_kept : length s.map ≡ length r.map
  pub letters_kept : length s.letters ≡ length r.letters

-- map and letters of the right length
abbrev pub Full : Record → Type 0
Full r = Buffers r.map r.letters

pub still_full : (r s : Record) → AsLong r s → Full r → Full s
still_full r s k b = record { map_full = k.map_kept ∙ b.map_full; letters_full = k.letters_kept ∙ b.letters_full }

unchanged : (r : Record) → AsLong r r
unchanged r = record { map_kept = refl; letters_kept = refl }

onward-kept : {r s t : Record} → AsLong r s → AsLong s t → AsLong r t
onward-kept a b = record { map_kept = b.map_kept ∙ a.map_kept; letters_kept = b.letters_kept ∙ a.letters_kept }

pub released-length : (map letters : List ℕ) (x : ℕ) → length (released map letters x) ≡ length letters
released-length map letters x = go (live map x)
  where
    go : (b : Bool) → length (cond b (set letters (key_of map x) deleted_letter) letters) ≡ length letters
    go true = length-set letters (key_of map x) deleted_letter
    go false = refl

pub placed-as_long : (r : Record) (x g p : ℕ) → AsLong r (placed r x g p)
placed-as_long r x g p =
    record {
      map_kept = length-set (set r.map x g) (places + x) p ∙ length-set r.map x g;
      letters_kept = length-set (released r.map r.letters x) p used_letter ∙ released-length r.map r.letters x;
    }

pub emptied-as_long : (x : ℕ) (r : Record) → AsLong r (emptied x r)
emptied-as_long x r =
    record {
      map_kept = length-set (set r.map x none) (places + x) none ∙ length-set r.map x none;
      letters_kept = released-length r.map r.letters x;
    }

pub removed-as_long : (r : Record) (file offset : ℕ) → AsLong r (removed r file offset)
unfolding removed
removed-as_long r file offset =
    fold_keeps (AsLong r) emptied (rest_of file offset) (place_at file offset) r (λ j t a b k. onward-kept k (emptied-as_long j t)) (unchanged r)

pub cleaned-as_long : (r : Record) → AsLong r (cleaned r)
cleaned-as_long r = record { map_kept = refl; letters_kept = length-map r.letters clean_letter }

-- ---- the record after the stages of a commit, and after a wipe's first commit block
module _ (noise : List ℕ) (s : Stage) where
  pub stages_map : (commit_stages noise s).after.map ≡ s.after.map
  unfolding commit_stages dead_erased commit_replaced keys_replaced
  stages_map = refl

  pub stages_letters : (commit_stages noise s).after.letters ≡ s.after.letters
  unfolding commit_stages dead_erased commit_replaced keys_replaced
  stages_letters = refl

  pub stages_sequence : (commit_stages noise s).after.numbers.sequence ≡ s.after.numbers.sequence
  unfolding commit_stages dead_erased commit_replaced keys_replaced
  stages_sequence = refl

  pub stages_epoch : (commit_stages noise s).after.numbers.epoch ≡ s.after.numbers.epoch + 1
  unfolding commit_stages dead_erased commit_replaced keys_replaced
  stages_epoch = refl

module _ (img : List ℕ) (r : Record) (file offset : ℕ) where
  pub first_map : (removed_first img r file offset).after.map ≡ (removed r file offset).map
  unfolding removed_first commit_replaced
  first_map = refl

  pub first_letters : (removed_first img r file offset).after.letters ≡ map clean_letter (removed r file offset).letters
  unfolding removed_first commit_replaced
  first_letters = refl

-- ---- each call
either : {A : Type 0} (P : A → Type 0) (b : Bool) (s t : A) → P s → P t → P (cond b s t)
either P true s t p q = p
either P false s t p q = q

renumbered_as_long : {r s : Record} (n : Numbers) → AsLong r s → AsLong r (with_numbers s n)
renumbered_as_long n k = record { map_kept = k.map_kept; letters_kept = k.letters_kept }

stages_as_long : (noise : List ℕ) (s : Stage) → AsLong s.after (commit_stages noise s).after
stages_as_long noise s = record { map_kept = ap length (stages_map noise s); letters_kept = ap length (stages_letters noise s) }

pub first_as_long : (img : List ℕ) (r : Record) (file offset : ℕ) → AsLong r (removed_first img r file offset).after
first_as_long img r file offset =
    onward-kept (removed-as_long r file offset)
    (record {
      map_kept = ap length (first_map img r file offset);
      letters_kept = ap length (first_letters img r file offset) ∙ length-map (removed r file offset).letters clean_letter;
    })

pub write-as_long : (img : List ℕ) (r : Record) (file offset : ℕ) (right : Bool) (second : ℕ) (bytes : List ℕ) → AsLong r (append_of img r file offset right second bytes).after
unfolding append_of
write-as_long img r file offset right second bytes =
    either (AsLong r) (is_done (verdict (append_tests img r file offset right))) _ _
    (placed-as_long r (place_at file offset) (found_at (new_page img r.numbers)) (found_at (lowest_free r.letters)))
    (unchanged r)

copies_as_long : (block : ℕ) (gs img : List ℕ) (r : Record) → AsLong r (copied_all block gs img r)
unfolding copied_all copied
copies_as_long block [] img r = unchanged r
copies_as_long block (g ∷ gs) img r = onward-kept (record { map_kept = length-set r.map _ _; letters_kept = refl }) (copies_as_long block gs _ _)

pub gather-as_long : (img : List ℕ) (r : Record) (block : ℕ) → AsLong r (gather_of img r block).after
unfolding gather_of
gather-as_long img r block =
    either (AsLong r) (is_done (verdict (gather_tests img r block))) _ _ (copies_as_long block (live_pages r.map block) img r) (unchanged r)

pub cut_off-as_long : (img : List ℕ) (r : Record) (file offset : ℕ) → AsLong r (cut_off_of img r file offset).after
unfolding cut_off_of
cut_off-as_long img r file offset =
    either (AsLong r) (is_done (verdict (cut_off_tests img r file offset))) _ _
    (renumbered_as_long (next_sequence r.numbers) (removed-as_long r file offset))
    (unchanged r)

pub commit-as_long : (img : List ℕ) (r : Record) (noise : List ℕ) → AsLong r (commit_of img r noise).after
unfolding commit_of
commit-as_long img r noise =
    either (AsLong r) (is_done (verdict (commit_tests img r noise))) _ _ (onward-kept (cleaned-as_long r) (stages_as_long noise (begin img (cleaned r)))) (unchanged r)

pub wipe-as_long : (img : List ℕ) (r : Record) (noise : List ℕ) (file offset : ℕ) → AsLong r (wipe_of img r noise file offset).after
unfolding wipe_of
wipe-as_long img r noise file offset =
    either (AsLong r) (is_done (verdict (wipe_tests img r noise file offset))) _ _ (onward-kept (first_as_long img r file offset) (stages_as_long noise (removed_first img r file offset))) (unchanged r)

-- format and mount
pub formatted-full : Full formatted
formatted-full = record { map_full = length-replicate map_size none; letters_full = length-replicate positions free_letter }

pub mounted-full : (img : List ℕ) → Full (mounted img)
unfolding mounted mount_map
mounted-full img =
    let c = found_at (chosen_commit img) in
    record {
      map_full = length-append (list_from (λ x. (decision img c x).page) places 0) _ ∙ rw (length-list_from (λ x. (decision img c x).page) places 0, length-list_from (λ x. (decision img c x).key) places 0);
      letters_full = length-list_from (mount_letter img c) positions 0;
    }

pub scratch_full_lem : (img : List ℕ) (c : ℕ) → length (mount_scratch img c) ≡ places
unfolding mount_scratch
scratch_full_lem img c = length-list_from (λ x. (decision img c x).sequence) places 0

unmounted-full : (v : Reply) (map letters : List ℕ) → Buffers map letters → Full (unmounted v map letters)
unmounted-full v map letters b = go (fills v)
  where
    go : (f : Bool) → Buffers (cond f (replicate map_size none) map) (cond f (replicate positions deleted_letter) letters)
    go true = record { map_full = length-replicate map_size none; letters_full = length-replicate positions deleted_letter }
    go false = b

pub format_full : (img map letters noise : List ℕ) → Buffers map letters
    → Full (format_of img map letters noise).after
unfolding format_of
format_full img map letters noise b =
    either Full (is_done (verdict (format_tests img map letters noise))) formatted (record { map = map; letters = letters; numbers = no_numbers }) formatted-full b

pub mount-full : (img map letters scratch : List ℕ) → Buffers map letters
    → Full (mount_of img map letters scratch).after
unfolding mount_of
mount-full img map letters scratch b =
    let v = verdict (mount_tests img map letters scratch) in
    either Full (is_done v) (mounted img) (unmounted v map letters) (mounted-full img) (unmounted-full v map letters b)

pub mount_scratch-full : (img map letters scratch : List ℕ) → length scratch ≡ places → length (mount_of img map letters scratch).lent ≡ places
unfolding mount_of
mount_scratch-full img map letters scratch h =
    let v = verdict (mount_tests img map letters scratch) in
    let c = found_at (chosen_commit img) in
    either Long (is_done v) (mount_scratch img c) (cond (fills v) (replicate places 0) scratch) (scratch_full_lem img c)
    (either Long (fills v) (replicate places 0) scratch (length-replicate {A = ℕ} places 0) h)
  where
    Long : List ℕ → Type 0
    Long xs = length xs ≡ places
