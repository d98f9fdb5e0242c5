-- Document 01, "Calls and their refusals": Mount. A decision for each place and each position, then the blocks to erase.
use Rattle.std.specs.Prelude.{ℕ, ◌+◌, ◌/◌, ◌%◌, max, Bool, false, cond, not, ◌&&◌, ◌||◌, List, [], ◌∷◌, ◌++◌, map, length, get_or, replicate, eqb, leb, ltb, Option, Some, None, Err}
use Rattle.base.specs.Part.{part}
use Rattle.base.specs.Search.{all_from, any_from, which_from, highest_from}
use Rattle.base.specs.Fold.{fold_from, list_from}
use Rattle.page.specs.Frame.{payload_size}
use Rattle.page.specs.Plan.{file_plan, places, count_of, start_of, place_of}
use Rattle.page.specs.Header.{node_letter, cut_off_letter, is_event_letter}
use Rattle.page.specs.Key.{positions}
use Rattle.page.specs.Entry.{none, free_letter, used_letter, deleted_letter, entry_size, entry_part, entry_at, entry_of}
use Rattle.page.specs.Page.{payload_of}
use Rattle.page.specs.declared.Frame.{Frame}
use Rattle.page.specs.declared.Form.{Form}
use Rattle.page.specs.declared.Form.TheVariants.{Empty, Whole, Torn, Spoilt}
use Rattle.page.specs.declared.Entry.{Entry}
use Rattle.page.specs.declared.Entry.TheVariants.{At as EntryAt, Vacant, Misspelt}
use Rattle.image.specs.Size.{size_right, pages_in_block, blocks, pages}
use Rattle.image.specs.Look.{page_at, form_at}
use Rattle.image.specs.Step.{Step, erase}
use Rattle.store.specs.Reply.{Reply, Test, ◌else◌, verdict, number_of}
use Rattle.store.specs.Kind.{page_in, kind_of, keys_epoch, commit_epoch, covered_by, is_data, is_chosen}
use Rattle.store.specs.Record.{Record, map_size, is_at, is_dead, place_fits, named_times, keys_apart}
use Rattle.store.specs.Outcome.{Outcome, Left, decided}
use Rattle.store.specs.Find.{is_found, found_at}
use Rattle.store.specs.Format.{buffers_right, no_numbers}
use Rattle.store.specs.declared.Numbers.{Numbers}
use Rattle.store.specs.declared.Error.TheVariants.{ImageSize, BufferLength, NoKeyBlock, NoCommit, EntryUnfit}

-- ---- the chosen blocks: highest epoch, on a tie the lower block
abbrev pub rank_of : (ℕ → ℕ) → Option ℕ → ℕ
rank_of rank (Some b) = rank b
rank_of rank None = 0

-- the number below n of highest rank, the lowest of those; none where all ranks are 0
unfoldable pub foremost : (ℕ → ℕ) → ℕ → Option ℕ
foremost rank n = fold_from (λ b best. cond (ltb (rank_of rank best) (rank b)) (Some b) best) n 0 None

unfoldable pub chosen_commit : List ℕ → Option ℕ
chosen_commit img = foremost (λ b. commit_epoch (kind_of img b)) (blocks img)

unfoldable pub chosen_keys : List ℕ → ℕ → Option ℕ
chosen_keys img q = foremost (λ b. keys_epoch q (kind_of img b)) (blocks img)

-- ---- what the commit in block c says: the covered sequence, a letter for each position, an entry for each place
unfoldable pub covered_in : List ℕ → ℕ → ℕ
covered_in img c = covered_by (kind_of img c)

unfoldable pub letter_in : List ℕ → ℕ → ℕ → ℕ
letter_in img c p = get_or (payload_of (page_at img (page_in c (p / payload_size)))) (p % payload_size) 0

unfoldable pub entry_in : List ℕ → ℕ → ℕ → Entry
entry_in img c x = entry_of (part (payload_of (page_at img (page_in c (entry_part x)))) (entry_at x) entry_size)

-- ---- what decides a place: the sequence of its event, or 0 for the commit's entry; and the page and key that it gives
pub record Decision : Type 0 where
  pub sequence : ℕ
  pub page : ℕ
  pub key : ℕ

abbrev pub by_entry : Entry → Decision
by_entry (EntryAt page key) = record { sequence = 0; page = page; key = key }
by_entry Vacant = record { sequence = 0; page = none; key = none }
by_entry Misspelt = record { sequence = 0; page = none; key = none }

-- a cut-off removes the places of its file from its offset on
unfoldable pub removes : ℕ → ℕ → ℕ → Bool
removes file offset x =
    leb (start_of file_plan file + offset) x && ltb x (start_of file_plan file + count_of file_plan file)

-- a header that sets or removes place x
unfoldable pub sets : ℕ → Frame → Bool
sets x f = eqb f.kind node_letter && is_at x (place_of file_plan f.unit f.part)

unfoldable pub cuts : ℕ → Frame → Bool
cuts x f = eqb f.kind cut_off_letter && removes f.unit f.part x

-- the event of a whole page g decides where its sequence is above the covered one and none seen before is higher: ties to the higher page
abbrev pub decide_by : ℕ → ℕ → ℕ → Form → Decision → Decision
decide_by s x g Empty d = d
decide_by s x g (Torn f) d = d
decide_by s x g Spoilt d = d
decide_by s x g (Whole f) d =
    cond (ltb s f.number && leb d.sequence f.number)
    (cond (sets x f) (record { sequence = f.number; page = g; key = f.key })
    (cond (cuts x f) (record { sequence = f.number; page = none; key = none }) d))
    d

-- all pages in order against what the commit's entry gives the place
unfoldable pub decision : List ℕ → ℕ → ℕ → Decision
decision img c x = fold_from (λ g. decide_by (covered_in img c) x g (form_at img g)) (pages img) 0 (by_entry (entry_in img c x))

unfoldable pub mount_map : List ℕ → ℕ → List ℕ
mount_map img c = list_from (λ x. (decision img c x).page) places 0 ++ list_from (λ x. (decision img c x).key) places 0

-- what the scratch gets: the sequence that decided, 0 where none did
unfoldable pub mount_scratch : List ℕ → ℕ → List ℕ
mount_scratch img c = list_from (λ x. (decision img c x).sequence) places 0

-- entries are looked at only where they decide; there the place must pass the record's own test
unfoldable pub entries_fit : List ℕ → ℕ → Bool
entries_fit img c = all_from (λ x. not (eqb (decision img c x).sequence 0) || place_fits img (mount_map img c) x) places 0

-- ---- letters
-- a node's header above the covered sequence, its page whole or not, with position p
abbrev pub spends : ℕ → ℕ → Form → Bool
spends s p Empty = false
spends s p (Whole f) = eqb f.kind node_letter && ltb s f.number && eqb f.key p
spends s p (Torn f) = eqb f.kind node_letter && ltb s f.number && eqb f.key p
spends s p Spoilt = false

unfoldable pub is_spent : List ℕ → ℕ → ℕ → Bool
is_spent img c p = any_from (λ g. spends (covered_in img c) p (form_at img g)) (pages img) 0

-- the letter of a position that no live node names: free if its letter was f and no such page names it, else deleted
abbrev pub unused_letter : List ℕ → ℕ → ℕ → ℕ
unused_letter img c p = cond (not (eqb (letter_in img c p) free_letter) || is_spent img c p) deleted_letter free_letter

-- used if a live node names it
unfoldable pub mount_letter : List ℕ → ℕ → ℕ → ℕ
mount_letter img c p = cond (leb 1 (named_times (mount_map img c) p)) used_letter (unused_letter img c p)

-- ---- next numbers: one above the highest
abbrev pub sequence_of : Form → ℕ
sequence_of Empty = 0
sequence_of (Whole f) = cond (is_event_letter f.kind) f.number 0
sequence_of (Torn f) = cond (is_event_letter f.kind) f.number 0
sequence_of Spoilt = 0

abbrev pub epoch_of : List ℕ → ℕ → ℕ
epoch_of img b = max (commit_epoch (kind_of img b)) (max (keys_epoch 0 (kind_of img b)) (keys_epoch 1 (kind_of img b)))

unfoldable pub mount_numbers : List ℕ → Numbers
mount_numbers img =
    let c = found_at (chosen_commit img) in
    record {
      sequence = max (covered_in img c) (highest_from (λ g. sequence_of (form_at img g)) (pages img) 0) + 1;
      epoch = highest_from (epoch_of img) (blocks img) 0 + 1;
      keys0 = found_at (chosen_keys img 0);
      keys1 = found_at (chosen_keys img 1);
      commit = c;
    }

unfoldable pub mounted : List ℕ → Record
mounted img =
    let c = found_at (chosen_commit img) in
    record { map = mount_map img c; letters = list_from (mount_letter img c) positions 0; numbers = mount_numbers img }

-- ---- the blocks that mount erases, in one pass, in order (document 02, #106)
-- strays: neither chosen nor data, empty ones included, since one that reads FFh may be unsettled
unfoldable pub is_stray : List ℕ → Numbers → ℕ → Bool
is_stray img r b = not (is_chosen r b) && not (is_data img r b)

-- a whole or torn N or D header of block b is above sequence s
abbrev pub has_above : List ℕ → ℕ → ℕ → Bool
has_above img s b = any_from (λ i. ltb s (sequence_of (form_at img (page_in b i)))) pages_in_block 0

-- a data block without a live page, and with no header above the sequence that the commit covers
unfoldable pub is_covered_dead : List ℕ → Record → ℕ → Bool
is_covered_dead img r b = is_dead img r b && not (has_above img (covered_in img r.numbers.commit) b)

unfoldable pub is_swept : List ℕ → Record → ℕ → Bool
is_swept img r b = is_stray img r.numbers b || is_covered_dead img r b

unfoldable pub mount_steps : List ℕ → List Step
mount_steps img = map erase (which_from (is_swept img (mounted img)) (blocks img) 0)

-- ---- the call
abbrev pub mount_tests : List ℕ → List ℕ → List ℕ → List ℕ → List Test
mount_tests img map letters scratch =
    let c = found_at (chosen_commit img) in
    (size_right img else ImageSize)
    ∷ (buffers_right map letters && eqb (length scratch) places else BufferLength)
    ∷ (is_found (chosen_commit img) else NoCommit)
    ∷ (is_found (chosen_keys img 0) && is_found (chosen_keys img 1) else NoKeyBlock)
    ∷ (entries_fit img c && keys_apart (mount_map img c) else EntryUnfit)
    ∷ []

-- the first two of these tests, and the two of the blocks
abbrev pub size_tests : List ℕ → List ℕ → List ℕ → List ℕ → List Test
size_tests img map letters scratch =
    (size_right img else ImageSize)
    ∷ (buffers_right map letters && eqb (length scratch) places else BufferLength)
    ∷ []

abbrev pub block_tests : Option ℕ → Option ℕ → Option ℕ → List Test
block_tests commit keys0 keys1 =
    (is_found commit else NoCommit)
    ∷ (is_found keys0 && is_found keys1 else NoKeyBlock)
    ∷ []

-- where the lengths are right a refusal leaves nothing of a record: no page, no key, every letter d. Numbers are 0 after any refusal
abbrev pub fills : Reply → Bool
fills v = leb (number_of (Err NoKeyBlock)) (number_of v)

abbrev pub unmounted : Reply → List ℕ → List ℕ → Record
unmounted v map letters =
    record {
      map = cond (fills v) (replicate map_size none) map;
      letters = cond (fills v) (replicate positions deleted_letter) letters;
      numbers = no_numbers;
    }

unfoldable pub mount_of : List ℕ → List ℕ → List ℕ → List ℕ → Outcome
mount_of img map letters scratch =
    let v = verdict (mount_tests img map letters scratch) in
    decided v (mount_steps img) (mounted img) (mount_scratch img (found_at (chosen_commit img)))
    (unmounted v map letters) (cond (fills v) (replicate places 0) scratch)

-- what a mount leaves, whole or cut: the equation of its contracts
abbrev pub mount_leaves : (Outcome → List ℕ → Left) → List ℕ → List ℕ → List ℕ → List ℕ → Left
mount_leaves form img map letters scratch = form (mount_of img map letters scratch) img
