-- Steps are told by the image that the call leaves, though the erase of an empty block changes no byte: mount's by `mount_steps_seen`,
-- format's by `format_steps_seen`.
use Prim.Native.Nat.{ℕ, ◌+◌, ◌*◌, ◌/◌, ◌<◌, ◌≤◌}
use native.Mathlib.Omega.{arith}
use mathlib.Core.Path.{◌≡◌, refl, sym, ap, ◌∙◌}
use mathlib.Core.Bool.{Bool, true, false}
use mathlib.Core.List.{List, ◌++◌, map as each}
use lib.ListN.{length}
use Rattle.base.specs.Each.{Each}
use Rattle.base.specs.Fold.{list_from}
use Rattle.base.specs.Search.{which_from}
use Rattle.base.proofs.Choice.{true-false}
use Rattle.base.proofs.Folds.{list_from_agree}
use Rattle.base.proofs.Searches.{which_agree}
use Rattle.page.specs.Frame.{page_size}
use Rattle.page.specs.Key.{key_in_noise}
use Rattle.page.specs.Entry.{parts}
use Rattle.image.specs.Size.{block_size, pages_in_block, blocks}
use Rattle.image.specs.Look.{page_at, block_at, block_empty}
use Rattle.image.specs.Step.{Step, program, erase, Inside, play_all}
use Rattle.image.specs.Block.{key_block_page, key_block_steps, commit_block_page, commit_block_steps}
use Rattle.image.proofs.Step.{page_of-same}
use Rattle.image.proofs.Plays.{play_all-append, play_all-length, block_play_all_other}
use Rattle.image.proofs.Rows.{row_steps, row_in_no_other, row_inside, row-page-done}
use Rattle.image.proofs.KeyBlock.{key_page-size, key_in_noise-length}
use Rattle.image.proofs.CommitBlock.{commit_page-size}
use Rattle.image.proofs.Empties.{block_empty-same}
use Rattle.image.proofs.Looks.{sized}
use Rattle.store.specs.Kind.{is_chosen, is_data}
use Rattle.store.specs.Format.{first_epoch, formatted, format_steps, format_of}
use Rattle.store.specs.Mount.{mounted, is_stray, is_swept, mount_steps, mount_of}
use Rattle.store.specs.Outcome.{Outcome, left_whole}
use Rattle.store.specs.Reply.{Done}
use Rattle.store.proofs.Verdicts.{format_taken_lem, mount_taken}
use Rattle.store.proofs.Outcomes.{format_outcome, mount_outcome, formatted-full}
use Rattle.store.proofs.LegalSteps.{blank_length}
use Rattle.store.proofs.Mounts.{mounted-fit}
use Rattle.store.proofs.Gathers.{data_filled}
use Rattle.store.proofs.GatherRooms.{chosen_full_lem}
use Rattle.store.proofs.Remounts.{left_swept}

-- ---- mount
module _ (img map letters scratch : List ℕ) (done : (mount_of img map letters scratch).reply ≡ Done) where
  abbrev left : List ℕ
  left = (left_whole (mount_of img map letters scratch) img).image

  -- a block that mount leaves alone is not empty
  kept_full : (b : ℕ) → is_swept img (mounted img) b ≡ false → block_empty img b ≡ false
  unfolding is_swept is_stray
  kept_full b e = go (is_chosen (mounted img).numbers b) (is_data img (mounted img).numbers b) refl refl
    where
      go : (u v : Bool) → is_chosen (mounted img).numbers b ≡ u → is_data img (mounted img).numbers b ≡ v → block_empty img b ≡ false
      go true v p q =
          let t = mount_taken img map letters scratch done in
          chosen_full_lem img (mounted img) 0 (mounted-fit img t.commit_there t.keys0_there t.keys1_there t.entries t.apart) b p
      go false true p q = data_filled img (mounted img).numbers b q
      go false false p q = absurd (true-false (rw (p, q)) e)

  empty_then_lem : (b : ℕ) → b < blocks img → is_swept img (mounted img) b ≡ block_empty left b
  empty_then_lem b h = go (is_swept img (mounted img) b) refl
    where
      go : (t : Bool) → is_swept img (mounted img) b ≡ t → t ≡ block_empty left b
      go true e = sym ((left_swept img map letters scratch done).gone b h e)
      go false e = sym (block_empty-same img left b ((left_swept img map letters scratch done).kept b e) ∙ kept_full b e)

  -- its steps are the erases of the blocks that are empty then, in order
  pub mount_steps_seen : (mount_of img map letters scratch).steps ≡ each erase (which_from (block_empty left) (blocks left) 0)
  unfolding mount_steps
  mount_steps_seen =
      let count : blocks left ≡ blocks img = ap (λ (n : ℕ). n / block_size) (left_swept img map letters scratch done).size in
      ap (λ (o : Outcome). o.steps) (mount_outcome img map letters scratch done)
      ∙ rw count (ap (each erase) (which_agree (is_swept img (mounted img)) (block_empty left) (blocks img) 0 (λ b _ h. empty_then_lem b (omega arith))))

-- ---- format
-- the programs of the first n pages of block b, with the bytes that stand there
abbrev pub programs_of : List ℕ → ℕ → ℕ → List Step
programs_of now b n = list_from (λ i. program (b * pages_in_block + i) (page_at now (b * pages_in_block + i))) n 0

-- pages of block b in a row, from page 0 on, on an image that has the block
module _ (b : ℕ) (page : ℕ → List ℕ) (sizes : (i : ℕ) → i < pages_in_block → length (page i) ≡ page_size) (n : ℕ) (few : n ≤ pages_in_block)
    (img : List ℕ) (f : b * block_size + block_size ≤ length img) where
  abbrev row : List Step
  row = row_steps b page n 0

  inside : Each (Inside (length img)) row
  inside = row_inside b page sizes (length img) n 0 f (omega arith)

  row-length : length (play_all row img) ≡ length img
  row-length = play_all-length row img inside

  row_other : (c : ℕ) → (c ≡ b → ⊥) → block_at (play_all row img) c ≡ block_at img c
  row_other c o = block_play_all_other row img c inside (row_in_no_other b page n 0 c (omega arith) o)

  -- they are told by an image in which the block stands as they left it
  row_seen : (now : List ℕ) → block_at now b ≡ block_at (play_all row img) b → row ≡ programs_of now b n
  row_seen now e = list_from_agree _ _ n 0 (λ i _ h. ap (program (b * pages_in_block + i)) (sym (stands i (omega arith))))
    where
      stands : (i : ℕ) → i < n → page_at now (b * pages_in_block + i) ≡ page i
      stands i h =
          let z : (b * pages_in_block + i) / pages_in_block ≡ b = omega arith in
          page_of-same (play_all row img) now (b * pages_in_block + i) (rw z e) ∙ row-page-done b page sizes n img few f i h

-- such rows in blocks 0, 1 and 2, one after the other: a row leaves the other blocks as they are
module _ (keys0 keys1 commit : ℕ → List ℕ) (sizes0 : (i : ℕ) → i < pages_in_block → length (keys0 i) ≡ page_size)
    (sizes1 : (i : ℕ) → i < pages_in_block → length (keys1 i) ≡ page_size) (sizes2 : (i : ℕ) → i < pages_in_block → length (commit i) ≡ page_size)
    (img : List ℕ) (room : 3 * block_size ≤ length img) where
  abbrev rows : List Step
  rows = row_steps 0 keys0 pages_in_block 0 ++ (row_steps 1 keys1 pages_in_block 0 ++ row_steps 2 commit parts 0)

  abbrev first : List ℕ
  first = play_all (row_steps 0 keys0 pages_in_block 0) img

  abbrev second : List ℕ
  second = play_all (row_steps 1 keys1 pages_in_block 0) first

  abbrev third : List ℕ
  third = play_all (row_steps 2 commit parts 0) second

  first_length : length first ≡ length img
  first_length = row-length 0 keys0 sizes0 pages_in_block (omega arith) img (omega arith)

  first_room : 1 * block_size + block_size ≤ length first
  first_room = omega (arith, first_length)

  second-length : length second ≡ length first
  second-length = row-length 1 keys1 sizes1 pages_in_block (omega arith) first first_room

  second_other : (c : ℕ) → (c ≡ 1 → ⊥) → block_at second c ≡ block_at first c
  second_other = row_other 1 keys1 sizes1 pages_in_block (omega arith) first first_room

  second-room : 2 * block_size + block_size ≤ length second
  second-room = omega (arith, first_length, second-length)

  third_other : (c : ℕ) → (c ≡ 2 → ⊥) → block_at third c ≡ block_at second c
  third_other = row_other 2 commit sizes2 parts (omega arith) second second-room

  rows_third : play_all rows img ≡ third
  rows_third =
      play_all-append (row_steps 0 keys0 pages_in_block 0) (row_steps 1 keys1 pages_in_block 0 ++ row_steps 2 commit parts 0) img
      ∙ play_all-append (row_steps 1 keys1 pages_in_block 0) (row_steps 2 commit parts 0) first

  rows_length : length (play_all rows img) ≡ length img
  rows_length = ap (λ (xs : List ℕ). length xs) rows_third ∙ row-length 2 commit sizes2 parts (omega arith) second second-room ∙ second-length ∙ first_length

  rows_seen : (now : List ℕ) → now ≡ play_all rows img → rows ≡ programs_of now 0 pages_in_block ++ (programs_of now 1 pages_in_block ++ programs_of now 2 parts)
  rows_seen now e =
      let as_third : (b : ℕ) → block_at now b ≡ block_at third b = λ b. ap (λ (xs : List ℕ). block_at xs b) (e ∙ rows_third) in
      let seen0 = row_seen 0 keys0 sizes0 pages_in_block (omega arith) img (omega arith) now
      (as_third 0 ∙ third_other 0 (λ z. omega arith) ∙ second_other 0 (λ z. omega arith)) in
      let seen1 = row_seen 1 keys1 sizes1 pages_in_block (omega arith) first first_room now (as_third 1 ∙ third_other 1 (λ z. omega arith)) in
      let seen2 = row_seen 2 commit sizes2 parts (omega arith) second second-room now (as_third 2) in
      rw (seen0, seen1, seen2)

module _ (img map letters noise : List ℕ) (done : (format_of img map letters noise).reply ≡ Done) where
  abbrev now : List ℕ
  now = (left_whole (format_of img map letters noise) img).image

  abbrev blank : List ℕ
  blank = play_all (list_from erase (blocks img) 0) img

  abbrev keys_of : ℕ → ℕ → List ℕ
  keys_of q = key_block_page first_epoch q (key_in_noise noise)

  abbrev entries : ℕ → List ℕ
  entries = commit_block_page first_epoch 0 formatted.map formatted.letters

  abbrev fills : List Step
  fills = row_steps 0 (keys_of 0) pages_in_block 0 ++ (row_steps 1 (keys_of 1) pages_in_block 0 ++ row_steps 2 entries parts 0)

  blank_room : 3 * block_size ≤ length blank
  blank_room = omega (arith, (sized img (format_taken_lem img map letters noise done).size).fewest, blank_length img)

  keys_sizes : (q : ℕ) → q < 2 → (i : ℕ) → i < pages_in_block → length (keys_of q i) ≡ page_size
  keys_sizes q h =
      key_page-size first_epoch q (key_in_noise noise) (λ p l. key_in_noise-length noise p (format_taken_lem img map letters noise done).noise_full l) h

  entries_sizes : (i : ℕ) → i < pages_in_block → length (entries i) ≡ page_size
  entries_sizes = commit_page-size first_epoch 0 formatted.map formatted.letters formatted-full.letters_full

  steps_are : (format_of img map letters noise).steps ≡ list_from erase (blocks img) 0 ++ fills
  unfolding format_steps key_block_steps commit_block_steps
  steps_are = ap (λ (o : Outcome). o.steps) (format_outcome img map letters noise done)

  now_is : now ≡ play_all fills blank
  unfolding left_whole
  now_is = ap (λ (ss : List Step). play_all ss img) steps_are ∙ play_all-append (list_from erase (blocks img) 0) fills img

  now_blocks : blocks now ≡ blocks img
  now_blocks =
      let l : length (play_all fills blank) ≡ length blank =
      rows_length (keys_of 0) (keys_of 1) entries (keys_sizes 0 (omega arith)) (keys_sizes 1 (omega arith)) entries_sizes blank blank_room in
      ap (λ (n : ℕ). n / block_size) (ap (λ (xs : List ℕ). length xs) now_is ∙ l ∙ blank_length img)

  -- its steps are the erases of all blocks, then the programs of the pages of blocks 0 and 1 and of the parts in block 2, with what stands there then
  pub format_steps_seen : (format_of img map letters noise).steps
      ≡ list_from erase (blocks now) 0 ++ (programs_of now 0 pages_in_block ++ (programs_of now 1 pages_in_block ++ programs_of now 2 parts))
  format_steps_seen =
      let seen : fills ≡ programs_of now 0 pages_in_block ++ (programs_of now 1 pages_in_block ++ programs_of now 2 parts) =
      rows_seen (keys_of 0) (keys_of 1) entries (keys_sizes 0 (omega arith)) (keys_sizes 1 (omega arith)) entries_sizes blank blank_room now now_is in
      steps_are ∙ ap (λ (n : ℕ). list_from erase n 0 ++ fills) (sym now_blocks) ∙ ap (λ (ss : List Step). list_from erase (blocks now) 0 ++ ss) seen
