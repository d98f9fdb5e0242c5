-- A mount that is cut. Where the power of a commit fails among the pages of its first copy, the block that the copy began in is neither chosen nor data:
-- the next mount has to erase it, and a mount without power for a step is cut.
use Prim.Native.Nat.{ℕ, zero, suc, ◌+◌, ◌<◌}
use native.Mathlib.Omega.{arith}
use mathlib.Core.Path.{◌≡◌, sym, ap, subst, ◌∙◌}
use mathlib.Core.Bool.{true, false, ◌&&◌, ◌||◌}
use mathlib.Core.List.{List, [], ◌∷◌, map}
use lib.Dec.{T, eqb, leb, ltb}
use lib.ListN.{length}
use borrow.Author.Tests.{lt-ltb, le-ltb, ne_eqb}
use Rattle.base.specs.Each.{Each}
use Rattle.base.proofs.Folds.{length-list_from}
use Rattle.base.proofs.Searches.{count_some}
use Rattle.page.specs.Frame.{page_size}
use Rattle.page.specs.Header.{keys_frame}
use Rattle.page.specs.Key.{positions, key_block}
use Rattle.image.specs.Size.{block_size, pages_in_block, blocks}
use Rattle.image.specs.Look.{block_at, block_empty, lowest_empty}
use Rattle.image.specs.Block.{renewed_key, key_block_page}
use Rattle.image.specs.Step.{Step, erase, whole, play}
use Rattle.image.proofs.Looks.{block_inside}
use Rattle.image.proofs.Empties.{block_empty-same, erase_stays_empty}
use Rattle.image.proofs.Plays.{play_append_first}
use Rattle.image.proofs.Rows.{row_steps}
use Rattle.image.proofs.Step.{whole_length, up_to-whole}
use Rattle.store.specs.Kind.{kind_of, keys_epoch}
use Rattle.store.specs.Record.{Record}
use Rattle.store.specs.Outcome.{Outcome, left}
use Rattle.store.specs.Mount.{is_swept, mount_steps, mounted, mount_of}
use Rattle.store.specs.Commit.{Stage, begin, cleaned, replace_keys, keys_replaced, commit_replaced, dead_erased, commit_stages, commit_of}
use Rattle.store.specs.Reply.{Done}
use Rattle.store.proofs.Counts.{keys_replaced_count, commit_replaced_count, commit-steps, mount_steps_lem}
use Rattle.store.proofs.Outcomes.{commit_outcome}
use Rattle.store.proofs.Views.{keys_at}
use Rattle.store.proofs.Quiets.{Mountable}
use Rattle.store.proofs.Copies.{Row, Filled, row-filled, filled_eventless, keys_unfinished, other_unchosen}
use Rattle.store.proofs.IdleBlocks.{idle_swept}
use Rattle.guarantee.specs.Call.{mount, commit, Event, lent_right}
use Rattle.guarantee.specs.Book.{Book, book_renewed, keys_done, commit_done, book_committed, entered}
use Rattle.guarantee.specs.Origin.{copied}
use Rattle.guarantee.specs.Machine.{Machine, step}
use Rattle.guarantee.proofs.Sounds.{Loose, Settled}
use Rattle.guarantee.proofs.Loosenings.{swept, loose_idle, which_each}
use Rattle.guarantee.proofs.KeysCopy.{Replacing, row as keys-row}
use Rattle.guarantee.proofs.KeysOnward.{Going, replacing, more_is}
use Rattle.guarantee.proofs.CommitChain.{Starting, going_begun, keys_below, new_first}
use Rattle.guarantee.proofs.StagedCall.{noises, noise-here}
use Rattle.guarantee.proofs.CommitCall.{first, commit_settled}
use Rattle.guarantee.proofs.MountCall.{image_is as mount-image, mount_accepted}

-- the first steps of a commit are those that replace key block 0
first_steps : (noise img : List ℕ) (r : Record) (n k : ℕ) → n < pages_in_block → play n k (commit_stages noise (begin img r)).steps img ≡ play n k (replace_keys img r noise 0) img
unfolding commit_stages dead_erased commit_replaced keys_replaced
first_steps noise img r n k h =
    let keys0 = keys_replaced noise 0 (begin img r) in
    let keys1 = keys_replaced noise 1 keys0 in
    let l0 = keys_replaced_count noise 0 (begin img r) in
    let l1 = keys_replaced_count noise 1 keys0 in
    play_append_first n k (commit_replaced keys1).steps _ img (omega (arith, commit_replaced_count keys1))
    ∙ play_append_first n k keys1.steps _ img (omega arith)
    ∙ play_append_first n k keys0.steps _ img (omega arith)

-- ---- a commit cut after the first page of its first copy, and before the last
module _ (m : Machine) (s : Settled m) (on : T m.on) (arg : List ℕ) (done : (commit_of m.image m.store arg).reply ≡ Done) (n k : ℕ) (some : 0 < n) (few : n + 1 < pages_in_block) where
  abbrev cut_commit : Event
  cut_commit = record { call = commit arg; n = n; k = k }

  abbrev noise : ℕ → List ℕ
  noise = noises m (commit arg) s

  abbrev begun : Stage
  begun = begin m.image (cleaned (mounted m.image))

  abbrev books : ℕ → ℕ → Book
  books i j = m.book

  starting : Starting m.image m.book m.origin noise m.calls m.book.bringer begun books
  starting = first m arg s on done

  abbrev epoch : ℕ
  epoch = (mounted m.image).numbers.epoch

  abbrev key : ℕ → List ℕ
  key = renewed_key (block_at m.image (keys_at m.image 0)) begun.after.letters (noise m.calls)

  -- the block that the copy goes to
  abbrev copy_block : ℕ
  copy_block = lowest_empty m.image

  abbrev copies : List Step
  copies = row_steps copy_block (key_block_page epoch 0 key) pages_in_block 0

  copies_length : length copies ≡ pages_in_block
  copies_length = length-list_from _ pages_in_block 0

  -- the stage is the one at which the chain of a commit starts
  abbrev kept : ℕ → ℕ
  kept = copied m.calls m.book

  going : Going begun m.book epoch
  going = going_begun m.image m.book m.origin noise m.calls m.book.bringer begun books starting

  below : (a : ℕ) → a < blocks m.image → keys_epoch 0 (kind_of m.image a) < epoch
  below = keys_below m.image m.book m.origin noise m.calls m.book.bringer begun books starting 0 (omega arith)

  brought : (p : ℕ) → p < positions → key_block p ≡ 0 → kept p ≡ (book_renewed m.calls 0 m.book).bringer p
  brought = new_first m.image m.book m.origin noise m.calls m.book.bringer begun books starting

  copying : Replacing m.image m.book noise m.calls 0 epoch copy_block key kept
  copying = replacing m.image m.origin m.book.bringer kept noise m.calls m.calls begun books m.book epoch 0 starting.reached (omega arith) going (omega arith) starting.noise_full below brought

  row : Row m.image copy_block pages_in_block (key_block_page epoch 0 key) (keys_frame epoch 0)
  row =
      let before = starting.reached in
      keys-row m.image m.book _ noise m.calls m.calls 0 epoch copy_block key m.book.bringer kept before.sound before.tight (omega arith) copying

  image_is : (step m cut_commit).image ≡ play n k copies m.image
  unfolding step left
  image_is =
      let same = ap (λ (r : Record). commit_of m.image r arg) (s.good on) in
      ap (λ (o : Outcome). play n k o.steps m.image) (same ∙ commit_outcome m.image (mounted m.image) arg (sym (ap (λ (o : Outcome). o.reply) same) ∙ done))
      ∙ first_steps arg m.image (cleaned (mounted m.image)) n k (omega arith)
      ∙ ap (λ (l : List ℕ). play n k (replace_keys m.image (cleaned (mounted m.image)) l 0) m.image) (sym (noise-here m (commit arg) s))
      ∙ ap (λ (l : List Step). play n k l m.image)
      (more_is m.image m.origin m.book.bringer kept noise m.calls m.calls begun books m.book epoch 0 starting.reached (omega arith) going (omega arith) starting.noise_full below brought)
      ∙ play_append_first n k copies _ m.image (omega (arith, copies_length))

  abbrev image : List ℕ
  image = play n k copies m.image

  ok : Mountable image
  ok = rw image_is at (commit_settled m arg s on n k).sound.mountable

  filled : Filled m.image image copy_block
  filled = row-filled m.image copy_block pages_in_block (key_block_page epoch 0 key) (keys_frame epoch 0) row n k

  -- mount has not chosen it, and finds no N or D page in it
  loose : Loose image copy_block
  loose =
      record {
        inside = let same = filled.only.size in rw same filled.inside;
        unchosen = other_unchosen image ok copy_block (keys_unfinished m.image copy_block epoch 0 (key_block_page epoch 0 key) row n k (omega arith) (λ z. absurd (omega arith)));
        eventless = filled_eventless m.image image copy_block filled;
      }

  -- so it is one that mount erases
  copy_swept : is_swept (step m cut_commit).image (mounted (step m cut_commit).image) copy_block ≡ true
  copy_swept = rw image_is (idle_swept image ok copy_block (loose_idle image copy_block ok loose))

  copy_inside : copy_block < blocks (step m cut_commit).image
  copy_inside = let same = filled.only.size in rw (image_is, same) filled.inside

  pub mount_has_step : (map letters scratch : List ℕ) → T (lent_right (mount map letters scratch)) → 0 < length (mount_of (step m cut_commit).image map letters scratch).steps
  mount_has_step map letters scratch lent =
      let after = (step m cut_commit).image in
      let taken = mount_accepted (step m cut_commit) map letters scratch 0 0 (commit_settled m arg s on n k) lent in
      omega (
        arith,
        mount_steps_lem after map letters scratch taken,
        count_some (is_swept after (mounted after)) (blocks after) 0 copy_block (omega arith)
            (omega (arith, copy_inside)) copy_swept,
      )

  -- no other block changed, and the book is as it was
  pub others_empty : (b : ℕ) → (b ≡ lowest_empty m.image → ⊥) → block_empty m.image b ≡ true → block_empty (step m cut_commit).image b ≡ true
  others_empty b h z = rw image_is (block_empty-same m.image image b (filled.only.others b h) ∙ z)

  pub book-kept : (step m cut_commit).book ≡ m.book
  unfolding step entered book_committed
  book-kept =
      let short = lt-ltb n (length (commit_of m.image m.store arg).steps) (omega (arith, commit-steps m.image m.store arg done)) in
      rw (short, later (keys_done 0 0) (omega arith), later (keys_done 0 1) (omega arith), later (commit_done 0) (omega arith))
    where
      later : (i : ℕ) → n < i → ltb i n || eqb i n && leb page_size k ≡ false
      later i l = rw (le-ltb i n (omega arith), ne_eqb i n (λ z. omega arith))

-- ---- a mount, cut or not, leaves an empty block empty
empty_stays : (bs : List ℕ) (img : List ℕ) (n k b : ℕ) → Each (λ (d : ℕ). d < blocks img) bs → block_empty img b ≡ true
    → block_empty (play n k (map erase bs) img) b ≡ true
unfolding play
empty_stays [] img n k b each e = e
empty_stays (d ∷ bs) img zero k b each e = erase_stays_empty k d img b (block_inside img d each.0) e
empty_stays (d ∷ bs) img (suc n) k b each e =
    let ins = block_inside img d each.0 in
    let same = whole_length (erase d) img ins in
    empty_stays bs (whole (erase d) img) n k b (rw same each.1)
    (subst (λ (i : List ℕ). block_empty i b ≡ true) (up_to-whole block_size (length img) (erase d) img ins (omega arith))
    (erase_stays_empty block_size d img b ins e))

pub mount_keeps_empty : (m : Machine) → Settled m → (map letters scratch : List ℕ) → T (lent_right (mount map letters scratch)) → (n k b : ℕ) → block_empty m.image b ≡ true
    → block_empty (step m (record { call = mount map letters scratch; n = n; k = k })).image b ≡ true
unfolding mount_steps
mount_keeps_empty m s map' letters scratch lent n k b z =
    let ok = s.sound.mountable in
    rw (mount-image m map' letters scratch n k s (mount_accepted m map' letters scratch n k s lent))
    (empty_stays (swept m.image ok) m.image n k b (which_each (λ (d : ℕ). d < blocks m.image) (is_swept m.image (mounted m.image))
    (blocks m.image) 0 (λ d l h e. omega arith)) z)
