-- The pages of the blocks that a commit replaces, written out. And no commit enciphers anything: an enciphered byte that is there after it was there before.
use Prim.Native.Nat.{ℕ, ◌+◌, ◌*◌, ◌-◌, ◌/◌, ◌<◌, ◌≤◌}
use native.Mathlib.Omega.{arith}
use native.Mathlib.Nat.{le_refl, le_of_eq}
use mathlib.Core.Path.{◌≡◌, sym, ap, ◌∙◌}
use mathlib.Core.Logic.{inl}
use mathlib.Core.Bool.{true}
use mathlib.Core.List.{List, [], ◌∷◌, ◌++◌, map}
use lib.ListN.{length}
use Rattle.base.specs.Each.{Each}
use Rattle.base.proofs.Eachs.{each_map}
use Rattle.base.proofs.Folds.{length-list_from}
use Rattle.page.specs.Header.{keys_frame, commit_frame}
use Rattle.page.specs.Key.{positions, key_block}
use Rattle.page.specs.Entry.{parts}
use Rattle.page.specs.declared.Frame.{Frame}
use Rattle.image.specs.Size.{block_size, pages_in_block, blocks}
use Rattle.image.specs.Look.{page_at, block_at, page_empty, lowest_empty}
use Rattle.image.specs.Step.{Step, Inside, erase, whole, play, play_all}
use Rattle.image.specs.Block.{renewed_key, key_block_page, commit_block_page}
use Rattle.image.proofs.CommitBlock.{commit_block_steps_lem}
use Rattle.image.proofs.Empties.{page_empty-same}
use Rattle.image.proofs.Looks.{sized, block_inside, lowest_empty_lem}
use Rattle.image.proofs.Plays.{play_all-append, play_all_cons, play_all_nil, play_all_lem, block_play_all_other}
use Rattle.image.proofs.Rows.{row_steps}
use Rattle.image.proofs.Step.{block_of, block_whole_other, page_of-same}
use Rattle.store.specs.Kind.{page_in, kind_of, keys_epoch}
use Rattle.store.specs.Format.{noise_size}
use Rattle.store.specs.Commit.{Stage, replace_commit, keys_replaced, commit_replaced}
use Rattle.store.proofs.BlockKinds.{keys_inside, commit_inside_lem}
use Rattle.store.proofs.Copies.{Filled, Row, row-filled, row-pages, row-rest, keys-kind, commit-kind, other_unchosen, empty_kind}
use Rattle.store.proofs.IdleBlocks.{Idle}
use Rattle.store.proofs.Quiets.{Unchosen}
use Rattle.store.proofs.Views.{keys_at, commit_at}
use Rattle.guarantee.specs.Book.{Book, book_renewed}
use Rattle.guarantee.specs.Origin.{Origin, byte_origin}
use Rattle.guarantee.proofs.Chains.{origins_after, Reached}
use Rattle.guarantee.proofs.KeysCopy.{row as keys-row}
use Rattle.guarantee.proofs.KeysOnward.{Going, replacing, more_is}
use Rattle.guarantee.proofs.CommitCopy.{Recommitting, row as commit-row}
use Rattle.guarantee.proofs.CommitOnward.{Chosen}

-- ---- a row of pages into block nb, then block old erased
module _ (img : List ℕ) (nb n old : ℕ) (page : ℕ → List ℕ) (frame : ℕ → Frame) (row : Row img nb n page frame) (there : old < blocks img) (apart : old ≡ nb → ⊥) where
  abbrev replaced : List ℕ
  replaced = play_all (row_steps nb page n 0 ++ (erase old ∷ [])) img

  abbrev rowed : List ℕ
  rowed = play n 0 (row_steps nb page n 0) img

  filled : Filled img rowed nb
  filled = row-filled img nb n page frame row n 0

  inside : old * block_size + block_size ≤ length rowed
  inside = omega (arith, block_inside img old there, filled.only.size)

  replaced_is : replaced ≡ whole (erase old) rowed
  replaced_is =
      play_all-append (row_steps nb page n 0) (erase old ∷ []) img
      ∙ play_all_cons (erase old) [] (play_all (row_steps nb page n 0) img)
      ∙ play_all_nil (whole (erase old) (play_all (row_steps nb page n 0) img))
      ∙ ap (whole (erase old)) (sym (play_all_lem n 0 (row_steps nb page n 0) img (le_of_eq (length-list_from _ n 0))))

  new_same : block_at replaced nb ≡ block_at rowed nb
  new_same = rw replaced_is (block_whole_other (erase old) rowed inside nb apart)

  here-same : (i : ℕ) → i < pages_in_block → page_at replaced (page_in nb i) ≡ page_at rowed (page_in nb i)
  here-same i h = let z : page_in nb i / pages_in_block ≡ nb = omega arith in page_of-same rowed replaced (page_in nb i) (rw z new_same)

  replaced_page : (i : ℕ) → i < n → page_at replaced (page_in nb i) ≡ page i
  replaced_page i h = here-same i (omega (arith, row.few)) ∙ row-pages img nb n page frame row n 0 (inl (le_refl n)) i h

  replaced_rest : (i : ℕ) → n ≤ i → i < pages_in_block → page_empty replaced (page_in nb i) ≡ true
  replaced_rest i l h = page_empty-same rowed replaced (page_in nb i) (here-same i h) ∙ row-rest img nb n page frame row n 0 i l h

  replaced_other : (a : ℕ) → (a ≡ nb → ⊥) → (a ≡ old → ⊥) → block_at replaced a ≡ block_at img a
  replaced_other a x y = rw replaced_is (block_whole_other (erase old) rowed inside a (λ z. y (sym z)) ∙ filled.only.others a x)

-- ---- a key block replaced
module _ (img : List ℕ) (o : ℕ → Origin) (now new : ℕ → ℕ) (noise : ℕ → List ℕ) (u c : ℕ) (s : Stage) (books : ℕ → ℕ → Book) (b : Book) (e q : ℕ)
    (before : Reached img o (byte_origin now new) noise u c s books b) (early : u ≤ c) (going : Going s b e) (small : q < 2) (full : length (noise c) ≡ noise_size)
    (above : (a : ℕ) → a < blocks s.image → keys_epoch q (kind_of s.image a) < e)
    (new_right : (p : ℕ) → p < positions → key_block p ≡ q → new p ≡ (book_renewed c q b).bringer p) where
  abbrev key : ℕ → List ℕ
  key = renewed_key (block_at s.image (keys_at s.image q)) s.after.letters (noise c)

  abbrev next : List ℕ
  next = (keys_replaced (noise c) q s).image

  keys-here : Row s.image (lowest_empty s.image) pages_in_block (key_block_page e q key) (keys_frame e q)
  keys-here =
      keys-row s.image b (origins_after img o (byte_origin now new) noise u c s) noise u c q e (lowest_empty s.image) key now new before.sound before.tight early
      (replacing img o now new noise u c s books b e q before early going small full above new_right)

  keys_apart_lem : Unchosen s.image (lowest_empty s.image)
  keys_apart_lem = other_unchosen s.image before.sound.mountable (lowest_empty s.image) (empty_kind s.image (lowest_empty s.image) (lowest_empty_lem s.image going.room))

  keys_there_lem : keys_at s.image q < blocks s.image
  keys_there_lem = let k = keys-kind s.image before.sound.mountable q small in keys_inside s.image (keys_at s.image q) q k.0 k.1

  keys_next : next ≡ replaced s.image (lowest_empty s.image) pages_in_block (keys_at s.image q) (key_block_page e q key) (keys_frame e q) keys-here keys_there_lem (keys_apart_lem.no_keys q small)
  unfolding keys_replaced
  keys_next = ap (λ (l : List Step). play_all l s.image) (more_is img o now new noise u c s books b e q before early going small full above new_right)

  pub keys_page_lem : (i : ℕ) → i < pages_in_block → page_at next (page_in (lowest_empty s.image) i) ≡ key_block_page e q key i
  keys_page_lem i h =
      ap (λ (t : List ℕ). page_at t (page_in (lowest_empty s.image) i)) keys_next
      ∙ replaced_page s.image (lowest_empty s.image) pages_in_block (keys_at s.image q) (key_block_page e q key) (keys_frame e q) keys-here keys_there_lem (keys_apart_lem.no_keys q small) i h

  pub keys_other : (a : ℕ) → (a ≡ lowest_empty s.image → ⊥) → (a ≡ keys_at s.image q → ⊥) → block_at next a ≡ block_at s.image a
  keys_other a x y =
      ap (λ (t : List ℕ). block_at t a) keys_next
      ∙ replaced_other s.image (lowest_empty s.image) pages_in_block (keys_at s.image q) (key_block_page e q key) (keys_frame e q) keys-here keys_there_lem (keys_apart_lem.no_keys q small) a x y

-- ---- the commit block replaced
module _ (img : List ℕ) (o : ℕ → Origin) (now new : ℕ → ℕ) (noise : ℕ → List ℕ) (u c : ℕ) (s : Stage) (books : ℕ → ℕ → Book) (b : Book)
    (before : Reached img o (byte_origin now new) noise u c s books b) (naming : Chosen s.image s.after.numbers) (b' : Book) (e : ℕ) (early : u ≤ c) (epoch : s.after.numbers.epoch ≡ e)
    (w : Recommitting s.image b b' noise c e (s.after.numbers.sequence - 1) (lowest_empty s.image) s.after) where
  abbrev covered : ℕ
  covered = s.after.numbers.sequence - 1

  abbrev page : ℕ → List ℕ
  page = commit_block_page e covered s.after.map s.after.letters

  abbrev next_commit : List ℕ
  next_commit = (commit_replaced s).image

  commit-here : Row s.image (lowest_empty s.image) parts page (λ i. commit_frame e i covered)
  commit-here = commit-row s.image b b' (origins_after img o (byte_origin now new) noise u c s) noise u c e covered (lowest_empty s.image) s.after now new before.sound before.tight early w

  commit-apart : Unchosen s.image (lowest_empty s.image)
  commit-apart = other_unchosen s.image before.sound.mountable (lowest_empty s.image) (empty_kind s.image (lowest_empty s.image) w.empty)

  commit_there_lem : commit_at s.image < blocks s.image
  commit_there_lem =
      let k = commit-kind s.image before.sound.mountable in
      let z = sized s.image before.sound.mountable.size in
      commit_inside_lem s.image (commit_at s.image) k.0 k.1 (omega (arith, z.full)) k.2

  commit-steps : replace_commit s.image s.after ≡ row_steps (lowest_empty s.image) page parts 0 ++ (erase (commit_at s.image) ∷ [])
  unfolding replace_commit
  commit-steps = let k = naming.commit in rw (k, epoch, commit_block_steps_lem e covered s.after.map s.after.letters (lowest_empty s.image))

  commit_next : next_commit ≡ replaced s.image (lowest_empty s.image) parts (commit_at s.image) page (λ i. commit_frame e i covered) commit-here commit_there_lem commit-apart.no_commit
  unfolding commit_replaced
  commit_next = ap (λ (l : List Step). play_all l s.image) commit-steps

  pub commit_page_lem : (i : ℕ) → i < parts → page_at next_commit (page_in (lowest_empty s.image) i) ≡ commit_block_page e (s.after.numbers.sequence - 1) s.after.map s.after.letters i
  commit_page_lem i h =
      ap (λ (t : List ℕ). page_at t (page_in (lowest_empty s.image) i)) commit_next
      ∙ replaced_page s.image (lowest_empty s.image) parts (commit_at s.image) page (λ i. commit_frame e i covered) commit-here commit_there_lem commit-apart.no_commit i h

  pub commit-rest : (i : ℕ) → parts ≤ i → i < pages_in_block → page_empty next_commit (page_in (lowest_empty s.image) i) ≡ true
  commit-rest i l h =
      ap (λ (t : List ℕ). page_empty t (page_in (lowest_empty s.image) i)) commit_next
      ∙ replaced_rest s.image (lowest_empty s.image) parts (commit_at s.image) page (λ i. commit_frame e i covered) commit-here commit_there_lem commit-apart.no_commit i l h

  pub commit_other : (a : ℕ) → (a ≡ lowest_empty s.image → ⊥) → (a ≡ commit_at s.image → ⊥) → block_at next_commit a ≡ block_at s.image a
  commit_other a x y =
      ap (λ (t : List ℕ). block_at t a) commit_next
      ∙ replaced_other s.image (lowest_empty s.image) parts (commit_at s.image) page (λ i. commit_frame e i covered) commit-here commit_there_lem commit-apart.no_commit a x y

-- ---- idle blocks erased: others stay
pub idle_other : (img : List ℕ) (bs : List ℕ) → Each (Idle img) bs → (b : ℕ) → ((d : ℕ) → Idle img d → d ≡ b → ⊥) → block_at (play_all (map erase bs) img) b ≡ block_at img b
idle_other img bs idle b apart =
    block_play_all_other (map erase bs) img b
    (each_map (Idle img) (Inside (length img)) erase (λ d i. block_inside img d i.inside) bs idle)
    (each_map (Idle img) (λ (s : Step). block_of s ≡ b → ⊥) erase (λ d i. apart d i) bs idle)
