-- A commit that finds no payload: every page of the image that it leaves, and no enciphered byte in its three blocks.
use Prim.Native.Nat.{ℕ, ◌+◌, ◌*◌, ◌-◌, ◌/◌, ◌%◌, ◌<◌, ◌≤◌}
use native.Mathlib.Omega.{arith}
use native.Mathlib.Decide.{dec_lt}
use native.Mathlib.Nat.{zero-add}
use mathlib.Core.Path.{◌≡◌, refl, sym, ap, subst, ◌∙◌}
use mathlib.Core.Logic.{◌⊎◌, inl, inr}
use mathlib.Core.Bool.{Bool, true, false, cond, ◌||◌}
use mathlib.Core.List.{List}
use lib.Dec.{eqb, ltb}
use lib.ListN.{length, get_or, replicate, get_or-replicate}
use lib.Seq.{ext_get_or}
use borrow.Author.Tests.{eqb-true, lt-ltb, le-ltb}
use Rattle.base.specs.Search.{which_from}
use Rattle.base.proofs.Parts.{part_at}
use Rattle.base.proofs.Folds.{length-list_from, list_from_at}
use Rattle.page.specs.Frame.{page_size, erased}
use Rattle.page.specs.Key.{positions, keys_in_page, keys_in_block, key_in_noise}
use Rattle.page.specs.Entry.{free_letter, parts}
use Rattle.page.specs.Page.{keys_page}
use Rattle.image.specs.Size.{block_size, pages_in_block, blocks, size_right}
use Rattle.image.specs.Look.{page_at, block_at, page_empty, block_empty, lowest_empty}
use Rattle.image.specs.Block.{renewed_key, key_block_page, commit_block_page}
use Rattle.image.proofs.Empties.{page_empty-same, empty_page, empty_block_page}
use Rattle.image.proofs.KeyBlock.{keys_agree, renewed_other}
use Rattle.image.proofs.Looks.{sized, block_inside, lowest_empty_lem}
use Rattle.image.proofs.Step.{page_of-same}
use Rattle.store.specs.Kind.{page_in, kind_of, keys_epoch, is_chosen}
use Rattle.store.specs.Record.{is_dead}
use Rattle.store.specs.Format.{formatted}
use Rattle.store.specs.Commit.{Stage, keys_replaced, commit_replaced, dead_erased, commit_stages}
use Rattle.store.specs.declared.Numbers.{Numbers}
use Rattle.store.proofs.Copies.{keys-kind, commit-kind, other_unchosen, empty_kind}
use Rattle.store.proofs.IdleBlocks.{Idle}
use Rattle.store.proofs.Quiets.{Mountable, Unchosen}
use Rattle.store.proofs.Views.{keys_at, commit_at}
use Rattle.guarantee.specs.Book.{Book, book_renewed}
use Rattle.guarantee.specs.Origin.{Origin, copied}
use Rattle.guarantee.specs.Handover.{handed_page, handed_byte, handed_image}
use Rattle.guarantee.proofs.KeysOnward.{KeysMoved}
use Rattle.guarantee.proofs.CommitOnward.{Chosen, naming_chosen, CommitMoved, all_idle}
use Rattle.guarantee.proofs.CommitChain.{Starting, e, with_keys0, with_keys1, with_commit, ended, book_end, going_begun, keys_below, new_first, new_second, books_keys0, books_keys1, keys0, keys1, commit, recommitting}
use Rattle.guarantee.proofs.CommitPages.{keys_page_lem, keys_other, commit_page_lem, commit-rest, commit_other, idle_other}

-- ---- the chosen blocks of an image are three
keys_two : (img : List ℕ) → Mountable img → keys_at img 0 ≡ keys_at img 1 → ⊥
keys_two img ok z =
    let x = (keys-kind img ok 0 (omega arith)).1 in
    let y = (keys-kind img ok 1 (omega arith)).1 in
    let same : kind_of img (keys_at img 0) ≡ kind_of img (keys_at img 1) = ap (kind_of img) z in
    let t : ◌≡◌ {A = ℕ} 0 1 = cc in omega arith

keys-commit : (img : List ℕ) → Mountable img → (q : ℕ) → q < 2 → keys_at img q ≡ commit_at img → ⊥
keys-commit img ok q h z =
    let x = (keys-kind img ok q h).1 in
    let y = (commit-kind img ok).2 in
    let same : kind_of img (keys_at img q) ≡ kind_of img (commit_at img) = ap (kind_of img) z in
    let t : ◌≡◌ {A = ℕ} 0 1 = cc in omega arith

pub chosen_one : (n : Numbers) (b : ℕ) → is_chosen n b ≡ true → (b ≡ n.keys0) ⊎ (b ≡ n.keys1) ⊎ (b ≡ n.commit)
chosen_one n b = go (eqb b n.keys0) refl (eqb b n.keys1) refl
  where
    go : (x : Bool) → eqb b n.keys0 ≡ x → (y : Bool) → eqb b n.keys1 ≡ y → x || y || eqb b n.commit ≡ true → (b ≡ n.keys0) ⊎ (b ≡ n.keys1) ⊎ (b ≡ n.commit)
    go true p y q z = inl (eqb-true b n.keys0 p)
    go false p true q z = inr (inl (eqb-true b n.keys1 q))
    go false p false q z = inr (inr (eqb-true b n.commit z))

pages-same : (img img' : List ℕ) (b i : ℕ) → i < pages_in_block → block_at img' b ≡ block_at img b → page_at img' (page_in b i) ≡ page_at img (page_in b i)
pages-same img img' b i h e = let z : page_in b i / pages_in_block ≡ b = omega arith in page_of-same img img' (page_in b i) (rw z e)

-- a page of new keys alone
noise-page : (e q i : ℕ) (old letters noise : List ℕ) → q < 2 → i < pages_in_block → ((p : ℕ) → p < positions → get_or letters p 0 ≡ free_letter)
    → key_block_page e q (renewed_key old letters noise) i ≡ key_block_page e q (key_in_noise noise) i
noise-page e q i old letters noise small h free =
    ap (keys_page e q i) (keys_agree (renewed_key old letters noise) (key_in_noise noise) keys_in_page (keys_in_block * q + keys_in_page * i)
    (λ j a l. renewed_other old letters noise j (λ u. omega (arith, u, free j (omega arith)))))

-- ---- all stages of a commit
module _ (img : List ℕ) (b : Book) (o : ℕ → Origin) (noise : ℕ → List ℕ) (c : ℕ) (now : ℕ → ℕ) (begun : Stage) (books : ℕ → ℕ → Book) (first : Starting img b o noise c now begun books) where
  abbrev new : ℕ → ℕ
  new = copied c b

  abbrev epoch : ℕ
  epoch = e img b o noise c now begun books first

  -- the stages after key block 0, key block 1, the commit block and the dead data blocks; and the places of the three new blocks
  abbrev s1 : Stage
  s1 = with_keys0 img b o noise c now begun books first

  abbrev s2 : Stage
  s2 = with_keys1 img b o noise c now begun books first

  abbrev s3 : Stage
  s3 = with_commit img b o noise c now begun books first

  abbrev s4 : Stage
  s4 = ended img b o noise c now begun books first

  abbrev at0 : ℕ
  at0 = lowest_empty begun.image

  abbrev at1 : ℕ
  at1 = lowest_empty s1.image

  abbrev at2 : ℕ
  at2 = lowest_empty s2.image

  k0 : KeysMoved img o now new noise c c begun books b epoch 0
  k0 = keys0 img b o noise c now begun books first

  k1 : KeysMoved img o now new noise c c s1 (books_keys0 img b o noise c now begun books first) (book_renewed c 0 b) epoch 1
  k1 = keys1 img b o noise c now begun books first

  below1 : (a : ℕ) → a < blocks s1.image → keys_epoch 1 (kind_of s1.image a) < epoch
  below1 = k0.kinds (keys_epoch 1) refl refl (keys_below img b o noise c now begun books first 1 (omega arith))

  page0 : (i : ℕ) → i < pages_in_block → page_at s1.image (page_in at0 i) ≡ key_block_page epoch 0 (renewed_key (block_at begun.image (keys_at begun.image 0)) begun.after.letters (noise c)) i
  page0 =
      keys_page_lem img o now new noise c c begun books b epoch 0 first.reached (omega arith) (going_begun img b o noise c now begun books first) (omega arith) first.noise_full
      (keys_below img b o noise c now begun books first 0 (omega arith)) (new_first img b o noise c now begun books first)

  page1 : (i : ℕ) → i < pages_in_block → page_at s2.image (page_in at1 i) ≡ key_block_page epoch 1 (renewed_key (block_at s1.image (keys_at s1.image 1)) s1.after.letters (noise c)) i
  page1 =
      keys_page_lem img o now new noise c c s1 _ (book_renewed c 0 b) epoch 1 k0.reached (omega arith) k0.going (omega arith) first.noise_full below1 (new_second img b o noise c now begun books first)

  other1 : (a : ℕ) → (a ≡ at1 → ⊥) → (a ≡ keys_at s1.image 1 → ⊥) → block_at s2.image a ≡ block_at s1.image a
  other1 =
      keys_other img o now new noise c c s1 _ (book_renewed c 0 b) epoch 1 k0.reached (omega arith) k0.going (omega arith) first.noise_full below1 (new_second img b o noise c now begun books first)

  abbrev chosen2 : Chosen s2.image s2.after.numbers
  chosen2 = naming_chosen s2.image s2.after k1.going.naming

  page2 : (i : ℕ) → i < parts → page_at s3.image (page_in at2 i) ≡ commit_block_page epoch (s2.after.numbers.sequence - 1) s2.after.map s2.after.letters i
  page2 =
      commit_page_lem img o now new noise c c s2 _ _ k1.reached chosen2 (book_end img b o noise c now begun books first) epoch (omega arith) k1.going.epoch (recommitting img b o noise c now begun books first)

  rest2 : (i : ℕ) → parts ≤ i → i < pages_in_block → page_empty s3.image (page_in at2 i) ≡ true
  rest2 =
      commit-rest img o now new noise c c s2 _ _ k1.reached chosen2 (book_end img b o noise c now begun books first) epoch (omega arith) k1.going.epoch (recommitting img b o noise c now begun books first)

  other2 : (a : ℕ) → (a ≡ at2 → ⊥) → (a ≡ commit_at s2.image → ⊥) → block_at s3.image a ≡ block_at s2.image a
  other2 =
      commit_other img o now new noise c c s2 _ _ k1.reached chosen2 (book_end img b o noise c now begun books first) epoch (omega arith) k1.going.epoch (recommitting img b o noise c now begun books first)

  -- where the three are, at each stage
  keys0_at1 : keys_at s1.image 0 ≡ at0
  unfolding keys_replaced
  keys0_at1 = sym k0.going.naming.keys0

  keys0_at2 : keys_at s2.image 0 ≡ at0
  unfolding keys_replaced
  keys0_at2 = sym k1.going.naming.keys0

  keys1_at2 : keys_at s2.image 1 ≡ at1
  unfolding keys_replaced
  keys1_at2 = sym k1.going.naming.keys1

  moved : CommitMoved img o now new noise c c s2 (books_keys1 img b o noise c now begun books first) (book_renewed c 1 (book_renewed c 0 b)) (book_end img b o noise c now begun books first) epoch
  moved = commit img b o noise c now begun books first

  keys0_at3 : keys_at s3.image 0 ≡ at0
  unfolding commit_replaced keys_replaced
  keys0_at3 = sym moved.naming.keys0

  keys1_at3 : keys_at s3.image 1 ≡ at1
  unfolding commit_replaced keys_replaced
  keys1_at3 = sym moved.naming.keys1

  commit_at3 : commit_at s3.image ≡ at2
  unfolding commit_replaced keys_replaced
  commit_at3 = sym moved.naming.commit

  ok1 : Mountable s1.image
  ok1 = k0.reached.sound.mountable

  ok2 : Mountable s2.image
  ok2 = k1.reached.sound.mountable

  apart1 : Unchosen s1.image at1
  apart1 = other_unchosen s1.image ok1 at1 (empty_kind s1.image at1 (lowest_empty_lem s1.image k0.going.room))

  apart2 : Unchosen s2.image at2
  apart2 = other_unchosen s2.image ok2 at2 (empty_kind s2.image at2 (lowest_empty_lem s2.image k1.going.room))

  other3 : (a : ℕ) → ((d : ℕ) → Idle s3.image d → d ≡ a → ⊥) → block_at s4.image a ≡ block_at s3.image a
  unfolding dead_erased
  other3 = idle_other s3.image (which_from (is_dead s3.image s3.after) (blocks s3.image) 0) (all_idle img o now new noise c c s3 _ _ moved.reached moved.naming moved.noteless)

  -- and what was put there is there at the end
  same0 : block_at s4.image at0 ≡ block_at s1.image at0
  same0 =
      other3 at0 (λ d i z. i.unchosen.no_keys 0 (omega arith) (keys0_at3 ∙ sym z))
      ∙ other2 at0 (λ z. apart2.no_keys 0 (omega arith) (keys0_at2 ∙ z)) (λ z. keys-commit s2.image ok2 0 (omega arith) (keys0_at2 ∙ z))
      ∙ other1 at0 (λ z. apart1.no_keys 0 (omega arith) (keys0_at1 ∙ z)) (λ z. keys_two s1.image ok1 (keys0_at1 ∙ z))

  same1 : block_at s4.image at1 ≡ block_at s2.image at1
  same1 =
      other3 at1 (λ d i z. i.unchosen.no_keys 1 (omega arith) (keys1_at3 ∙ sym z))
      ∙ other2 at1 (λ z. apart2.no_keys 1 (omega arith) (keys1_at2 ∙ z)) (λ z. keys-commit s2.image ok2 1 (omega arith) (keys1_at2 ∙ z))

  same2 : block_at s4.image at2 ≡ block_at s3.image at2
  same2 = other3 at2 (λ d i z. i.unchosen.no_commit (commit_at3 ∙ sym z))

  -- ---- the record's numbers
  abbrev numbers : Numbers
  numbers = record { sequence = begun.after.numbers.sequence; epoch = epoch + 1; keys0 = at0; keys1 = at1; commit = at2 }

  numbers_are : (commit_stages (noise c) begun).after.numbers ≡ numbers
  unfolding commit_stages dead_erased commit_replaced keys_replaced
  numbers_are = ap (λ (t : ℕ). record { sequence = begun.after.numbers.sequence; epoch = t + 1; keys0 = at0; keys1 = at1; commit = at2 }) (going_begun img b o noise c now begun books first).epoch

  -- ---- no letter but f, no entry, and the other blocks empty: every page
  module _ (free : begun.after.letters ≡ formatted.letters) (vacant : begun.after.map ≡ formatted.map)
      (empty : (b : ℕ) → b < blocks s4.image → is_chosen (commit_stages (noise c) begun).after.numbers b ≡ false → block_empty s4.image b ≡ true) where
    free_at : (p : ℕ) → p < positions → get_or begun.after.letters p 0 ≡ free_letter
    free_at p h = rw free (get_or-replicate positions p free_letter 0 h)

    last_epoch : numbers.epoch - 1 ≡ epoch
    last_epoch = omega arith

    in_keys0 : (i : ℕ) → i < pages_in_block → page_at s4.image (page_in at0 i) ≡ key_block_page (numbers.epoch - 1) 0 (key_in_noise (noise c)) i
    in_keys0 i h = rw last_epoch (pages-same s1.image s4.image at0 i h same0 ∙ page0 i h ∙ noise-page epoch 0 i _ _ (noise c) (omega arith) h free_at)

    in_keys1 : (i : ℕ) → i < pages_in_block → page_at s4.image (page_in at1 i) ≡ key_block_page (numbers.epoch - 1) 1 (key_in_noise (noise c)) i
    unfolding keys_replaced
    in_keys1 i h = rw last_epoch (pages-same s2.image s4.image at1 i h same1 ∙ page1 i h ∙ noise-page epoch 1 i _ _ (noise c) (omega arith) h free_at)

    -- pages that nothing stands in
    no_page : (b i : ℕ) → b < blocks s4.image → i < pages_in_block → page_empty s4.image (page_in b i) ≡ true → page_at s4.image (page_in b i) ≡ replicate page_size erased
    no_page b i h l e = empty_page s4.image (page_in b i) (omega (arith, block_inside s4.image b h)) e

    in_commit : at2 < blocks s4.image → (i : ℕ) → i < pages_in_block
        → page_at s4.image (page_in at2 i) ≡ cond (ltb i parts) (commit_block_page (numbers.epoch - 1) (numbers.sequence - 1) formatted.map formatted.letters i) (replicate page_size erased)
    unfolding keys_replaced
    in_commit inside i h = let same = pages-same s3.image s4.image at2 i h same2 in elim (dec_lt i parts) [
      | yes l ↦ rw (lt-ltb i parts l, last_epoch, ← free, ← vacant) (same ∙ page2 i l)
      | no l ↦ rw (le-ltb i parts (omega arith)) (no_page at2 i inside h (page_empty-same s3.image s4.image (page_in at2 i) same ∙ rest2 i (omega arith) h))
    ]

    elsewhere : (b i : ℕ) → b < blocks s4.image → i < pages_in_block → is_chosen numbers b ≡ false → page_at s4.image (page_in b i) ≡ replicate page_size erased
    elsewhere b i h l e =
        let z : page_in b i / pages_in_block ≡ b = omega arith in
        no_page b i h l (empty_block_page s4.image (page_in b i) (rw z (empty b h (subst (λ (n : Numbers). is_chosen n b ≡ false) (sym numbers_are) e))))

    page_of_lem : (b i : ℕ) → b < blocks s4.image → i < pages_in_block → page_at s4.image (page_in b i) ≡ handed_page (noise c) numbers b i
    page_of_lem b i h l = go (eqb b at0) refl (eqb b at1) refl (eqb b at2) refl
      where
        go : (x : Bool) → eqb b at0 ≡ x → (y : Bool) → eqb b at1 ≡ y → (z : Bool) → eqb b at2 ≡ z → page_at s4.image (page_in b i) ≡ handed_page (noise c) numbers b i
        go true p y q z r = let e = eqb-true b at0 p in rw (p, e) (in_keys0 i l)
        go false p true q z r = let e = eqb-true b at1 q in rw (p, q, e) (in_keys1 i l)
        go false p false q true r = let e = eqb-true b at2 r in rw (p, q, r, e) (in_commit (rw e at h) i l)
        go false p false q false r = rw (p, q, r) (elsewhere b i h l (rw (p, q, r)))

    pub bare-page : (b i : ℕ) → b < blocks s4.image → i < pages_in_block → page_at s4.image (page_in b i) ≡ handed_page (noise c) (commit_stages (noise c) begun).after.numbers b i
    bare-page b i h l = page_of_lem b i h l ∙ ap (λ (n : Numbers). handed_page (noise c) n b i) (sym numbers_are)

-- ---- all pages are the image
pub bare-image : (img noise : List ℕ) (n : Numbers) → size_right img ≡ true → ((b i : ℕ) → b < blocks img → i < pages_in_block → page_at img (page_in b i) ≡ handed_page noise n b i)
    → img ≡ handed_image (length img) noise n
unfolding handed_image page_at
bare-image img noise n size pages = ext_get_or erased img _ (sym (length-list_from (handed_byte noise n) (length img) 0)) (λ a h.
    let b = a / block_size in
    let i = a % block_size / page_size in
    let z = sized img size in
    let at : page_in b i * page_size + a % page_size ≡ a = omega arith in
    ap (λ (j : ℕ). get_or img j erased) (sym at)
    ∙ sym (part_at img (page_in b i * page_size) page_size (a % page_size) erased (omega arith))
    ∙ ap (λ (t : List ℕ). get_or t (a % page_size) erased) (pages b i (omega (arith, z.full)) (omega arith))
    ∙ sym (list_from_at (handed_byte noise n) (length img) 0 a erased h ∙ ap (handed_byte noise n) (zero-add a)))
