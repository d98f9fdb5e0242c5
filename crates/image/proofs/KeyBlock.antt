-- The keys of a key block: where they stand, how many bytes they have, and keys in a row.
use Prim.Native.Nat.{ℕ, zero, suc, ◌+◌, ◌-◌, ◌*◌, ◌%◌, ◌<◌, ◌≤◌}
use native.Mathlib.Omega.{arith}
use native.Mathlib.Nat.{mul_comm, add-zero, zero-add}
use mathlib.Core.Path.{◌≡◌, refl, sym, ap, ◌∙◌}
use mathlib.Core.Bool.{Bool, true, false, cond}
use mathlib.Core.List.{List, ◌++◌, append_assoc, append-nil}
use lib.Dec.{eqb}
use lib.ListN.{length, get_or, take, drop, length-append}
use lib.Seq.{drop-drop, drop-append-add, take_at, take_all, length-take-le}
use borrow.Author.Tests.{eq-eqb, ne_eqb}
use borrow.Rule.Slice.PartMut.{put_mid}
use Rattle.base.specs.Part.{part}
use Rattle.base.specs.Each.{Each}
use Rattle.base.proofs.Parts.{part_length, part-part, drop_splice_past, lent}
use Rattle.base.proofs.Folds.{length-list_from, list_from_agree}
use Rattle.page.specs.Frame.{page_size, header_size, payload_size}
use Rattle.page.specs.Entry.{used_letter}
use Rattle.page.specs.Key.{key_size, keys_in_page, keys_in_block, positions, key_block, key_page, key_slot, key_in_page, key_in_noise}
use Rattle.page.specs.Header.{header_bytes, keys_frame}
use Rattle.page.specs.Page.{page_like, keys_page}
use Rattle.page.specs.declared.Frame.{Frame}
use Rattle.page.proofs.Slices.{lent-part}
use Rattle.page.proofs.Pages.{keys_length, key_back}
use Rattle.page.proofs.HeaderTests.{page_like_lem}
use Rattle.image.specs.Size.{block_size, pages_in_block}
use Rattle.image.specs.Look.{page_at, block_at}
use Rattle.image.specs.Step.{program, Inside, play_all}
use Rattle.image.specs.Block.{key_in_block, keys_from, kept_key, renewed_key, key_block_steps, key_block_page}
use Rattle.image.proofs.Step.{block_length_lem, page_of_block}
use Rattle.image.proofs.Rows.{row_steps, row_inside, row-page-done}

-- ---- the key of a position in a key block of the image
pub key_in_block_at : (img : List ℕ) (b p : ℕ) → key_in_page (page_at img (b * pages_in_block + key_page p)) (key_slot p) ≡ key_in_block (block_at img b) p
unfolding key_in_block block_at page_at
key_in_block_at img b p =
    let k : (b * pages_in_block + key_page p) * page_size ≡ b * block_size + page_size * key_page p = omega arith in
    rw k
    (ap (λ (page : List ℕ). key_in_page page (key_slot p)) (sym (part-part img (b * block_size) block_size (page_size * key_page p) page_size (omega arith))))

-- ---- a key has 16 bytes
pub key_in_block-length : (block : List ℕ) (p : ℕ) → length block ≡ block_size → length (key_in_block block p) ≡ key_size
unfolding key_in_block key_in_page
key_in_block-length block p l =
    let m : length (part block (page_size * key_page p) page_size) ≡ page_size = part_length block (page_size * key_page p) page_size (omega arith) in
    part_length (part block (page_size * key_page p) page_size) (header_size + key_size * key_slot p) key_size (omega arith)

pub key_in_noise-length : (noise : List ℕ) (p : ℕ) → length noise ≡ key_size * positions → p < positions → length (key_in_noise noise p) ≡ key_size
unfolding key_in_noise
key_in_noise-length noise p l h = part_length noise (key_size * p) key_size (omega arith)

pub renewed-length : (old letters noise : List ℕ) (p : ℕ) → length old ≡ block_size → length noise ≡ key_size * positions → p < positions
    → length (renewed_key old letters noise p) ≡ key_size
unfolding renewed_key
renewed-length old letters noise p l m h = go (eqb (get_or letters p 0) used_letter)
  where
    go : (b : Bool) → length (cond b (key_in_block old p) (key_in_noise noise p)) ≡ key_size
    go true = key_in_block-length old p l
    go false = key_in_noise-length noise p m h

pub renewed_at_length : (img letters noise : List ℕ) (old : ℕ) → old * block_size + block_size ≤ length img → length noise ≡ key_size * positions
    → (p : ℕ) → p < positions → length (renewed_key (block_at img old) letters noise p) ≡ key_size
renewed_at_length img letters noise old f m p h = renewed-length (block_at img old) letters noise p (block_length_lem img old f) m h

-- ---- keys in a row
pub keys_from-length : (key : ℕ → List ℕ) (n p : ℕ) → ((j : ℕ) → p ≤ j → j < p + n → length (key j) ≡ key_size) → length (keys_from key n p) ≡ key_size * n
unfolding keys_from
keys_from-length key zero p h = refl
keys_from-length key (suc n) p h =
    simp length-append (omega (arith, h p (omega arith) (omega arith), keys_from-length key n (suc p) (λ j a b. h j (omega arith) (omega arith))))

-- the key at a place of the row
pub keys_at_lem : (key : ℕ → List ℕ) (n p j : ℕ) → ((j : ℕ) → p ≤ j → j < p + n → length (key j) ≡ key_size) → j < n
    → part (keys_from key n p) (key_size * j) key_size ≡ key (p + j)
unfolding keys_from part
keys_at_lem key zero p j h l = absurd (omega arith)
keys_at_lem key (suc n) p zero h l =
    take_at (key p) (keys_from key n (suc p)) key_size (h p (omega arith) (omega arith)) ∙ ap key (omega arith)
keys_at_lem key (suc n) p (suc j) h l =
    let e : key_size * suc j ≡ length (key p) + key_size * j = omega (arith, h p (omega arith) (omega arith)) in
    rw (e, drop-append-add (key p) (keys_from key n (suc p)) (key_size * j))
    (keys_at_lem key n (suc p) j (λ i a b. h i (omega arith) (omega arith)) (omega arith) ∙ ap key (omega arith))

-- rows that agree, key by key
keys_along : (key key' : ℕ → List ℕ) (n p q : ℕ) → ((j : ℕ) → j < n → key (p + j) ≡ key' (q + j)) → keys_from key n p ≡ keys_from key' n q
unfolding keys_from
keys_along key key' zero p q h = refl
keys_along key key' (suc n) p q h =
    let e : key p ≡ key' q = rw (add-zero p, add-zero q) at (h 0 (omega arith)) in
    rw (e, keys_along key key' n (suc p) (suc q) (λ j a. ap key (omega arith) ∙ h (suc j) (omega arith) ∙ ap key' (omega arith)))

pub keys_agree : (key key' : ℕ → List ℕ) (n p : ℕ) → ((j : ℕ) → p ≤ j → j < p + n → key j ≡ key' j) → keys_from key n p ≡ keys_from key' n p
keys_agree key key' n p h = keys_along key key' n p p (λ j a. h (p + j) (omega arith) (omega arith))

-- ---- a row that is written key by key: j keys stand in front
module _ (key : ℕ → List ℕ) (n j : ℕ) (dst : List ℕ) where
  pub keys_next : (zs : List ℕ) → j < n → key_size * n ≤ length dst → zs ≡ key j → length zs ≡ key_size
      → take (key_size * j) dst ++ keys_from key (n - j) j
      ≡ take (key_size * (j + 1)) (put_mid (key_size * j) ((key_size * j + key_size) - key_size * j) dst zs) ++ keys_from key (n - (j + 1)) (j + 1)
  unfolding keys_from
  keys_next zs h f e l =
      let front = take (key_size * j) dst in
      let rest = drop ((key_size * j + key_size) - key_size * j) (drop (key_size * j) dst) in
      let i : n - j ≡ suc (n - (j + 1)) = omega arith in
      let m : suc j ≡ j + 1 = omega arith in
      let t : length front ≡ key_size * j = length-take-le (key_size * j) dst (omega arith) in
      let q : take (key_size * (j + 1)) (front ++ (zs ++ rest)) ≡ front ++ zs =
      rw (← append_assoc front zs rest) (take_at (front ++ zs) rest (key_size * (j + 1)) (length-append front zs ∙ omega arith)) in
      rw (q, i, m, e) (sym (append_assoc front (key j) (keys_from key (n - (j + 1)) (j + 1))))

  pub keys_done_lem : n ≤ j → length dst ≡ key_size * j → take (key_size * j) dst ++ keys_from key (n - j) j ≡ dst
  unfolding keys_from
  keys_done_lem h l =
      let i : n - j ≡ 0 = omega arith in
      rw (i, append-nil, take_all (key_size * j) dst (omega arith))

-- the keys behind them stand as they did
pub keys_behind : (n j : ℕ) (dst dst₀ zs : List ℕ) → j < n → key_size * n ≤ length dst → length zs ≡ key_size → drop (key_size * j) dst ≡ drop (key_size * j) dst₀
    → drop (key_size * (j + 1)) (put_mid (key_size * j) ((key_size * j + key_size) - key_size * j) dst zs) ≡ drop (key_size * (j + 1)) dst₀
keys_behind n j dst dst₀ zs h f l e =
    let a : key_size * (j + 1) ≡ key_size * j + length zs = omega arith in
    let b : key_size * (j + 1) ≡ key_size * j + key_size = omega arith in
    let split : (xs : List ℕ) → drop (key_size * (j + 1)) xs ≡ drop key_size (drop (key_size * j) xs) = λ xs. rw b (sym (drop-drop key_size (key_size * j) xs)) in
    ap (drop (key_size * (j + 1))) (lent dst (key_size * j) key_size (omega arith) zs zs refl l)
    ∙ rw a (drop_splice_past dst (key_size * j) zs (omega arith))
    ∙ ap (λ (m : ℕ). drop m dst) (sym a)
    ∙ split dst
    ∙ ap (drop key_size) e
    ∙ sym (split dst₀)

-- ---- a key of the next copy: the old one of a used position, the noise of any other
module _ (old letters noise : List ℕ) (p : ℕ) where
  pub renewed_used : get_or letters p 0 ≡ used_letter → renewed_key old letters noise p ≡ key_in_block old p
  unfolding renewed_key
  renewed_used e = rw (eq-eqb _ _ e)

  pub renewed_other : (get_or letters p 0 ≡ used_letter → ⊥) → renewed_key old letters noise p ≡ key_in_noise noise p
  unfolding renewed_key
  renewed_other e = rw (ne_eqb _ _ e)

-- ---- the same, slot by slot of a page: the key of a slot that is lent, over that in the row
pub kept_slot : (page letters keys : List ℕ) (first j : ℕ) (dst zs : List ℕ) → drop (key_size * j) dst ≡ drop (key_size * j) keys
    → zs ≡ cond (eqb (get_or letters (first + j) 0) used_letter) (take (((header_size + key_size * j) + key_size) - (header_size + key_size * j)) (drop (header_size + key_size * j) page)) (take ((key_size * j + key_size) - key_size * j) (drop (key_size * j) dst))
    → zs ≡ kept_key page letters keys first j
unfolding kept_key key_in_page
kept_slot page letters keys first j dst zs b e =
    e
    ∙ rw (b, lent-part page (header_size + key_size * j) key_size, lent-part keys (key_size * j) key_size)

-- a page of the next copy, from the old page and a page of noise
module _ (img letters noise : List ℕ) (last i first : ℕ) (h : first % keys_in_block ≡ keys_in_page * i) where
  old_slot : (j : ℕ) → j < keys_in_page → key_in_page (page_at img (last * pages_in_block + i)) j ≡ key_in_block (block_at img last) (first + j)
  unfolding key_in_block
  old_slot j l =
      let a : i * page_size ≡ page_size * key_page (first + j) = omega arith in
      let b : j ≡ key_slot (first + j) = omega arith in
      rw (page_of_block img last i (omega arith), a) (ap (key_in_page (part (block_at img last) (page_size * key_page (first + j)) page_size)) b)

  noise_slot : (j : ℕ) → j < keys_in_page → part (part noise (key_size * first) payload_size) (key_size * j) key_size ≡ key_in_noise noise (first + j)
  unfolding key_in_noise
  noise_slot j l =
      let a : key_size * first + key_size * j ≡ key_size * (first + j) = omega arith in
      part-part noise (key_size * first) payload_size (key_size * j) key_size (omega arith) ∙ ap (λ (m : ℕ). part noise m key_size) a

  pub renewed-page : keys_from (kept_key (page_at img (last * pages_in_block + i)) letters (part noise (key_size * first) payload_size) first) keys_in_page 0
      ≡ keys_from (renewed_key (block_at img last) letters noise) keys_in_page first
  unfolding kept_key renewed_key
  renewed-page = keys_along _ _ keys_in_page 0 first (λ j l. rw (zero-add, old_slot j l, noise_slot j l))

-- ---- the pages of a key block
-- a page of the block's first header with the page's number
pub keys_like : (epoch block i : ℕ) (header keys : List ℕ) (f : Frame) → header ≡ header_bytes f → f ≡ keys_frame epoch block 0
    → page_like header i keys ≡ keys_page epoch block i keys
unfolding keys_page
keys_like epoch block i header keys f h e = rw (h, e) (page_like_lem (keys_frame epoch block 0) i keys)

module _ (epoch block : ℕ) (key : ℕ → List ℕ) (sizes : (p : ℕ) → p < positions → length (key p) ≡ key_size) (h : block < 2) where
  keys-size : (i : ℕ) → i < pages_in_block → length (keys_from key keys_in_page (keys_in_block * block + keys_in_page * i)) ≡ payload_size
  keys-size i l = keys_from-length key keys_in_page (keys_in_block * block + keys_in_page * i) (λ j a b. sizes j (omega arith))

  pub key_page-size : (i : ℕ) → i < pages_in_block → length (key_block_page epoch block key i) ≡ page_size
  key_page-size i l = keys_length epoch block i (keys_from key keys_in_page (keys_in_block * block + keys_in_page * i)) (keys-size i l)

  pub key_block_inside : (n b : ℕ) → b * block_size + block_size ≤ n → Each (Inside n) (key_block_steps epoch block b key)
  unfolding key_block_steps
  key_block_inside n b f = row_inside b (key_block_page epoch block key) key_page-size n pages_in_block 0 f (omega arith)

  -- the key of a position of the block, read back
  pub key_block-key : (b p : ℕ) (img : List ℕ) → b * block_size + block_size ≤ length img → key_block p ≡ block
      → key_in_block (block_at (play_all (key_block_steps epoch block b key) img) b) p ≡ key p
  unfolding key_block_steps key_in_block
  key_block-key b p img f e =
      let i = key_page p in
      let row = row_steps b (key_block_page epoch block key) pages_in_block 0 in
      let page : part (block_at (play_all row img) b) (page_size * i) page_size ≡ key_block_page epoch block key i =
      ap (λ (a : ℕ). part (block_at (play_all row img) b) a page_size) (mul_comm page_size i)
      ∙ sym (page_of_block (play_all row img) b i (omega arith))
      ∙ row-page-done b (key_block_page epoch block key) key_page-size pages_in_block img (omega arith) f i (omega arith) in
      ap (λ (xs : List ℕ). key_in_page xs (key_slot p)) page
      ∙ key_back epoch block i (keys_from key keys_in_page (keys_in_block * block + keys_in_page * i)) (key_slot p) (keys-size i (omega arith)) (omega arith)
      ∙ keys_at_lem key keys_in_page (keys_in_block * block + keys_in_page * i) (key_slot p) (λ j a b. sizes j (omega arith)) (omega arith)
      ∙ ap key (omega arith)

-- keys that agree at the block's positions make the same block
pub key_block_agree : (epoch block b : ℕ) (key key' : ℕ → List ℕ) → ((p : ℕ) → key_block p ≡ block → key p ≡ key' p)
    → key_block_steps epoch block b key ≡ key_block_steps epoch block b key'
unfolding key_block_steps
key_block_agree epoch block b key key' h =
    list_from_agree _ _ pages_in_block 0
    (λ i l m. ap (λ (keys : List ℕ). program (b * pages_in_block + i) (keys_page epoch block i keys))
    (keys_agree key key' keys_in_page (keys_in_block * block + keys_in_page * i) (λ j c d. h j (omega arith))))

pub key_block_count : (epoch block b : ℕ) (key : ℕ → List ℕ) → length (key_block_steps epoch block b key) ≡ pages_in_block
unfolding key_block_steps
key_block_count epoch block b key = length-list_from _ pages_in_block 0

pub key_block_steps_lem : (epoch block b : ℕ) (key : ℕ → List ℕ) → key_block_steps epoch block b key ≡ row_steps b (key_block_page epoch block key) pages_in_block 0
unfolding key_block_steps
key_block_steps_lem epoch block b key = refl
