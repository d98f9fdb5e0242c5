-- What one step of the flash, whole or cut, leaves of the image's length, of each page and of each block.
use Prim.Native.Nat.{ℕ, ◌+◌, ◌-◌, ◌*◌, ◌/◌, ◌%◌, ◌<◌, ◌≤◌, min}
use native.Mathlib.Omega.{arith}
use native.Mathlib.Nat.{add-zero}
use native.Mathlib.Decide.{dec_le, dec_lt}
use mathlib.Core.Path.{◌≡◌, refl, sym, ap, subst, ◌∙◌}
use mathlib.Core.List.{List, ◌++◌, append-nil}
use lib.ListN.{length, get_or, drop, replicate, length-append, length-drop, length-replicate, get_or-replicate, get_or-append}
use lib.Seq.{drop-length, get_or-append-add, get_or-drop, ext_get_or}
use Rattle.base.specs.Part.{part, splice}
use Rattle.base.proofs.Parts.{part_length, part_at, part-part, part-splice, part-splice-before, part-splice-after, part-splice-within, splice-length}
use Rattle.page.specs.Frame.{page_size, erased}
use Rattle.page.specs.Page.{cut_page}
use Rattle.page.proofs.Pages.{cut-length, cut-whole}
use Rattle.image.specs.Size.{block_size, pages_in_block}
use Rattle.image.specs.Look.{page_at, block_at}
use Rattle.image.specs.Step.{Step, program, erase, Inside, up_to, whole}

-- ---- bytes of which the first k were erased: FFh, the rest as before
unfoldable pub cleared : ℕ → List ℕ → List ℕ
cleared k xs = replicate (min k (length xs)) erased ++ drop (min k (length xs)) xs

pub cleared-length : (k : ℕ) (xs : List ℕ) → length (cleared k xs) ≡ length xs
unfolding cleared
cleared-length k xs = simp (length-append, length-replicate, length-drop) (omega arith)

pub cleared-none : (xs : List ℕ) → cleared 0 xs ≡ xs
unfolding cleared
cleared-none xs = let m : min 0 (length xs) ≡ 0 = omega arith in rw m

pub cleared_all : (k : ℕ) (xs : List ℕ) → length xs ≤ k → cleared k xs ≡ replicate (length xs) erased
unfolding cleared
cleared_all k xs h =
    let m : min k (length xs) ≡ length xs = omega arith in
    rw (m, drop-length, append-nil)

pub cleared-before : (k : ℕ) (xs : List ℕ) (j d : ℕ) → j < length xs → j < k → get_or (cleared k xs) j d ≡ erased
unfolding cleared
cleared-before k xs j d l h =
    get_or-append (replicate (min k (length xs)) erased) (drop (min k (length xs)) xs) d j (simp length-replicate (omega arith)) ∙ get_or-replicate (min k (length xs)) j erased d (omega arith)

pub cleared-after : (k : ℕ) (xs : List ℕ) (j d : ℕ) → j < length xs → k ≤ j → get_or (cleared k xs) j d ≡ get_or xs j d
unfolding cleared
cleared-after k xs j d l h =
    let m : min k (length xs) ≡ k = omega arith in
    let e : j ≡ length (replicate k erased) + (j - k) = simp length-replicate (omega arith) in
    let f : k + (j - k) ≡ j = omega arith in
    rw m (ap (λ (i : ℕ). get_or (replicate k erased ++ drop k xs) i d) e ∙ get_or-append-add (replicate k erased) (drop k xs) (j - k) d ∙ get_or-drop k xs (j - k) d ∙ ap (λ (i : ℕ). get_or xs i d) f)

-- a part of them
pub part-cleared : (k : ℕ) (xs : List ℕ) (a n : ℕ) → a + n ≤ length xs → part (cleared k xs) a n ≡ cleared (k - a) (part xs a n)
part-cleared k xs a n h =
    ext_get_or 0 (part (cleared k xs) a n) (cleared (k - a) (part xs a n)) (l ∙ sym (cleared-length (k - a) (part xs a n) ∙ m)) (λ i b. at i (subst (λ (t : ℕ). i < t) l b) (dec_lt (a + i) k))
  where
    l : length (part (cleared k xs) a n) ≡ n
    l = part_length (cleared k xs) a n (rw (cleared-length k xs) h)

    m : length (part xs a n) ≡ n
    m = part_length xs a n h

    at : (i : ℕ) → i < n → Dec (a + i < k) → get_or (part (cleared k xs) a n) i 0 ≡ get_or (cleared (k - a) (part xs a n)) i 0
    at i b (yes c) =
        part_at (cleared k xs) a n i 0 b ∙ cleared-before k xs (a + i) 0 (omega arith) c ∙ sym (cleared-before (k - a) (part xs a n) i 0 (rw m b) (omega arith))
    at i b (no c) =
        part_at (cleared k xs) a n i 0 b
        ∙ cleared-after k xs (a + i) 0 (omega arith) (omega arith)
        ∙ sym (part_at xs a n i 0 b)
        ∙ sym (cleared-after (k - a) (part xs a n) i 0 (rw m b) (omega arith))

-- ---- what a step writes up to its byte k: where, what, and how far its page or block goes
abbrev start : Step → ℕ
start (program g page) = g * page_size
start (erase b) = b * block_size

abbrev bytes_to : ℕ → Step → List ℕ
bytes_to k (program g page) = cut_page k page
bytes_to k (erase b) = replicate (min k block_size) erased

abbrev size : Step → ℕ
size (program g page) = page_size
size (erase b) = block_size

up_to-splice : (k : ℕ) (s : Step) (img : List ℕ) → up_to k s img ≡ splice img (start s) (bytes_to k s)
unfolding up_to
up_to-splice k (program g page) img = refl
up_to-splice k (erase b) img = refl

inside_fits : (n : ℕ) (s : Step) → Inside n s → start s + size s ≤ n
inside_fits n (program g page) h = h.0
inside_fits n (erase b) h = h

-- a step up to a byte past its end is the whole step
pub up_to-whole : (k n : ℕ) (s : Step) (img : List ℕ) → Inside n s → block_size ≤ k → up_to k s img ≡ whole s img
unfolding up_to whole
up_to-whole k n (program g page) img ins h = rw (cut-whole k page ins.1 (omega arith))
up_to-whole k n (erase b) img ins h = let m : min k block_size ≡ block_size = omega arith in rw m

pub program-up_to-whole : (k g : ℕ) (page img : List ℕ) → length page ≡ page_size → page_size ≤ k → up_to k (program g page) img ≡ whole (program g page) img
unfolding up_to whole
program-up_to-whole k g page img l h = rw (cut-whole k page l h)

whole-up_to : (n : ℕ) (s : Step) (img : List ℕ) → Inside n s → whole s img ≡ up_to block_size s img
whole-up_to n s img ins = sym (up_to-whole block_size n s img ins (omega arith))

-- ---- the block that a step works in
abbrev pub block_of : Step → ℕ
block_of (program g page) = g / pages_in_block
block_of (erase b) = b

-- ---- what a step leaves as it was, cut or whole: the length, the other blocks and their pages, the other pages of its block
module _ (k : ℕ) (s : Step) (img : List ℕ) (ins : Inside (length img) s) where
  fits : length (bytes_to k s) ≤ size s
  fits = go s ins
    where
      go : (s : Step) → Inside (length img) s → length (bytes_to k s) ≤ size s
      go (program g page) h = omega (arith, cut-length k page h.1)
      go (erase b) h = rw length-replicate (omega arith)

  pub up_to-length : length (up_to k s img) ≡ length img
  up_to-length = rw (up_to-splice k s img) (splice-length img (start s) (bytes_to k s) (omega (arith, fits, inside_fits _ s ins)))

  before : (a n : ℕ) → a + n ≤ start s → part (up_to k s img) a n ≡ part img a n
  before a n h =
      rw (up_to-splice k s img) (part-splice-before img (start s) (bytes_to k s) (omega (arith, fits, inside_fits _ s ins)) a n h)

  after : (a n : ℕ) → start s + size s ≤ a → part (up_to k s img) a n ≡ part img a n
  after a n h =
      rw (up_to-splice k s img) (part-splice-after img (start s) (bytes_to k s) (omega (arith, fits, inside_fits _ s ins)) a n (omega (arith, fits)))

  elsewhere : (a n : ℕ) → Dec (a + n ≤ start s) → (start s < a + n → start s + size s ≤ a) → part (up_to k s img) a n ≡ part img a n
  elsewhere a n (yes h) f = before a n h
  elsewhere a n (no h) f = after a n (f (omega arith))

  pub block_up_to_other : (b : ℕ) → (block_of s ≡ b → ⊥) → block_at (up_to k s img) b ≡ block_at img b
  unfolding block_at
  block_up_to_other b h = elsewhere (b * block_size) block_size (dec_le (b * block_size + block_size) (start s)) (go s h)
    where
      go : (s : Step) → (block_of s ≡ b → ⊥) → start s < b * block_size + block_size → start s + size s ≤ b * block_size
      go (program g page) h f = omega arith
      go (erase c) h f = omega arith

  pub page_up_to_other : (g : ℕ) → (block_of s ≡ g / pages_in_block → ⊥) → page_at (up_to k s img) g ≡ page_at img g
  unfolding page_at
  page_up_to_other g h = elsewhere (g * page_size) page_size (dec_le (g * page_size + page_size) (start s)) (go s h)
    where
      go : (s : Step) → (block_of s ≡ g / pages_in_block → ⊥) → start s < g * page_size + page_size → start s + size s ≤ g * page_size
      go (program j page) h f = omega arith
      go (erase b) h f = omega arith

-- the other pages, of a program
pub page_program_up_to_other : (k g : ℕ) (page img : List ℕ) → Inside (length img) (program g page) → (j : ℕ) → (j ≡ g → ⊥) → page_at (up_to k (program g page) img) j ≡ page_at img j
unfolding page_at
page_program_up_to_other k g page img ins j h =
    elsewhere k (program g page) img ins (j * page_size) page_size (dec_le (j * page_size + page_size) (g * page_size)) (λ f. omega arith)

-- ---- the page that is programmed, the block that is erased
pub page-program-up_to : (k g : ℕ) (page img : List ℕ) → Inside (length img) (program g page) → page_at (up_to k (program g page) img) g ≡ cut_page k page
unfolding page_at up_to
page-program-up_to k g page img ins =
    let l : length (cut_page k page) ≡ page_size = cut-length k page ins.1 in
    subst (λ (n : ℕ). part (splice img (g * page_size) (cut_page k page)) (g * page_size) n ≡ cut_page k page) l
    (part-splice img (g * page_size) (cut_page k page) (omega (arith, ins.0)))

-- the front of a part replaced
front : (xs : List ℕ) (a n : ℕ) (ys : List ℕ) → a + n ≤ length xs → length ys ≤ n → part (splice xs a ys) a n ≡ ys ++ drop (length ys) (part xs a n)
unfolding splice
front xs a n ys f g =
    subst (λ (t : ℕ). part (splice xs t ys) a n ≡ splice (part xs a n) 0 ys) (add-zero a) (part-splice-within xs a n 0 ys f (omega arith))

cleared_front : (k m : ℕ) (xs : List ℕ) → length xs ≡ m → replicate (min k m) erased ++ drop (min k m) xs ≡ cleared k xs
unfolding cleared
cleared_front k m xs e = rw e

pub block_erase_up_to : (k b : ℕ) (img : List ℕ) → Inside (length img) (erase b) → block_at (up_to k (erase b) img) b ≡ cleared k (block_at img b)
unfolding block_at up_to
block_erase_up_to k b img ins =
    front img (b * block_size) block_size (replicate (min k block_size) erased) ins (rw length-replicate (omega arith))
    ∙ rw length-replicate (cleared_front k block_size (part img (b * block_size) block_size) (part_length img (b * block_size) block_size ins))

-- ---- a block's pages
-- page i of block b, and the block that page g is of
pub page_of_block : (img : List ℕ) (b i : ℕ) → i < pages_in_block → page_at img (b * pages_in_block + i) ≡ part (block_at img b) (i * page_size) page_size
unfolding page_at block_at
page_of_block img b i h =
    let e : (b * pages_in_block + i) * page_size ≡ b * block_size + i * page_size = omega arith in
    rw e (sym (part-part img (b * block_size) block_size (i * page_size) page_size (omega arith)))

pub page_in_block : (img : List ℕ) (g : ℕ) → page_at img g ≡ part (block_at img (g / pages_in_block)) (g % pages_in_block * page_size) page_size
page_in_block img g =
    let e : g ≡ g / pages_in_block * pages_in_block + g % pages_in_block = omega arith in
    ap (page_at img) e ∙ page_of_block img (g / pages_in_block) (g % pages_in_block) (omega arith)

-- a block that stays keeps its pages
pub page_of-same : (img img' : List ℕ) (g : ℕ) → block_at img' (g / pages_in_block) ≡ block_at img (g / pages_in_block) → page_at img' g ≡ page_at img g
page_of-same img img' g e = rw (page_in_block img' g, e) (sym (page_in_block img g))

pub block_length_lem : (img : List ℕ) (b : ℕ) → b * block_size + block_size ≤ length img → length (block_at img b) ≡ block_size
unfolding block_at
block_length_lem img b h = part_length img (b * block_size) block_size h

pub page-length : (img : List ℕ) (g : ℕ) → g * page_size + page_size ≤ length img → length (page_at img g) ≡ page_size
unfolding page_at
page-length img g h = part_length img (g * page_size) page_size h

-- page i of a block that is erased up to byte k: up to what is left of k at the page
pub page-erase-up_to : (k b i : ℕ) (img : List ℕ) → Inside (length img) (erase b) → i < pages_in_block
    → page_at (up_to k (erase b) img) (b * pages_in_block + i) ≡ cleared (k - i * page_size) (page_at img (b * pages_in_block + i))
page-erase-up_to k b i img ins h =
    page_of_block (up_to k (erase b) img) b i h
    ∙ ap (λ (xs : List ℕ). part xs (i * page_size) page_size) (block_erase_up_to k b img ins)
    ∙ part-cleared k (block_at img b) (i * page_size) page_size (omega (arith, block_length_lem img b ins))
    ∙ ap (cleared (k - i * page_size)) (sym (page_of_block img b i h))

pub page-erase-before : (k b i : ℕ) (img : List ℕ) → Inside (length img) (erase b) → i < pages_in_block → i * page_size + page_size ≤ k
    → page_at (up_to k (erase b) img) (b * pages_in_block + i) ≡ replicate page_size erased
page-erase-before k b i img ins h f =
    let l : length (page_at img (b * pages_in_block + i)) ≡ page_size = page-length img (b * pages_in_block + i) (omega arith) in
    page-erase-up_to k b i img ins h
    ∙ cleared_all (k - i * page_size) (page_at img (b * pages_in_block + i)) (omega (arith, l))
    ∙ ap (λ (n : ℕ). replicate n erased) l

pub page-erase-after : (k b i : ℕ) (img : List ℕ) → Inside (length img) (erase b) → i < pages_in_block → k ≤ i * page_size
    → page_at (up_to k (erase b) img) (b * pages_in_block + i) ≡ page_at img (b * pages_in_block + i)
page-erase-after k b i img ins h f =
    let e : k - i * page_size ≡ 0 = omega arith in
    page-erase-up_to k b i img ins h ∙ rw e (cleared-none (page_at img (b * pages_in_block + i)))

-- the block of a page that is programmed
pub block_program_up_to : (k b i : ℕ) (page img : List ℕ) → Inside (length img) (program (b * pages_in_block + i) page) → i < pages_in_block
    → b * block_size + block_size ≤ length img
    → block_at (up_to k (program (b * pages_in_block + i) page) img) b ≡ splice (block_at img b) (i * page_size) (cut_page k page)
unfolding block_at up_to
block_program_up_to k b i page img ins h f =
    let e : (b * pages_in_block + i) * page_size ≡ b * block_size + i * page_size = omega arith in
    let l : length (cut_page k page) ≡ page_size = cut-length k page ins.1 in
    rw e (part-splice-within img (b * block_size) block_size (i * page_size) (cut_page k page) f (omega arith))

-- ---- the same of whole steps
module _ (s : Step) (img : List ℕ) (ins : Inside (length img) s) where
  pub whole_length : length (whole s img) ≡ length img
  whole_length = rw (whole-up_to (length img) s img ins) (up_to-length block_size s img ins)

  pub block_whole_other : (b : ℕ) → (block_of s ≡ b → ⊥) → block_at (whole s img) b ≡ block_at img b
  block_whole_other b h = rw (whole-up_to (length img) s img ins) (block_up_to_other block_size s img ins b h)

  pub page_whole_other : (g : ℕ) → (block_of s ≡ g / pages_in_block → ⊥) → page_at (whole s img) g ≡ page_at img g
  page_whole_other g h = rw (whole-up_to (length img) s img ins) (page_up_to_other block_size s img ins g h)

module _ (g : ℕ) (page img : List ℕ) (ins : Inside (length img) (program g page)) where
  pub page_program_other : (j : ℕ) → (j ≡ g → ⊥) → page_at (whole (program g page) img) j ≡ page_at img j
  page_program_other j h =
      rw (whole-up_to (length img) (program g page) img ins) (page_program_up_to_other block_size g page img ins j h)

  pub page-program : page_at (whole (program g page) img) g ≡ page
  page-program =
      rw (whole-up_to (length img) (program g page) img ins) (page-program-up_to block_size g page img ins ∙ cut-whole block_size page ins.1 (omega arith))

module _ (b : ℕ) (img : List ℕ) (ins : Inside (length img) (erase b)) where
  pub block_erase : block_at (whole (erase b) img) b ≡ replicate block_size erased
  block_erase =
      let l : length (block_at img b) ≡ block_size = block_length_lem img b ins in
      rw (whole-up_to (length img) (erase b) img ins)
      (block_erase_up_to block_size b img ins ∙ cleared_all block_size (block_at img b) (omega arith) ∙ ap (λ (n : ℕ). replicate n erased) l)

  pub page-erase : (i : ℕ) → i < pages_in_block → page_at (whole (erase b) img) (b * pages_in_block + i) ≡ replicate page_size erased
  page-erase i h = rw (whole-up_to (length img) (erase b) img ins) (page-erase-before block_size b i img ins h (omega arith))

pub block_program : (b i : ℕ) (page img : List ℕ) → Inside (length img) (program (b * pages_in_block + i) page) → i < pages_in_block
    → b * block_size + block_size ≤ length img
    → block_at (whole (program (b * pages_in_block + i) page) img) b ≡ splice (block_at img b) (i * page_size) page
block_program b i page img ins h f =
    rw (whole-up_to (length img) (program (b * pages_in_block + i) page) img ins)
    (block_program_up_to block_size b i page img ins h f ∙ ap (splice (block_at img b) (i * page_size)) (cut-whole block_size page ins.1 (omega arith)))
