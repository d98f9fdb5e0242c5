-- Empty pages and blocks: a block is empty exactly if its pages are, and what a step does to emptiness.
use Prim.Native.Nat.{ℕ, zero, suc, ◌+◌, ◌*◌, ◌/◌, ◌≤◌, min}
use native.Mathlib.Omega.{arith}
use native.Mathlib.Decide.{ℕ_discrete}
use mathlib.Core.Path.{◌≡◌, refl, sym, ap, ◌∙◌}
use mathlib.Core.Bool.{Bool, true, false, ◌&&◌}
use mathlib.Core.List.{List, [], ◌∷◌, ◌++◌}
use lib.Dec.{eqb}
use lib.ListN.{length, take, drop, replicate, take-append-drop}
use lib.Seq.{take-add, drop-drop}
use Rattle.base.specs.Part.{part, splice}
use Rattle.base.specs.Search.{all_from}
use Rattle.base.specs.Each.{all_are}
use Rattle.base.proofs.Choice.{and-true, true-false}
use Rattle.base.proofs.Parts.{splice-part}
use Rattle.base.proofs.Searches.{all_holds, all_intro}
use Rattle.base.proofs.Eachs.{all_are-true, all_are-replicate}
use Rattle.page.specs.Frame.{page_size, erased}
use Rattle.page.specs.Form.{is_empty}
use Rattle.page.specs.Page.{cut_page}
use Rattle.image.specs.Size.{block_size, pages_in_block}
use Rattle.image.specs.Look.{page_at, block_at, page_empty, block_empty}
use Rattle.image.specs.Step.{program, erase, Inside, up_to, whole}
use Rattle.image.proofs.Step.{cleared, page-length, block_length_lem, block_erase, block_erase_up_to, block_up_to_other, page-program}

-- ---- bytes
all_are-append : (v : ℕ) (xs ys : List ℕ) → all_are v (xs ++ ys) ≡ all_are v xs && all_are v ys
unfolding all_are
all_are-append v [] ys = refl
all_are-append v (x ∷ xs) ys = go (eqb x v) (all_are-append v xs ys)
  where
    go : (b : Bool) → all_are v (xs ++ ys) ≡ all_are v xs && all_are v ys → b && all_are v (xs ++ ys) ≡ (b && all_are v xs) && all_are v ys
    go true e = e
    go false e = refl

pub is_empty-replicate : (n : ℕ) → is_empty (replicate n erased) ≡ true
unfolding is_empty
is_empty-replicate n = all_are-replicate erased n

is_empty-cleared : (k : ℕ) (xs : List ℕ) → is_empty xs ≡ true → is_empty (cleared k xs) ≡ true
unfolding is_empty cleared
is_empty-cleared k xs e =
    let m = min k (length xs) in
    let parted = sym (all_are-append erased (take m xs) (drop m xs)) ∙ ap (all_are erased) (take-append-drop m xs) ∙ e in
    let rest = (and-true (all_are erased (take m xs)) (all_are erased (drop m xs)) parted).1 in
    all_are-append erased (replicate m erased) (drop m xs) ∙ rw (all_are-replicate erased m, rest)

pub is_empty-true : (xs : List ℕ) (n : ℕ) → length xs ≡ n → is_empty xs ≡ true → xs ≡ replicate n erased
unfolding is_empty
is_empty-true xs n l e = all_are-true erased xs e ∙ ap (λ (m : ℕ). replicate m erased) l

-- ---- a block is empty exactly if its pages are
pages_empty : (img : List ℕ) (n g : ℕ) → is_empty (part img (g * page_size) (n * page_size)) ≡ all_from (page_empty img) n g
unfolding is_empty part page_empty page_at all_from all_are
pages_empty img zero g = refl
pages_empty img (suc n) g =
    let e : suc n * page_size ≡ page_size + n * page_size = omega arith in
    let f : g * page_size + page_size ≡ suc g * page_size = omega arith in
    rw (e, take-add page_size (n * page_size) (drop (g * page_size) img), drop-drop page_size (g * page_size) img, f)
    (all_are-append erased (take page_size (drop (g * page_size) img)) (take (n * page_size) (drop (suc g * page_size) img))
    ∙ ap (◌&&◌ (all_are erased (take page_size (drop (g * page_size) img)))) (pages_empty img n (suc g)))

pub block_empty_lem : (img : List ℕ) (b : ℕ) → block_empty img b ≡ all_from (page_empty img) pages_in_block (b * pages_in_block)
unfolding block_empty block_at
block_empty_lem img b =
    let e : b * block_size ≡ b * pages_in_block * page_size = omega arith in
    rw e (pages_empty img pages_in_block (b * pages_in_block))

pub empty_block_page : (img : List ℕ) (g : ℕ) → block_empty img (g / pages_in_block) ≡ true → page_empty img g ≡ true
empty_block_page img g e =
    all_holds (page_empty img) pages_in_block (g / pages_in_block * pages_in_block) g (sym (block_empty_lem img (g / pages_in_block)) ∙ e) (omega arith) (omega arith)

pub empty_pages_block : (img : List ℕ) (b : ℕ) → ((g : ℕ) → g / pages_in_block ≡ b → page_empty img g ≡ true) → block_empty img b ≡ true
empty_pages_block img b f =
    block_empty_lem img b ∙ all_intro (page_empty img) pages_in_block (b * pages_in_block) (λ g h k. f g (omega arith))

pub full_page_block : (img : List ℕ) (g : ℕ) → page_empty img g ≡ false → block_empty img (g / pages_in_block) ≡ false
full_page_block img g e = go (block_empty img (g / pages_in_block)) refl
  where
    go : (b : Bool) → block_empty img (g / pages_in_block) ≡ b → b ≡ false
    go true q = absurd (true-false (empty_block_page img g q) e)
    go false q = refl

-- ---- what empty pages and blocks hold
pub empty_page : (img : List ℕ) (g : ℕ) → g * page_size + page_size ≤ length img → page_empty img g ≡ true → page_at img g ≡ replicate page_size erased
unfolding page_empty
empty_page img g h e = is_empty-true (page_at img g) page_size (page-length img g h) e

pub empty_block : (img : List ℕ) (b : ℕ) → b * block_size + block_size ≤ length img → block_empty img b ≡ true → block_at img b ≡ replicate block_size erased
unfolding block_empty
empty_block img b h e = is_empty-true (block_at img b) block_size (block_length_lem img b h) e

pub page_empty_of : (img : List ℕ) (g n : ℕ) → page_at img g ≡ replicate n erased → page_empty img g ≡ true
unfolding page_empty
page_empty_of img g n e = ap is_empty e ∙ is_empty-replicate n

pub block_empty_of : (img : List ℕ) (b n : ℕ) → block_at img b ≡ replicate n erased → block_empty img b ≡ true
unfolding block_empty
block_empty_of img b n e = ap is_empty e ∙ is_empty-replicate n

-- ---- emptiness goes by the bytes
pub page_empty-same : (img img' : List ℕ) (g : ℕ) → page_at img' g ≡ page_at img g → page_empty img' g ≡ page_empty img g
unfolding page_empty
page_empty-same img img' g e = ap is_empty e

pub block_empty-same : (img img' : List ℕ) (b : ℕ) → block_at img' b ≡ block_at img b → block_empty img' b ≡ block_empty img b
unfolding block_empty
block_empty-same img img' b e = ap is_empty e

-- ---- after a step
pub erase_empties : (b : ℕ) (img : List ℕ) → Inside (length img) (erase b) → block_empty (whole (erase b) img) b ≡ true
erase_empties b img ins = block_empty_of (whole (erase b) img) b block_size (block_erase b img ins)

-- no erase, cut anywhere, makes an empty block other than empty
pub erase_stays_empty : (k d : ℕ) (img : List ℕ) (b : ℕ) → Inside (length img) (erase d) → block_empty img b ≡ true
    → block_empty (up_to k (erase d) img) b ≡ true
unfolding block_empty
erase_stays_empty k d img b ins e = elim (ℕ_discrete d b) [
  | yes z ↦ rw (← z) (ap is_empty (block_erase_up_to k d img ins) ∙ is_empty-cleared k (block_at img d) (rw z e))
  | no z ↦ ap is_empty (block_up_to_other k (erase d) img ins b z) ∙ e
]

pub program-fills : (g : ℕ) (page img : List ℕ) → Inside (length img) (program g page) → is_empty page ≡ false
    → block_empty (whole (program g page) img) (g / pages_in_block) ≡ false
unfolding page_empty
program-fills g page img ins e =
    full_page_block (whole (program g page) img) g (ap is_empty (page-program g page img ins) ∙ e)

-- to erase what is empty, and to program no byte of an empty page, changes nothing
splice-same : (img : List ℕ) (a n : ℕ) (ys : List ℕ) → a + n ≤ length img → part img a n ≡ ys → splice img a ys ≡ img
splice-same img a n ys h e = rw (← e) (splice-part img a n h)

pub program-none : (g : ℕ) (page img : List ℕ) → g * page_size + page_size ≤ length img → page_empty img g ≡ true → up_to 0 (program g page) img ≡ img
unfolding up_to cut_page page_at
program-none g page img h e = splice-same img (g * page_size) page_size (replicate page_size erased) h (empty_page img g h e)

pub erase-none : (b : ℕ) (img : List ℕ) → up_to 0 (erase b) img ≡ img
unfolding up_to splice
erase-none b img = take-append-drop (b * block_size) img

pub erase_empty : (b : ℕ) (img : List ℕ) → b * block_size + block_size ≤ length img → block_empty img b ≡ true → whole (erase b) img ≡ img
unfolding whole block_at
erase_empty b img h e = splice-same img (b * block_size) block_size (replicate block_size erased) h (empty_block img b h e)
