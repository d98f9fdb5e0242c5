-- The blocks that mount erases, over any image and record: none is chosen, and mount reads nothing of their pages.
use Prim.Native.Nat.{ℕ, ◌/◌, ◌%◌, ◌<◌}
use native.Mathlib.Omega.{arith}
use mathlib.Core.Path.{◌≡◌, refl, sym, ◌∙◌}
use mathlib.Core.Logic.{◌⊎◌, inl, inr}
use mathlib.Core.Bool.{Bool, true, false, cond, not, ◌&&◌, ◌||◌}
use mathlib.Core.List.{List}
use lib.Dec.{ltb}
use borrow.Author.Tests.{le-ltb}
use Rattle.base.proofs.Choice.{true-false}
use Rattle.base.proofs.Searches.{any_fails, any_all_fail}
use Rattle.page.specs.Header.{is_event_letter}
use Rattle.page.specs.declared.Form.{Form}
use Rattle.page.specs.declared.Form.TheVariants.{Empty, Whole, Torn, Spoilt}
use Rattle.image.specs.Size.{pages_in_block}
use Rattle.image.specs.Look.{form_at}
use Rattle.store.specs.Kind.{page_in, headed, is_chosen, has_events}
use Rattle.store.specs.Record.{Record, has_live}
use Rattle.store.specs.Mount.{covered_in, sequence_of, has_above, is_swept}
use Rattle.store.proofs.BlockKinds.{page_in_lem}
use Rattle.store.proofs.Erasures.{swept_is}
use Rattle.store.proofs.Views.{note_of}

-- ---- pages that mount reads nothing of
pub unheaded_silent : (s : ℕ) (m : Form) → headed m ≡ false → note_of s m ≡ Empty
unheaded_silent s Empty h = refl
unheaded_silent s (Whole f) h = rw h
unheaded_silent s (Torn f) h = rw h
unheaded_silent s Spoilt h = refl

below_silent : (s : ℕ) (m : Form) → ltb s (sequence_of m) ≡ false → note_of s m ≡ Empty
below_silent s Empty h = refl
below_silent s (Whole f) h = go (is_event_letter f.kind) h
  where
    go : (v : Bool) → ltb s (cond v f.number 0) ≡ false → cond (v && ltb s f.number) (Whole f) Empty ≡ Empty
    go true h = rw h
    go false h = refl
below_silent s (Torn f) h = go (is_event_letter f.kind) h
  where
    go : (v : Bool) → ltb s (cond v f.number 0) ≡ false → cond (v && ltb s f.number) (Torn f) Empty ≡ Empty
    go true h = rw h
    go false h = refl
below_silent s Spoilt h = refl

silent_below : (s : ℕ) (m : Form) → note_of s m ≡ Empty → ltb s (sequence_of m) ≡ false
silent_below s Empty h = le-ltb s 0 (omega arith)
silent_below s (Whole f) h = go (is_event_letter f.kind) (ltb s f.number) refl h
  where
    go : (v l : Bool) → ltb s f.number ≡ l → cond (v && l) (Whole f) Empty ≡ Empty → ltb s (cond v f.number 0) ≡ false
    go true true q h = absurd (let y : ◌≡◌ {A = ℕ} 0 1 = cc in omega arith)
    go true false q h = q
    go false l q h = le-ltb s 0 (omega arith)
silent_below s (Torn f) h = go (is_event_letter f.kind) (ltb s f.number) refl h
  where
    go : (v l : Bool) → ltb s f.number ≡ l → cond (v && l) (Torn f) Empty ≡ Empty → ltb s (cond v f.number 0) ≡ false
    go true true q h = absurd (let y : ◌≡◌ {A = ℕ} 0 1 = cc in omega arith)
    go true false q h = q
    go false l q h = le-ltb s 0 (omega arith)
silent_below s Spoilt h = le-ltb s 0 (omega arith)

pub silent_headed : (img : List ℕ) (b : ℕ) → has_events img b ≡ false → (i : ℕ) → i < pages_in_block → headed (form_at img (page_in b i)) ≡ false
silent_headed img b h i l = any_fails (λ i. headed (form_at img (page_in b i))) pages_in_block 0 i h (omega arith) (omega arith)

module _ (img : List ℕ) (r : Record) (b : ℕ) where
  abbrev covered : ℕ
  covered = covered_in img r.numbers.commit

  abbrev Silent : Type 0
  Silent = (i : ℕ) → i < pages_in_block → note_of covered (form_at img (page_in b i)) ≡ Empty

  -- ---- what is swept
  parts : is_swept img r b ≡ true → (is_chosen r.numbers b ≡ false) × ((has_events img b ≡ false) ⊎ ((has_live r.map b ≡ false) × (has_above img covered b ≡ false)))
  parts e = go (is_chosen r.numbers b) (has_events img b) (has_live r.map b) (has_above img covered b) (sym (swept_is img r b) ∙ e)
    where
      go : (c h l a : Bool) → not c && (not h || not l && not a) ≡ true → (c ≡ false) × ((h ≡ false) ⊎ ((l ≡ false) × (a ≡ false)))
      go true h l a q = absurd (true-false q refl)
      go false true true a q = absurd (true-false q refl)
      go false true false true q = absurd (true-false q refl)
      go false true false false q = (refl, inr (refl, refl))
      go false false l a q = (refl, inl refl)

  pub swept_unchosen : is_swept img r b ≡ true → is_chosen r.numbers b ≡ false
  swept_unchosen e = (parts e).0

  pub swept_silent : is_swept img r b ≡ true → Silent
  swept_silent e i h = go (parts e).1
    where
      go : (has_events img b ≡ false) ⊎ ((has_live r.map b ≡ false) × (has_above img covered b ≡ false)) → note_of covered (form_at img (page_in b i)) ≡ Empty
      go (inl q) = unheaded_silent covered (form_at img (page_in b i)) (silent_headed img b q i h)
      go (inr q) = below_silent covered (form_at img (page_in b i))
          (any_fails (λ i. ltb covered (sequence_of (form_at img (page_in b i)))) pages_in_block 0 i q.1 (omega arith) (omega arith))

  -- it has no live page, where live pages have headers
  pub swept_unlive : is_swept img r b ≡ true → (has_live r.map b ≡ true → has_events img b ≡ true) → has_live r.map b ≡ false
  swept_unlive e live = go (has_live r.map b) refl (parts e).1
    where
      go : (l : Bool) → has_live r.map b ≡ l → (has_events img b ≡ false) ⊎ ((has_live r.map b ≡ false) × (has_above img covered b ≡ false)) → l ≡ false
      go true q (inl z) = absurd (true-false (live q) z)
      go true q (inr z) = absurd (true-false q z.0)
      go false q z = refl

  -- and every such block is swept
  pub silent_swept : is_chosen r.numbers b ≡ false → Silent → has_live r.map b ≡ false → is_swept img r b ≡ true
  silent_swept c silent l =
      let n : has_above img covered b ≡ false = any_all_fail (λ i. ltb covered (sequence_of (form_at img (page_in b i)))) pages_in_block 0
      (λ i h k. silent_below covered (form_at img (page_in b i)) (silent i (omega arith))) in
      swept_is img r b ∙ rw (c, l, n) (go (has_events img b))
    where
      go : (h : Bool) → not h || true ≡ true
      go true = refl
      go false = refl

-- page by page: a page of a block that is swept is none that mount reads
pub swept_page : (img : List ℕ) (r : Record) (g : ℕ) → is_swept img r (g / pages_in_block) ≡ true
    → note_of (covered_in img r.numbers.commit) (form_at img g) ≡ Empty
swept_page img r g e =
    let q : page_in (g / pages_in_block) (g % pages_in_block) ≡ g = page_in_lem g in
    rw q at (swept_silent img r (g / pages_in_block) e (g % pages_in_block) (omega arith))
