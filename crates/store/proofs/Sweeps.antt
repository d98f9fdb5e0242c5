-- An image of which some blocks were erased whole: what stands in each block, in its pages, and of what kind it is.
use Prim.Native.Nat.{ℕ, zero, suc, ◌+◌, ◌*◌, ◌/◌, ◌<◌, ◌≤◌}
use native.Mathlib.Omega.{arith}
use native.Mathlib.Decide.{dec_lt}
use mathlib.Core.Path.{◌≡◌, refl, ◌∙◌}
use mathlib.Core.Logic.{◌⊎◌, inl, inr, ⊎_elim}
use mathlib.Core.Bool.{Bool, true, false, cond}
use mathlib.Core.List.{List, ◌∷◌, map}
use lib.ListN.{length, replicate}
use Rattle.base.specs.Search.{which_from}
use Rattle.base.proofs.Choice.{true-false}
use Rattle.page.specs.Frame.{erased}
use Rattle.page.specs.declared.Form.TheVariants.{Empty}
use Rattle.image.specs.Size.{block_size, pages_in_block, blocks}
use Rattle.image.specs.Look.{page_at, block_at, block_empty, form_at}
use Rattle.image.specs.Step.{erase, whole, play_all}
use Rattle.image.proofs.Step.{whole_length, block_whole_other, block_erase, page_of-same}
use Rattle.image.proofs.Empties.{empty_block_page, block_empty_of}
use Rattle.image.proofs.Forms.{form_same}
use Rattle.store.specs.Kind.{page_in, kind_of}
use Rattle.store.specs.declared.Kind.{Kind}
use Rattle.store.specs.declared.Kind.TheVariants.{Other}
use Rattle.store.proofs.BlockKinds.{empty_form, kind_unbegun, kind_agree}
use Rattle.store.proofs.LegalSteps.{legal-length, picked_legal}

-- ---- the blocks that a test picks from i on, erased in order
module _ (p : ℕ → Bool) where
  -- a block before them, or that it does not pick, stays
  picked_kept : (n i : ℕ) (img : List ℕ) (a : ℕ) → (i + n) * block_size ≤ length img → (a < i) ⊎ (p a ≡ false)
      → block_at (play_all (map erase (which_from p n i)) img) a ≡ block_at img a
  unfolding which_from play_all
  picked_kept zero i img a f h = refl
  picked_kept (suc n) i img a f h = go (p i) refl (picked_kept n (suc i))
    where
      later : (a < suc i) ⊎ (p a ≡ false)
      later = ⊎_elim (λ l. inl (omega arith)) (λ e. inr e) h

      apart : p i ≡ true → i ≡ a → ⊥
      apart e q = ⊎_elim (λ l. omega arith) (λ z. true-false (rw (← q) e) z) h

      go : (t : Bool) → p i ≡ t
          → ((img : List ℕ) (a : ℕ) → (suc i + n) * block_size ≤ length img → (a < suc i) ⊎ (p a ≡ false) → block_at (play_all (map erase (which_from p n (suc i))) img) a ≡ block_at img a)
          → block_at (play_all (map erase (cond t (i ∷ which_from p n (suc i)) (which_from p n (suc i)))) img) a ≡ block_at img a
      go true e r =
          let ins : i * block_size + block_size ≤ length img = omega arith in
          let l = whole_length (erase i) img ins in
          r (whole (erase i) img) a (omega arith) later ∙ block_whole_other (erase i) img ins a (apart e)
      go false e r = r img a (omega arith) later

  -- one that it picks is erased
  picked_gone : (n i : ℕ) (img : List ℕ) (a : ℕ) → (i + n) * block_size ≤ length img → i ≤ a → a < i + n → p a ≡ true
      → block_at (play_all (map erase (which_from p n i)) img) a ≡ replicate block_size erased
  unfolding which_from play_all
  picked_gone zero i img a f h k e = absurd (omega arith)
  picked_gone (suc n) i img a f h k e = go (p i) refl (dec_lt i a) (picked_gone n (suc i))
    where
      go : (t : Bool) → p i ≡ t → Dec (i < a)
          → ((img : List ℕ) (a : ℕ) → (suc i + n) * block_size ≤ length img → suc i ≤ a → a < suc i + n → p a ≡ true
          → block_at (play_all (map erase (which_from p n (suc i))) img) a ≡ replicate block_size erased)
          → block_at (play_all (map erase (cond t (i ∷ which_from p n (suc i)) (which_from p n (suc i)))) img) a ≡ replicate block_size erased
      go true q (yes l) r =
          let ins : i * block_size + block_size ≤ length img = omega arith in
          let m = whole_length (erase i) img ins in
          r (whole (erase i) img) a (omega arith) l (omega arith) e
      go true q (no l) r =
          let ins : i * block_size + block_size ≤ length img = omega arith in
          let m = whole_length (erase i) img ins in
          let z : a ≡ i = omega arith in
          rw z (picked_kept n (suc i) (whole (erase i) img) i (omega arith) (inl (omega arith)) ∙ block_erase i img ins)
      go false q (yes l) r = r img a (omega arith) l (omega arith) e
      go false q (no l) r = absurd (true-false e (let z : a ≡ i = omega arith in rw z q))

-- ---- the image then: the blocks picked are empty, the others as they were
pub record Swept (picked : ℕ → Bool) (img img' : List ℕ) : Type 0 where
  pub size : length img' ≡ length img
  pub kept : (b : ℕ) → picked b ≡ false → block_at img' b ≡ block_at img b
  pub gone : (b : ℕ) → b < blocks img → picked b ≡ true → block_empty img' b ≡ true

pub sweep : (picked : ℕ → Bool) (img : List ℕ) → Swept picked img (play_all (map erase (which_from picked (blocks img) 0)) img)
sweep picked img =
    record {
      size = legal-length (map erase (which_from picked (blocks img) 0)) img (picked_legal picked img);
      kept = λ b e. picked_kept picked (blocks img) 0 img b (omega arith) (inr e);
      gone = λ b h e. block_empty_of _ b block_size (picked_gone picked (blocks img) 0 img b (omega arith) (omega arith) (omega arith) e);
    }

-- ---- blocks and pages of such an image
module _ (picked : ℕ → Bool) (img img' : List ℕ) (swept : Swept picked img img') where
  pub kept-page : (g : ℕ) → picked (g / pages_in_block) ≡ false → page_at img' g ≡ page_at img g
  kept-page g e = page_of-same img img' g (swept.kept (g / pages_in_block) e)

  pub kept_form : (g : ℕ) → picked (g / pages_in_block) ≡ false → form_at img' g ≡ form_at img g
  kept_form g e = form_same img img' g (kept-page g e)

  pub kept-kind : (b : ℕ) → picked b ≡ false → kind_of img' b ≡ kind_of img b
  kept-kind b e = kind_agree img' img b (λ i h. kept-page (page_in b i) (let q : page_in b i / pages_in_block ≡ b = omega arith in rw q e))

  pub gone_form : (g : ℕ) → g / pages_in_block < blocks img → picked (g / pages_in_block) ≡ true → form_at img' g ≡ Empty
  gone_form g h e = empty_form img' g (empty_block_page img' g (swept.gone (g / pages_in_block) h e))

  gone_kind : (b : ℕ) → b < blocks img → picked b ≡ true → kind_of img' b ≡ Other
  gone_kind b h e =
      let q : page_in b 0 / pages_in_block ≡ b = omega arith in
      kind_unbegun img' b (empty_block_page img' (page_in b 0) (rw q (swept.gone b h e)))

  -- no block has a higher epoch than before
  pub epoch_lowered : (epoch : Kind → ℕ) → epoch Other ≡ 0 → (b : ℕ) → b < blocks img → epoch (kind_of img' b) ≤ epoch (kind_of img b)
  epoch_lowered epoch z b h = go (picked b) refl
    where
      go : (t : Bool) → picked b ≡ t → epoch (kind_of img' b) ≤ epoch (kind_of img b)
      go true e = rw (gone_kind b h e, z) (omega arith)
      go false e = rw (kept-kind b e) (omega arith)
