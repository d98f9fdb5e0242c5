-- Pages of a block that are programmed one after the other, from page j on: what each page holds, all done or cut.
use Prim.Native.Nat.{ℕ, zero, suc, ◌+◌, ◌*◌, ◌<◌, ◌≤◌}
use native.Mathlib.Omega.{arith}
use native.Mathlib.Nat.{add-zero, zero-add, le_of_eq}
use native.Mathlib.Decide.{ℕ_discrete}
use mathlib.Core.Path.{◌≡◌, refl, ◌∙◌}
use mathlib.Core.List.{List}
use lib.ListN.{length}
use Rattle.base.specs.Each.{Each}
use Rattle.base.specs.Fold.{list_from}
use Rattle.base.proofs.Folds.{length-list_from}
use Rattle.page.specs.Frame.{page_size}
use Rattle.page.specs.Page.{cut_page}
use Rattle.image.specs.Size.{block_size, pages_in_block}
use Rattle.image.specs.Look.{page_at}
use Rattle.image.specs.Step.{Step, program, Inside, whole, play, play_all}
use Rattle.image.proofs.Step.{block_of, whole_length, page-program, page_program_other, page-program-up_to, page_program_up_to_other}
use Rattle.image.proofs.Plays.{play_all_lem}

module _ (b : ℕ) (page : ℕ → List ℕ) where
  -- the step that programs page i of block b, and those that program n pages from page j on
  abbrev pub row_step : ℕ → Step
  row_step i = program (b * pages_in_block + i) (page i)

  abbrev pub row_steps : ℕ → ℕ → List Step
  row_steps n j = list_from row_step n j

  pub row-in_block : (n j : ℕ) → j + n ≤ pages_in_block → Each (λ (s : Step). block_of s ≡ b) (row_steps n j)
  unfolding list_from
  row-in_block zero j h = tt
  row-in_block (suc n) j h = (omega arith, row-in_block n (suc j) (omega arith))

  pub row_in_no_other : (n j c : ℕ) → j + n ≤ pages_in_block → (c ≡ b → ⊥) → Each (λ (s : Step). block_of s ≡ c → ⊥) (row_steps n j)
  unfolding list_from
  row_in_no_other zero j c h o = tt
  row_in_no_other (suc n) j c h o = (λ e. omega arith, row_in_no_other n (suc j) c (omega arith) o)

  module _ (sizes : (i : ℕ) → i < pages_in_block → length (page i) ≡ page_size) where
    pub row_inside : (m n j : ℕ) → b * block_size + block_size ≤ m → j + n ≤ pages_in_block → Each (Inside m) (row_steps n j)
    unfolding list_from
    row_inside m zero j f h = tt
    row_inside m (suc n) j f h = ((omega arith, sizes j (omega arith)), row_inside m n (suc j) f (omega arith))

    step_inside : (img : List ℕ) (j : ℕ) → b * block_size + block_size ≤ length img → j < pages_in_block
        → Inside (length img) (program (b * pages_in_block + j) (page j))
    step_inside img j f h = (omega arith, sizes j h)

    abbrev after : ℕ → List ℕ → List ℕ
    after j img = whole (program (b * pages_in_block + j) (page j)) img

    after-fits : (img : List ℕ) (j : ℕ) → b * block_size + block_size ≤ length img → j < pages_in_block → b * block_size + block_size ≤ length (after j img)
    after-fits img j f h = rw (whole_length _ img (step_inside img j f h)) f

    -- ---- n pages from page j on, of which m are done whole and k bytes of the next
    -- a page before or after them stays
    row_outside : (m k n j g : ℕ) (img : List ℕ) → b * block_size + block_size ≤ length img → j + n ≤ pages_in_block
        → (b * pages_in_block + j ≤ g → b * pages_in_block + (j + n) ≤ g) → page_at (play m k (row_steps n j) img) g ≡ page_at img g
    unfolding list_from play
    row_outside m k zero j g img f h o = refl
    row_outside zero k (suc n) j g img f h o =
        page_program_up_to_other k (b * pages_in_block + j) (page j) img (step_inside img j f (omega arith)) g (λ e. let c = o (omega arith) in omega arith)
    row_outside (suc m) k (suc n) j g img f h o =
        row_outside m k n (suc j) g (after j img) (after-fits img j f (omega arith)) (omega arith) (λ e. let c = o (omega arith) in omega arith)
        ∙ page_program_other (b * pages_in_block + j) (page j) img (step_inside img j f (omega arith)) g (λ e. let c = o (omega arith) in omega arith)

    -- a page that was done whole
    row-whole : (m k n j i : ℕ) (img : List ℕ) → b * block_size + block_size ≤ length img → j + n ≤ pages_in_block → j ≤ i → i < j + m → i < j + n
        → page_at (play m k (row_steps n j) img) (b * pages_in_block + i) ≡ page i
    unfolding list_from play
    row-whole m k zero j i img f h lo hi top = absurd (omega arith)
    row-whole zero k (suc n) j i img f h lo hi top = absurd (omega arith)
    row-whole (suc m) k (suc n) j i img f h lo hi top =
        go (ℕ_discrete i j) (row-whole m k n (suc j) i (after j img) (after-fits img j f (omega arith)) (omega arith))
      where
        go : Dec (i ≡ j)
            → (suc j ≤ i → i < suc j + m → i < suc j + n → page_at (play m k (row_steps n (suc j)) (after j img)) (b * pages_in_block + i) ≡ page i)
            → page_at (play m k (row_steps n (suc j)) (after j img)) (b * pages_in_block + i) ≡ page i
        go (yes e) r =
            row_outside m k n (suc j) (b * pages_in_block + i) (after j img) (after-fits img j f (omega arith)) (omega arith) (λ c. omega arith)
            ∙ rw e (page-program (b * pages_in_block + j) (page j) img (step_inside img j f (omega arith)))
        go (no e) r = r (omega arith) (omega arith) (omega arith)

    -- the page in which the power failed
    row_cut : (m k n j : ℕ) (img : List ℕ) → b * block_size + block_size ≤ length img → j + n ≤ pages_in_block → m < n
        → page_at (play m k (row_steps n j) img) (b * pages_in_block + (j + m)) ≡ cut_page k (page (j + m))
    unfolding list_from play
    row_cut m k zero j img f h l = absurd (omega arith)
    row_cut zero k (suc n) j img f h l =
        rw add-zero (page-program-up_to k (b * pages_in_block + j) (page j) img (step_inside img j f (omega arith)))
    row_cut (suc m) k (suc n) j img f h l =
        let e : j + suc m ≡ suc j + m = omega arith in
        rw e (row_cut m k n (suc j) (after j img) (after-fits img j f (omega arith)) (omega arith) (omega arith))

    -- a page after it
    row_later : (m k n j i : ℕ) (img : List ℕ) → b * block_size + block_size ≤ length img → j + n ≤ pages_in_block → j + m < i
        → page_at (play m k (row_steps n j) img) (b * pages_in_block + i) ≡ page_at img (b * pages_in_block + i)
    unfolding list_from play
    row_later m k zero j i img f h l = refl
    row_later zero k (suc n) j i img f h l =
        page_program_up_to_other k (b * pages_in_block + j) (page j) img (step_inside img j f (omega arith)) (b * pages_in_block + i) (λ e. omega arith)
    row_later (suc m) k (suc n) j i img f h l =
        row_later m k n (suc j) i (after j img) (after-fits img j f (omega arith)) (omega arith) (omega arith)
        ∙ page_program_other (b * pages_in_block + j) (page j) img (step_inside img j f (omega arith)) (b * pages_in_block + i) (λ e. omega arith)

    -- ---- n pages from page 0 on
    module _ (n : ℕ) (img : List ℕ) (few : n ≤ pages_in_block) (f : b * block_size + block_size ≤ length img) where
      -- cut: the pages before the cut, the page of the cut, the pages after it and after them all
      pub row-page-before : (m k i : ℕ) → i < m → i < n → page_at (play m k (row_steps n 0) img) (b * pages_in_block + i) ≡ page i
      row-page-before m k i h l = row-whole m k n 0 i img f (omega arith) (omega arith) (omega arith) (omega arith)

      pub row-page-cut : (m k : ℕ) → m < n → page_at (play m k (row_steps n 0) img) (b * pages_in_block + m) ≡ cut_page k (page m)
      row-page-cut m k h = rw zero-add at (row_cut m k n 0 img f (omega arith) h)

      pub row-page_after : (m k i : ℕ) → m < i → page_at (play m k (row_steps n 0) img) (b * pages_in_block + i) ≡ page_at img (b * pages_in_block + i)
      row-page_after m k i h = row_later m k n 0 i img f (omega arith) (omega arith)

      pub row_page_past : (m k i : ℕ) → n ≤ i → page_at (play m k (row_steps n 0) img) (b * pages_in_block + i) ≡ page_at img (b * pages_in_block + i)
      row_page_past m k i h = row_outside m k n 0 (b * pages_in_block + i) img f (omega arith) (λ e. omega arith)

      -- all done
      pub row-page-done : (i : ℕ) → i < n → page_at (play_all (row_steps n 0) img) (b * pages_in_block + i) ≡ page i
      row-page-done i h = rw (← play_all_lem n 0 (row_steps n 0) img (le_of_eq (length-list_from _ n 0))) (row-page-before n 0 i h h)

      pub row-page-rest : (i : ℕ) → n ≤ i → page_at (play_all (row_steps n 0) img) (b * pages_in_block + i) ≡ page_at img (b * pages_in_block + i)
      row-page-rest i h = rw (← play_all_lem n 0 (row_steps n 0) img (le_of_eq (length-list_from _ n 0))) (row_page_past n 0 i h)
