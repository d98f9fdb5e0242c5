-- A block replaced: a row of pages in a new block, then the old block erased. What holds at each cut of the row and of the erase holds at each cut of both.
use Prim.Native.Nat.{ℕ, suc, ◌+◌, ◌*◌, ◌-◌, ◌<◌, ◌≤◌}
use native.Mathlib.Omega.{arith}
use native.Mathlib.Decide.{dec_lt}
use mathlib.Core.Path.{◌≡◌, sym, ap, subst, ◌∙◌}
use mathlib.Core.Bool.{cond}
use mathlib.Core.List.{List, [], ◌∷◌, ◌++◌}
use lib.ListN.{length, length-append}
use borrow.Author.Tests.{lt-ltb, le-ltb, eq-eqb, ne_eqb, le-leb, lt-leb}
use Rattle.page.specs.Frame.{page_size}
use Rattle.base.proofs.Folds.{length-list_from}
use Rattle.image.specs.Size.{block_size}
use Rattle.image.specs.Step.{Step, erase, up_to, whole, play, play_all}
use Rattle.image.proofs.Plays.{play_append_first, play-append-second, play-zero, play_all_lem, play_all-append, play_all_cons, play_all_nil}
use Rattle.image.proofs.Step.{up_to-whole}
use Rattle.image.proofs.Rows.{row_steps}
use Rattle.guarantee.specs.Call.{cut, made_whole}
use Rattle.guarantee.specs.Book.{Book}
use Rattle.guarantee.specs.Origin.{Origin, trace_up_to, trace}
use Rattle.store.proofs.Quiets.{Mountable}
use Rattle.store.proofs.IdleBlocks.{Idle}
use Rattle.guarantee.proofs.Unsettlings.{CutErase, cut_first, cut-second, row_uncut, erase_idle}
use Rattle.guarantee.proofs.Origins.{trace_first, trace-second, trace_one, trace_last}

module _ (img : List ℕ) (o : ℕ → Origin) (of : List ℕ → ℕ → Origin) (nb count old : ℕ) (page : ℕ → List ℕ) where
  abbrev row : List Step
  row = row_steps nb page count 0

  abbrev steps : List Step
  steps = row ++ (erase old ∷ [])

  row-length : length row ≡ count
  row-length = length-list_from _ count 0

  -- ---- the row whole, and k bytes of the erase
  trace-end : (k : ℕ) → trace of count k steps o ≡ trace_up_to of k (erase old) (trace of count 0 row o)
  trace-end k =
      subst (λ (l : ℕ). trace of l k steps o ≡ trace of 0 k (erase old ∷ []) (trace of count 0 row o)) (omega (arith, row-length))
      (subst (λ (l : ℕ). trace of (length row + 0) k steps o ≡ trace of 0 k (erase old ∷ []) (trace of l 0 row o)) row-length (trace-second of 0 k row (erase old ∷ []) o))
      ∙ trace_one of k (erase old) (trace of count 0 row o)

  play-end : (k : ℕ) → play count k steps img ≡ up_to k (erase old) (play count 0 row img)
  play-end k =
      let d : count - length row ≡ 0 = omega (arith, row-length) in
      play-append-second count k row (erase old ∷ []) img (omega (arith, row-length))
      ∙ rw d (play-zero k (erase old) [] (play_all row img))
      ∙ ap (up_to k (erase old)) (sym (play_all_lem count 0 row img (omega (arith, row-length))))

  -- ---- all steps
  pub steps-length : length steps ≡ count + 1
  steps-length = length-append row (erase old ∷ []) ∙ omega (arith, row-length)

  pub replaced_image : old * block_size + block_size ≤ length img → play_all steps img ≡ up_to block_size (erase old) (play count 0 row img)
  replaced_image inside =
      play_all-append row (erase old ∷ []) img
      ∙ play_all_cons (erase old) [] (play_all row img)
      ∙ play_all_nil (whole (erase old) (play_all row img))
      ∙ sym (up_to-whole block_size (length img) (erase old) (play_all row img) inside (omega arith))
      ∙ ap (up_to block_size (erase old)) (sym (play_all_lem count 0 row img (omega (arith, row-length))))

  pub replaced_trace : trace of (length steps) 0 steps o ≡ trace_up_to of block_size (erase old) (trace of count 0 row o)
  replaced_trace =
      subst (λ (j : ℕ). trace of j 0 steps o ≡ trace_up_to of block_size (erase old) (trace of count 0 row o)) (sym (length-append row (erase old ∷ [])))
      (trace-second of 1 0 row (erase old ∷ []) o
      ∙ trace_last of (erase old) (trace of (length row) 0 row o)
      ∙ ap (λ (l : ℕ). trace_up_to of block_size (erase old) (trace of l 0 row o)) row-length)

  -- ---- at each cut: b is the book until the row's last page is whole, b' from then on
  module _ (P : List ℕ → (ℕ → Origin) → Book → Type 0) (b b' : Book) (some : 0 < count)
      (growing : (n k : ℕ) → n < count → (suc n ≡ count → k < page_size) → P (play n k row img) (trace of n k row o) b)
      (moved : (n k : ℕ) → suc n ≡ count → page_size ≤ k → P (play n k row img) (trace of n k row o) b')
      (erasing : (k : ℕ) → P (up_to k (erase old) (play count 0 row img)) (trace_up_to of k (erase old) (trace of count 0 row o)) b') where
    abbrev book_at : ℕ → ℕ → Book
    book_at n k = cond (made_whole (cut n k) (count - 1)) b' b

    copying : (n k : ℕ) → n < count → P (play n k row img) (trace of n k row o) (book_at n k)
    copying n k h = elim (dec_lt n (count - 1)) [
      | yes l ↦ rw (le-ltb (count - 1) n (omega arith), ne_eqb (count - 1) n (λ z. omega arith)) (growing n k h (λ z. absurd (omega arith)))
      | no l ↦ elim (dec_lt k page_size) [
        | yes f ↦ rw (le-ltb (count - 1) n (omega arith), eq-eqb (count - 1) n (omega arith), lt-leb page_size k f) (growing n k h (λ z. f))
        | no f ↦ rw (le-ltb (count - 1) n (omega arith), eq-eqb (count - 1) n (omega arith), le-leb page_size k (omega arith)) (moved n k (omega arith) (omega arith))
      ]
    ]

    pub replaced_cut : (n k : ℕ) → n < count + 1 → P (play n k steps img) (trace of n k steps o) (book_at n k)
    replaced_cut n k h = elim (dec_lt n count) [
      | yes l ↦
          let p = play_append_first n k row (erase old ∷ []) img (rw row-length l) in
          let t = trace_first of n k row (erase old ∷ []) o (rw row-length l) in
          rw (p, t) (copying n k l)
      | no l ↦
          let z : n ≡ count = omega arith in
          rw (z, lt-ltb (count - 1) count (omega arith), play-end k, trace-end k) (erasing k)
    ]

  -- ---- where the erase was cut, its block is idle, if it was before
  pub replaced_idle : Mountable (play count 0 row img) → Idle (play count 0 row img) old → (n k d : ℕ) → n < count + 1 → CutErase n steps d
      → Idle (play n k steps img) d
  replaced_idle ok idle n k d h e = elim (dec_lt n count) [
    | yes l ↦ absurd (row_uncut nb page n count 0 d (cut_first n row (erase old ∷ []) d (rw row-length l) e))
    | no l ↦
        let z : n ≡ count = omega arith in
        let zero_left : n - length row ≡ 0 = omega (arith, row-length) in
        let here : old ≡ d = rw zero_left at (cut-second n row (erase old ∷ []) d (omega (arith, row-length)) e) in
        rw (z, play-end k, ← here) (erase_idle (play count 0 row img) ok old idle k old idle)
  ]
