-- The sets that cycles leave: what the test says of each register, and that each way to move a set leads to one of them.
use Prim.Native.Nat.{ℕ, zero, suc, ◌+◌, ◌*◌, ◌<◌, ◌≤◌, ◌/◌}
use native.Mathlib.Omega.{arith}
use mathlib.Core.Path.{◌≡◌, refl, ap, ◌∙◌}
use mathlib.Core.Bool.{Bool, true, false, cond, not, ◌&&◌}
use mathlib.Core.List.{List}
use lib.ListN.{length, drop, length-replicate}
use lib.Dec.{eqb, ltb}
use borrow.Author.Tests.{eq-eqb, ne_eqb, lt-ltb, le-ltb, eqb-true, ltb-true}
use native.Mathlib.Decide.{ℕ_discrete}
use Rattle.base.proofs.Choice.{and-true, and_intro}
use Rattle.base.proofs.Eachs.{all_are-replicate}
use Rattle.page.specs.Frame.{page_size, erased}
use Rattle.image.specs.Size.{block_size, pages_in_block, pages, size_right}
use Rattle.image.proofs.Looks.{sized as sized_of}
use Rattle.page.specs.Form.{is_empty}
use Rattle.chip.specs.declared.State.{State}
use Rattle.chip.specs.declared.State.TheVariants.{Idle, Status, Output, Read, Program, Erase}
use Rattle.chip.specs.declared.Registers.{Registers}
use Rattle.chip.specs.Registers.{all_cycles, column_cycles, blank_page, resting, begun, dropped, column_weight, row_weight, column_limit, row_limit, state_fits, columns_of, address_fits, sent_to, valid, counts_as}
use Rattle.chip.specs.Bus.{addressed, judged}

-- ---- the test, part by part
pub record Fits (n : ℕ) (r : Registers) : Type 0 where
  pub sized : length r.page ≡ page_size
  pub stated : state_fits r.state r.cycles r.column r.failed ≡ true
  pub placed : address_fits (columns_of r.state) n r.cycles r.column r.row ≡ true
  pub blank : is_empty (drop (sent_to r.state r.cycles r.column) r.page) ≡ true

pub fits : (n : ℕ) (r : Registers) → valid n r ≡ true → Fits n r
unfolding valid
fits n r e =
    let a = and-true _ (is_empty (drop (sent_to r.state r.cycles r.column) r.page)) e in
    let b = and-true _ (address_fits (columns_of r.state) n r.cycles r.column r.row) a.0 in
    let c = and-true (eqb (length r.page) page_size) (state_fits r.state r.cycles r.column r.failed) b.0 in
    record { sized = eqb-true _ _ c.0; stated = c.1; placed = b.1; blank = a.1 }

pub fits-valid : (n : ℕ) (r : Registers) → Fits n r → valid n r ≡ true
unfolding valid
fits-valid n r f = rw (eq-eqb _ _ f.sized, f.stated, f.placed, f.blank)

-- ---- the address
pub record Below (k column row : ℕ) : Type 0 where
  pub column_below : column < column_limit k
  pub row_below : row < row_limit k

pub record Inside (columns n column row : ℕ) : Type 0 where
  pub column_inside : column < columns
  pub row_inside : row < n

module _ (columns n k column row : ℕ) where
  pub fits_open : address_fits columns n k column row ≡ true → k < all_cycles → Below k column row
  unfolding address_fits
  fits_open e h =
      let t = and-true (ltb column (column_limit k)) (ltb row (row_limit k)) (rw (lt-ltb k all_cycles h) at e) in
      record { column_below = ltb-true column (column_limit k) t.0; row_below = ltb-true row (row_limit k) t.1 }

  pub open_fits : Below k column row → k < all_cycles → address_fits columns n k column row ≡ true
  unfolding address_fits
  open_fits b h = rw (lt-ltb k all_cycles h) (and_intro (ltb column (column_limit k)) (ltb row (row_limit k)) (lt-ltb column (column_limit k)
      b.column_below) (lt-ltb row (row_limit k) b.row_below))

  pub fits_whole : address_fits columns n k column row ≡ true → all_cycles ≤ k → (k ≡ all_cycles) × Inside columns n column row
  unfolding address_fits
  fits_whole e h =
      let t = and-true (eqb k all_cycles && ltb column columns) (ltb row n) (rw (le-ltb k all_cycles h) at e) in
      let u = and-true (eqb k all_cycles) (ltb column columns) t.0 in
      (eqb-true k all_cycles u.0, record { column_inside = ltb-true column columns u.1; row_inside = ltb-true row n t.1 })

pub whole-fits : (columns n column row : ℕ) → Inside columns n column row → address_fits columns n all_cycles column row ≡ true
unfolding address_fits
whole-fits columns n column row i = and_intro (ltb column columns) (ltb row n) (lt-ltb column columns i.column_inside) (lt-ltb row n i.row_inside)

-- what holds of each count of cycles that leaves the address open
pub five : (P : ℕ → Type 0) → P 0 → P 1 → P 2 → P 3 → P 4 → (k : ℕ) → k < 5 → P k
five P a b c d e zero h = a
five P a b c d e (suc zero) h = b
five P a b c d e (suc (suc zero)) h = c
five P a b c d e (suc (suc (suc zero))) h = d
five P a b c d e (suc (suc (suc (suc zero)))) h = e
five P a b c d e (suc (suc (suc (suc (suc k))))) h = absurd (omega arith)

pub column_most : (k : ℕ) → k < 5 → column_limit k ≤ 65536
column_most = five (λ k. column_limit k ≤ 65536) (omega arith) (omega arith) (omega arith) (omega arith) (omega arith)

pub row_most : (k : ℕ) → k < 5 → row_limit k ≤ 65536
row_most = five (λ k. row_limit k ≤ 65536) (omega arith) (omega arith) (omega arith) (omega arith) (omega arith)

module _ (x : ℕ) (byte : x < 256) where
  pub column_next : (k : ℕ) → k < 5 → (column : ℕ) → column < column_limit k → column + x * column_weight k < column_limit (k + 1)
  column_next =
      five (λ k. (column : ℕ) → column < column_limit k → column + x * column_weight k < column_limit (k + 1))
      (λ column h. omega arith) (λ column h. omega arith) (λ column h. omega arith) (λ column h. omega arith) (λ column h. omega arith)

  pub row_next : (k : ℕ) → k < 5 → k < 4 → (row : ℕ) → row < row_limit k → row + x * row_weight k < row_limit (k + 1)
  row_next =
      five (λ k. k < 4 → (row : ℕ) → row < row_limit k → row + x * row_weight k < row_limit (k + 1))
      (λ l row h. omega arith) (λ l row h. omega arith) (λ l row h. omega arith) (λ l row h. omega arith) (λ l row h. absurd (omega arith))

-- ---- the test fails at a part, and goes by the page register where the other parts pass
second_fails : (a c d : Bool) → ((a && false) && c) && d ≡ false
second_fails true c d = refl
second_fails false c d = refl

third_fails : (a b d : Bool) → ((a && b) && false) && d ≡ false
third_fails true true d = refl
third_fails true false d = refl
third_fails false b d = refl

module _ (n : ℕ) (r : Registers) where
  pub valid_unstated : state_fits r.state r.cycles r.column r.failed ≡ false → valid n r ≡ false
  unfolding valid
  valid_unstated e = rw e (second_fails (eqb (length r.page) page_size) (address_fits (columns_of r.state) n r.cycles r.column r.row) _)

  pub valid_unplaced : address_fits (columns_of r.state) n r.cycles r.column r.row ≡ false → valid n r ≡ false
  unfolding valid
  valid_unplaced e = rw e (third_fails (eqb (length r.page) page_size) (state_fits r.state r.cycles r.column r.failed) _)

  pub valid_blank : length r.page ≡ page_size → state_fits r.state r.cycles r.column r.failed ≡ true
      → address_fits (columns_of r.state) n r.cycles r.column r.row ≡ true
      → valid n r ≡ is_empty (drop (sent_to r.state r.cycles r.column) r.page)
  unfolding valid
  valid_blank e s p = rw (eq-eqb _ _ e, s, p)

-- the bytes that may have been sent end in the page
pub sent-in_page : (s : State) (n cycles column row : ℕ) → address_fits (columns_of s) n cycles column row ≡ true → sent_to s cycles column ≤ page_size
sent-in_page Idle n cycles column row e = omega arith
sent-in_page Status n cycles column row e = omega arith
sent-in_page Output n cycles column row e = omega arith
sent-in_page Read n cycles column row e = omega arith
sent-in_page Program n cycles column row e = elim (ℕ_discrete cycles all_cycles) [ yes h ↦ whole h | no h ↦ part h ]
  where
    whole : cycles ≡ all_cycles → cond (eqb cycles all_cycles) column 0 ≤ page_size
    whole h =
        let i = fits_whole (page_size + 1) n cycles column row e (omega arith) in
        rw (eq-eqb cycles all_cycles h) (omega (arith, i.1.column_inside))

    part : (cycles ≡ all_cycles → ⊥) → cond (eqb cycles all_cycles) column 0 ≤ page_size
    part h = rw (ne_eqb cycles all_cycles h) (omega arith)
sent-in_page Erase n cycles column row e = omega arith

-- ---- sets without a command, and sets at the start of one
blank_empty : is_empty blank_page ≡ true
unfolding is_empty blank_page
blank_empty = all_are-replicate erased page_size

blank_length : length blank_page ≡ page_size
unfolding blank_page
blank_length = length-replicate page_size erased

module _ (n : ℕ) where
  pub idle_valid : (failed : Bool) → valid n (resting Idle failed) ≡ true
  unfolding resting address_fits
  idle_valid failed = fits-valid n _ (record { sized = blank_length; stated = refl; placed = refl; blank = blank_empty })

  pub status_valid : (failed : Bool) → valid n (resting Status failed) ≡ true
  unfolding resting address_fits
  status_valid failed = fits-valid n _ (record { sized = blank_length; stated = refl; placed = refl; blank = blank_empty })

  pub read-valid : valid n (begun Read 0) ≡ true
  unfolding begun address_fits
  read-valid = fits-valid n _ (record { sized = blank_length; stated = refl; placed = refl; blank = blank_empty })

  pub program-valid : valid n (begun Program 0) ≡ true
  unfolding begun address_fits
  program-valid = fits-valid n _ (record { sized = blank_length; stated = refl; placed = refl; blank = blank_empty })

  pub erase-valid : valid n (begun Erase column_cycles) ≡ true
  unfolding begun address_fits
  erase-valid = fits-valid n _ (record { sized = blank_length; stated = refl; placed = refl; blank = blank_empty })

  -- any set counts as one of them
  pub counts_as-valid : (r : Registers) → valid n (counts_as n r) ≡ true
  unfolding counts_as
  counts_as-valid r = go (valid n r) refl
    where
      go : (b : Bool) → valid n r ≡ b → valid n (cond b r dropped) ≡ true
      go true e = e
      go false e = idle_valid true

  pub counts_as-same : (r : Registers) → valid n r ≡ true → counts_as n r ≡ r
  unfolding counts_as
  counts_as-same r e = rw e

-- ---- what a valid set lets the bus do
module _ (n : ℕ) (r : Registers) (v : valid n r ≡ true) where
  pub open_small : r.cycles < all_cycles → (r.cycles < 5) × (r.column < 65536) × (r.row < 65536)
  open_small h =
      let b = fits_open (columns_of r.state) n r.cycles r.column r.row (fits n r v).placed h in
      (h, omega (arith, b.column_below, column_most r.cycles h), omega (arith, b.row_below, row_most r.cycles h))

  pub whole_row : r.cycles ≡ all_cycles → r.row < n
  whole_row h = (fits_whole (columns_of r.state) n r.cycles r.column r.row (fits n r v).placed (omega arith)).1.row_inside

  pub output_whole : r.state ≡ Output → r.cycles ≡ all_cycles
  output_whole e = eqb-true r.cycles all_cycles (and-true (not r.failed) (eqb r.cycles all_cycles) (rw e at (fits n r v).stated)).1

module _ (img : List ℕ) (right : size_right img ≡ true) where
  pub pages_most : pages img ≤ 4096
  pages_most = let s = sized_of img right in omega (arith, s.paged, s.most)

  pub row_there : (r : Registers) → valid (pages img) r ≡ true → r.cycles ≡ all_cycles
      → (r.row * page_size + page_size ≤ length img) × (r.row / pages_in_block * block_size + block_size ≤ length img)
  row_there r v e =
      let s = sized_of img right in
      let h = whole_row (pages img) r v e in
      (omega (arith, h, s.paged, s.full), omega (arith, h, s.paged, s.full))

-- ---- an address byte, over the set that it gives
module _ (n x : ℕ) (r q : Registers) (e : q ≡ addressed x r) where
  pub judged_open : q.cycles < all_cycles → q ≡ judged n (addressed x r)
  judged_open h = go q h ∙ ap (judged n) e
    where
      go : (q : Registers) → q.cycles < all_cycles → q ≡ judged n q
      go q h = rw (lt-ltb q.cycles all_cycles h)

  pub judged-column : all_cycles ≤ q.cycles → page_size ≤ q.column → dropped ≡ judged n (addressed x r)
  judged-column h k = go q h k ∙ ap (judged n) e
    where
      go : (q : Registers) → all_cycles ≤ q.cycles → page_size ≤ q.column → dropped ≡ judged n q
      go q h k = rw (le-ltb q.cycles all_cycles h, le-ltb q.column page_size k)

  pub judged-row : all_cycles ≤ q.cycles → q.column < page_size → n ≤ q.row → dropped ≡ judged n (addressed x r)
  judged-row h k l = go q h k l ∙ ap (judged n) e
    where
      go : (q : Registers) → all_cycles ≤ q.cycles → q.column < page_size → n ≤ q.row → dropped ≡ judged n q
      go q h k l = rw (le-ltb q.cycles all_cycles h, lt-ltb q.column page_size k, le-ltb q.row n l)

  pub judged_inside : all_cycles ≤ q.cycles → q.column < page_size → q.row < n → q ≡ judged n (addressed x r)
  judged_inside h k l = go q h k l ∙ ap (judged n) e
    where
      go : (q : Registers) → all_cycles ≤ q.cycles → q.column < page_size → q.row < n → q ≡ judged n q
      go q h k l = rw (le-ltb q.cycles all_cycles h, lt-ltb q.column page_size k, lt-ltb q.row n l)
