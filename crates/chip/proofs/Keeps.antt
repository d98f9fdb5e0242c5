-- Each cycle leads from a set that cycles leave to another, and so does each byte received.
use Prim.Native.Nat.{ℕ, zero, suc, ◌+◌, ◌*◌, ◌/◌, ◌<◌, ◌≤◌}
use native.Mathlib.Omega.{arith}
use mathlib.Core.Path.{◌≡◌, refl, sym, subst, ◌∙◌}
use mathlib.Core.Bool.{Bool, true, false, not, ◌&&◌, ◌||◌}
use mathlib.Core.List.{List, [], ◌∷◌}
use lib.ListN.{drop, set, length-set}
use lib.Seq.{drop-set-lt, drop-drop}
use lib.Dec.{eqb, leb, ltb}
use borrow.Author.Tests.{eq-eqb, ne_eqb, le-leb, eqb-true, leb-true, ltb-true, ltb-false}
use Rattle.base.proofs.Choice.{and-true, and_intro, true-false}
use Rattle.base.specs.Each.{all_are}
use Rattle.page.specs.Frame.{page_size, erased}
use Rattle.page.specs.Form.{is_empty}
use Rattle.image.specs.Size.{pages, size_right}
use Rattle.image.specs.Look.{page_empty}
use Rattle.chip.specs.declared.Mark.{Mark}
use Rattle.chip.specs.declared.Mark.TheVariants.{Command, Address, Data}
use Rattle.chip.specs.declared.Cycle.{Cycle}
use Rattle.chip.specs.declared.State.{State}
use Rattle.chip.specs.declared.State.TheVariants.{Idle, Status, Output, Read, Program, Erase}
use Rattle.chip.specs.declared.Registers.{Registers}
use Rattle.chip.specs.declared.Got.{Got}
use Rattle.chip.specs.Cycle.{read_first, program_first, erase_first}
use Rattle.chip.specs.Registers.{all_cycles, column_cycles, dropped, in_command, state_fits, columns_of, column_weight, row_weight, address_fits, sent_to, valid, counts_as}
use Rattle.chip.specs.Bus.{Chip, started, performed, addressed, judged, located, takes_data, filled, loaded, moved, sent, passed, shown, received}
use Rattle.chip.proofs.Sets.{Fits, fits, fits-valid, fits_open, open_fits, fits_whole, whole-fits, column_next, row_next, idle_valid, status_valid, read-valid, program-valid, erase-valid, counts_as-valid, output_whole}
use Rattle.chip.proofs.Moves.{by, commanded_by, located_by, loaded_by, sent-length}

-- ---- page registers: what is blank from a place on is blank from a later one on
empty_drop : (m : ℕ) (xs : List ℕ) → is_empty xs ≡ true → is_empty (drop m xs) ≡ true
unfolding is_empty all_are
empty_drop zero xs e = e
empty_drop (suc m) [] e = e
empty_drop (suc m) (x ∷ xs) e = empty_drop m xs (and-true (eqb x erased) (is_empty xs) e).1

empty_more : (m : ℕ) (xs : List ℕ) → is_empty (drop m xs) ≡ true → is_empty (drop (m + 1) xs) ≡ true
empty_more m xs e = subst (λ (ys : List ℕ). is_empty ys ≡ true) (drop-drop 1 m xs) (empty_drop 1 (drop m xs) e)

sent-none : (s : State) (k column : ℕ) → (k ≡ all_cycles → ⊥) → sent_to s k column ≡ 0
sent-none Idle k column h = refl
sent-none Status k column h = refl
sent-none Output k column h = refl
sent-none Read k column h = refl
sent-none Program k column h = rw (ne_eqb k all_cycles h)
sent-none Erase k column h = refl

columns_least : (s : State) → page_size ≤ columns_of s
columns_least Idle = omega arith
columns_least Status = omega arith
columns_least Output = omega arith
columns_least Read = omega arith
columns_least Program = omega arith
columns_least Erase = omega arith

-- ---- an address byte
state_more : (s : State) (k column x : ℕ) (failed : Bool) → in_command s ≡ true → state_fits s k column failed ≡ true
    → state_fits s (k + 1) (column + x * column_weight k) failed ≡ true
state_more Idle k column x failed i e = absurd (true-false {b = false} i refl)
state_more Status k column x failed i e = absurd (true-false {b = false} i refl)
state_more Output k column x failed i e = absurd (true-false {b = false} i refl)
state_more Read k column x failed i e = e
state_more Program k column x failed i e = e
state_more Erase k column x failed i e =
    let a = and-true (not failed && leb column_cycles k) (eqb column 0) e in
    let b = and-true (not failed) (leb column_cycles k) a.0 in
    let h : column_cycles ≤ k = leb-true column_cycles k b.1 in
    let c : column ≡ 0 = eqb-true column 0 a.1 in
    and_intro (not failed && leb column_cycles (k + 1)) (eqb (column + x * column_weight k) 0)
    (and_intro (not failed) (leb column_cycles (k + 1)) b.0 (le-leb column_cycles (k + 1) (omega arith)))
    (rw (ne_eqb k 0 (omega arith), ne_eqb k 1 (omega arith)) (eq-eqb (column + x * 0) 0 (omega arith)))

module _ (n x : ℕ) (byte : x < 256) (r : Registers) (v : valid n r ≡ true) (i : in_command r.state ≡ true) (h : r.cycles < all_cycles) where
  abbrev f : Fits n r
  f = fits n r v

  blank_page_lem : is_empty r.page ≡ true
  blank_page_lem = subst (λ (m : ℕ). is_empty (drop m r.page) ≡ true) (sent-none r.state r.cycles r.column (λ e. omega arith)) f.blank

  open_valid : r.cycles + 1 < all_cycles → valid n (addressed x r) ≡ true
  open_valid k =
      let b = fits_open (columns_of r.state) n r.cycles r.column r.row f.placed h in
      fits-valid n (addressed x r)
      (record {
        sized = f.sized;
        stated = state_more r.state r.cycles r.column x r.failed i f.stated;
        placed =
            open_fits (columns_of r.state) n (r.cycles + 1) (r.column + x * column_weight r.cycles) (r.row + x * row_weight r.cycles)
            (record {
              column_below = column_next x byte r.cycles h r.column b.column_below;
              row_below = row_next x byte r.cycles h (omega arith) r.row b.row_below;
            })
            k;
        blank = empty_drop (sent_to r.state (r.cycles + 1) (r.column + x * column_weight r.cycles)) r.page blank_page_lem;
      })

  whole-valid : all_cycles ≤ r.cycles + 1 → (addressed x r).column < page_size → (addressed x r).row < n → valid n (addressed x r) ≡ true
  whole-valid k c d =
      fits-valid n (addressed x r)
      (record {
        sized = f.sized;
        stated = state_more r.state r.cycles r.column x r.failed i f.stated;
        placed =
            subst (λ (m : ℕ). address_fits (columns_of r.state) n m (addressed x r).column (addressed x r).row ≡ true) (omega arith)
            (whole-fits (columns_of r.state) n (addressed x r).column (addressed x r).row
            (record { column_inside = omega (arith, columns_least r.state); row_inside = d }));
        blank = empty_drop (sent_to r.state (r.cycles + 1) (r.column + x * column_weight r.cycles)) r.page blank_page_lem;
      })

  judged-valid : valid n (judged n (addressed x r)) ≡ true
  judged-valid =
      by (λ (q : Registers). valid n q ≡ true) (ltb (r.cycles + 1) all_cycles) (addressed x r) _
      (λ t. open_valid (ltb-true (r.cycles + 1) all_cycles t))
      (λ t. by (λ (q : Registers). valid n q ≡ true) (ltb (addressed x r).column page_size && ltb (addressed x r).row n) (addressed x r) dropped
      (λ u.
      let w = and-true (ltb (addressed x r).column page_size) (ltb (addressed x r).row n) u in
      whole-valid (ltb-false (r.cycles + 1) all_cycles t) (ltb-true _ _ w.0) (ltb-true _ _ w.1))
      (λ _. idle_valid n true))

pub located-valid : (n x : ℕ) → x < 256 → (r : Registers) → valid n r ≡ true → valid n (located n x r) ≡ true
located-valid n x byte r v = located_by (λ (q : Registers). valid n q ≡ true) n x r (idle_valid n true) (λ i h. judged-valid n x byte r v i h)

-- ---- a data byte
filled-fits : (n x : ℕ) (s : State) (k column row : ℕ) (page : List ℕ) (failed : Bool) → takes_data s ≡ true → k ≡ all_cycles → column < page_size
    → Fits n (record { state = s; cycles = k; column = column; row = row; page = page; failed = failed })
    → Fits n (record { state = s; cycles = k; column = column + 1; row = row; page = set page column x; failed = failed })
filled-fits n x Idle k column row page failed t e h f = absurd (true-false {b = false} t refl)
filled-fits n x Status k column row page failed t e h f = absurd (true-false {b = false} t refl)
filled-fits n x Output k column row page failed t e h f = absurd (true-false {b = false} t refl)
filled-fits n x Read k column row page failed t e h f = absurd (true-false {b = false} t refl)
filled-fits n x Program k column row page failed t e h f =
    record {
      sized = length-set page column x ∙ f.sized;
      stated = f.stated;
      placed =
          subst (λ (m : ℕ). address_fits (page_size + 1) n m (column + 1) row ≡ true) (sym e)
          (whole-fits (page_size + 1) n (column + 1) row
          (record { column_inside = omega arith; row_inside = (fits_whole (page_size + 1) n k column row f.placed (omega arith)).1.row_inside }));
      blank =
          rw (eq-eqb k all_cycles e, drop-set-lt (column + 1) page column x (omega arith))
          (empty_more column page (rw (eq-eqb k all_cycles e) at f.blank));
    }
filled-fits n x Erase k column row page failed t e h f = absurd (true-false {b = false} t refl)

pub loaded-valid : (n x : ℕ) (r : Registers) → valid n r ≡ true → valid n (loaded x r) ≡ true
loaded-valid n x r v =
    loaded_by (λ (q : Registers). valid n q ≡ true) x r (idle_valid n true)
    (λ t e h. fits-valid n (filled x r) (filled-fits n x r.state r.cycles r.column r.row r.page r.failed t e h (fits n r v)))

-- ---- a command byte
started-valid : (n x : ℕ) → valid n (started x) ≡ true
unfolding started
started-valid n x =
    by (λ (q : Registers). valid n q ≡ true) (eqb x read_first) _ _ (λ _. read-valid n)
    (λ _. by (λ (q : Registers). valid n q ≡ true) (eqb x program_first) _ _ (λ _. program-valid n)
    (λ _. by (λ (q : Registers). valid n q ≡ true) (eqb x erase_first) _ _ (λ _. erase-valid n) (λ _. idle_valid n true)))

performed-valid : (n : ℕ) (s : State) (r : Registers) (img : List ℕ) → r.state ≡ s → r.cycles ≡ all_cycles → valid n r ≡ true
    → valid n (performed s r img).registers ≡ true
performed-valid n Idle r img e k v = idle_valid n true
performed-valid n Status r img e k v = idle_valid n true
performed-valid n Output r img e k v = idle_valid n true
performed-valid n Read r img e k v =
    let f = fits n r v in
    let i = (fits_whole page_size n r.cycles r.column r.row (rw e at f.placed) (omega arith)).1 in
    fits-valid n _
    (record {
      sized = f.sized;
      stated = and_intro (not r.failed) (eqb r.cycles all_cycles) (rw e at f.stated) (eq-eqb r.cycles all_cycles k);
      placed =
          subst (λ (m : ℕ). address_fits (page_size + 1) n m r.column r.row ≡ true) (sym k)
          (whole-fits (page_size + 1) n r.column r.row (record { column_inside = omega (arith, i.column_inside); row_inside = i.row_inside }));
      blank = rw e at f.blank;
    })
performed-valid n Program r img e k v =
    by (λ (d : Chip). valid n d.registers ≡ true) (page_empty img r.row) _ _ (λ _. idle_valid n false) (λ _. idle_valid n true)
performed-valid n Erase r img e k v = idle_valid n false

pub moved-valid : (n : ℕ) (m : Mark) (x : ℕ) → x < 256 → (r : Registers) (img : List ℕ) → n ≡ pages img → valid n r ≡ true
    → valid n (moved m x r img).registers ≡ true
moved-valid n Command x byte r img e v =
    commanded_by (λ (d : Chip). valid n d.registers ≡ true) x r img (idle_valid n false) (status_valid n (r.failed || in_command r.state))
    (started-valid n x) (idle_valid n true)
    (λ _ k _. performed-valid n r.state r img refl k v)
moved-valid n Address x byte r img e v = subst (λ (m : ℕ). valid n (located m x r) ≡ true) e (located-valid n x byte r v)
moved-valid n Data x byte r img e v = loaded-valid n x r v

-- ---- a cycle, over any set
at_right : (c : Cycle) → c.byte < 256 → (d : Chip) → size_right d.image ≡ true → valid (pages d.image) (sent c d).registers ≡ true
unfolding sent
at_right c byte d right =
    rw right (moved-valid (pages d.image) c.mark c.byte byte (counts_as (pages d.image) d.registers) d.image refl (counts_as-valid (pages
    d.image) d.registers))

pub sent-valid : (c : Cycle) → c.byte < 256 → (d : Chip) → size_right d.image ≡ true → valid (pages (sent c d).image) (sent c d).registers ≡ true
sent-valid c byte d right =
    subst (λ (k : ℕ). valid (k / page_size) (sent c d).registers ≡ true) (sym (sent-length c d)) (at_right c byte d right)

-- ---- a byte received
shown-valid : (s : State) (r : Registers) (img : List ℕ) → r.state ≡ s → valid (pages img) r ≡ true → valid (pages img) (shown s r img).registers ≡ true
shown-valid Idle r img e v = v
shown-valid Status r img e v = v
shown-valid Output r img e v =
    by (λ (g : Got). valid (pages img) g.registers ≡ true) (ltb r.column page_size) _ _
    (λ t.
    let n = pages img in
    let f = fits n r v in
    let k = output_whole n r v e in
    let i = (fits_whole (columns_of r.state) n r.cycles r.column r.row f.placed (omega arith)).1 in
    let h : r.column < page_size = ltb-true r.column page_size t in
    fits-valid n (passed r)
    (record {
      sized = f.sized;
      stated = rw e (rw e at f.stated);
      placed =
          rw (e, k) (whole-fits (page_size + 1) n (r.column + 1) r.row (record { column_inside = omega arith; row_inside = i.row_inside }));
      blank = rw e (rw e at f.blank);
    }))
    (λ _. v)
shown-valid Read r img e v = v
shown-valid Program r img e v = v
shown-valid Erase r img e v = v

pub received-valid : (r : Registers) (img : List ℕ) → size_right img ≡ true → valid (pages img) r ≡ true → valid (pages img) (received r img).registers ≡ true
unfolding received
received-valid r img right v = rw (right, v) (shown-valid r.state r img refl v)
