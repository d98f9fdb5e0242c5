-- A set counts if and only if bytes leave it: a reset and then the command's own cycles lead to each set that counts.
use Prim.Native.Nat.{ℕ, ◌+◌, ◌-◌, ◌*◌, ◌/◌, ◌%◌, ◌<◌, ◌≤◌}
use native.Mathlib.Omega.{arith}
use native.Mathlib.Decide.{dec_lt}
use mathlib.Core.Path.{◌≡◌, refl, sym, ap, ap₂, subst, ◌∙◌}
use mathlib.Core.Bool.{Bool, true, false, not, ◌&&◌}
use mathlib.Core.List.{List, [], ◌∷◌, ◌++◌, append_assoc, append-nil}
use lib.ListN.{length, take, drop, replicate, length-append, length-drop, take-append-drop}
use lib.Seq.{length-take-le}
use lib.Dec.{eqb, leb}
use borrow.Author.Tests.{eq-eqb, ne_eqb, lt-ltb, eqb-true, leb-true, not-true}
use Rattle.base.specs.Each.{Each, Bytes}
use Rattle.base.proofs.Choice.{and-true}
use Rattle.base.proofs.Eachs.{each_append, each_take, all_are-true}
use Rattle.page.specs.Form.{is_empty}
use Rattle.page.specs.Frame.{page_size, erased}
use Rattle.image.specs.Size.{pages, size_right}
use Rattle.chip.specs.declared.Cycle.{Cycle}
use Rattle.chip.specs.declared.State.{State}
use Rattle.chip.specs.declared.State.TheVariants.{Idle, Status, Output, Read, Program, Erase}
use Rattle.chip.specs.declared.Registers.{Registers}
use Rattle.chip.specs.Cycle.{command, address, data_byte, read_first, read_second, program_first, erase_first, read_status, reset}
use Rattle.chip.specs.Registers.{all_cycles, column_cycles, blank_page, resting, begun, dropped, in_command, column_weight, row_weight, columns_of, valid}
use Rattle.chip.specs.Bus.{Chip, chip, started, commanded, located, moved, sent, received}
use Rattle.chip.specs.Claim.{Event, OfByte, happens, happened, Leads, CountsIsLeft}
use Rattle.chip.specs.Claim.Event.{send, receive}
use Rattle.chip.proofs.Sets.{Fits, fits, Below, fits_open, fits_whole, five, pages_most, idle_valid}
use Rattle.chip.proofs.Moves.{sent-right, sent-on, run_one, run_nil}
use Rattle.chip.proofs.Keeps.{sent-valid, received-valid}
use Rattle.chip.proofs.Outcomes.{taking, loading, located_open, loaded_more, run-reset}

-- ---- events in a row
happened-append : (es fs : List Event) (d : Chip) → happened (es ++ fs) d ≡ happened fs (happened es d)
unfolding happened
happened-append [] fs d = refl
happened-append (e ∷ es) fs d = happened-append es fs (happens e d)

happens-right : (e : Event) (d : Chip) → size_right (happens e d).image ≡ size_right d.image
happens-right (send c) d = sent-right c d
happens-right receive d = refl

happens-valid : (e : Event) → OfByte e → (d : Chip) → size_right d.image ≡ true → valid (pages d.image) d.registers ≡ true
    → valid (pages (happens e d).image) (happens e d).registers ≡ true
happens-valid (send c) byte d right v = sent-valid c byte d right
happens-valid receive byte d right v = received-valid d.registers d.image right v

happened-right : (es : List Event) (d : Chip) → size_right (happened es d).image ≡ size_right d.image
unfolding happened
happened-right [] d = refl
happened-right (e ∷ es) d = happened-right es (happens e d) ∙ happens-right e d

happened-valid : (es : List Event) → Each OfByte es → (d : Chip) → size_right d.image ≡ true → valid (pages d.image) d.registers ≡ true
    → valid (pages (happened es d).image) (happened es d).registers ≡ true
unfolding happened
happened-valid [] bytes d right v = v
happened-valid (e ∷ es) bytes d right v =
    happened-valid es bytes.1 (happens e d) (happens-right e d ∙ right) (happens-valid e bytes.0 d right v)

-- what bytes lead to counts
left_counts : (d : Chip) (img : List ℕ) → size_right img ≡ true → (r : Registers) → Leads d (chip r img) → valid (pages img) r ≡ true
unfolding happened
left_counts d img right r l =
    let c = l.0 in
    let es = l.1 in
    let w : size_right d.image ≡ true =
    sym (happened-right (send c ∷ es) d) ∙ ap (λ (e : Chip). size_right e.image) l.3 ∙ right
    in
    subst (λ (e : Chip). valid (pages e.image) e.registers ≡ true) l.3
    (happened-valid es l.2.1 (sent c d) (sent-right c d ∙ w) (sent-valid c l.2.0 d w))

-- ---- the sets that bytes lead to behind a reset
module _ (img : List ℕ) (right : size_right img ≡ true) where
  abbrev n : ℕ
  n = pages img

  -- events that lead to the set
  record Left (r : Registers) : Type 0 where
    events : List Event
    bytes : Each OfByte events
    leads : happened events (chip (resting Idle false) img) ≡ chip r img

  after-reset : Left (resting Idle false)
  unfolding happened
  after-reset = record { events = []; bytes = tt; leads = refl }

  left-valid : (r : Registers) → Left r → valid n r ≡ true
  left-valid r l =
      subst (λ (e : Chip). valid (pages e.image) e.registers ≡ true) l.leads
      (happened-valid l.events l.bytes (chip (resting Idle false) img) right (idle_valid n false))

  -- one event more
  then : (r q : Registers) → Left r → (e : Event) → OfByte e → happens e (chip r img) ≡ chip q img → Left q
  unfolding happened
  then r q l e byte h =
      record {
        events = l.events ++ (e ∷ []);
        bytes = each_append OfByte l.events (e ∷ []) l.bytes (byte, tt);
        leads = happened-append l.events (e ∷ []) (chip (resting Idle false) img) ∙ ap (happens e) l.leads ∙ h;
      }

  then_sent : (c : Cycle) → c.byte < 256 → (r q : Registers) → Left r → moved c.mark c.byte r img ≡ chip q img → Left q
  then_sent c byte r q l h = then r q l (send c) byte (sent-on c r img right (left-valid r l) ∙ h)

  then_address : (x : ℕ) → x < 256 → (r q : Registers) → Left r → located n x r ≡ q → Left q
  then_address x byte r q l h = then_sent (address x) byte r q l (ap (λ (p : Registers). chip p img) h)

  -- ---- sets without a command, and sets at the start of one
  idle : (f : Bool) → Left (resting Idle f)
  unfolding located resting
  idle true = then_address 0 (omega arith) (resting Idle false) dropped after-reset refl
  idle false = after-reset

  status : (f : Bool) → Left (resting Status f)
  unfolding commanded resting
  status true = then_sent (command read_status) (omega arith) (resting Idle true) (resting Status true) (idle true) refl
  status false = then_sent (command read_status) (omega arith) (resting Idle false) (resting Status false) (idle false) refl

  reading : Left (taking Read 0 0 0)
  unfolding commanded started resting begun
  reading = then_sent (command read_first) (omega arith) (resting Idle false) (taking Read 0 0 0) after-reset refl

  programming : Left (taking Program 0 0 0)
  unfolding commanded started resting begun
  programming = then_sent (command program_first) (omega arith) (resting Idle false) (taking Program 0 0 0) after-reset refl

  erasing : Left (taking Erase 2 0 0)
  unfolding commanded started resting begun
  erasing = then_sent (command erase_first) (omega arith) (resting Idle false) (taking Erase 2 0 0) after-reset refl

  -- ---- a command that takes its address
  module _ (s : State) (i : in_command s ≡ true) where
    taken : (x : ℕ) → x < 256 → (k column row c g : ℕ) → k < 4 → Left (taking s k column row)
        → column + x * column_weight k ≡ c → row + x * row_weight k ≡ g → Left (taking s (k + 1) c g)
    taken x byte k column row c g h l a b =
        then_address x byte (taking s k column row) (taking s (k + 1) c g) l
        (located_open n x s i k column row h ∙ ap₂ (taking s (k + 1)) a b)

    first_column : Left (taking s 0 0 0) → (column : ℕ) → column < 256 → Left (taking s 1 column 0)
    first_column l column h = taken column h 0 0 0 column 0 (omega arith) l (omega arith) (omega arith)

    columns : Left (taking s 0 0 0) → (column : ℕ) → column < 65536 → Left (taking s 2 column 0)
    columns l column h =
        taken (column / 256) (omega arith) 1 (column % 256) 0 column 0 (omega arith) (first_column l (column % 256) (omega arith)) (omega arith) (omega arith)

    first_row : (column : ℕ) → Left (taking s 2 column 0) → (row : ℕ) → row < 256 → Left (taking s 3 column row)
    first_row column l row h = taken row h 2 column 0 column row (omega arith) l (omega arith) (omega arith)

    rows : (column : ℕ) → Left (taking s 2 column 0) → (row : ℕ) → row < 65536 → Left (taking s 4 column row)
    rows column l row h =
        taken (row / 256) (omega arith) 3 column (row % 256) column row (omega arith) (first_row column l (row % 256) (omega arith)) (omega arith) (omega arith)

    located-whole : (column row : ℕ) → column < page_size → row < n → located n 0 (taking s 4 column row) ≡ taking s all_cycles column row
    unfolding located
    located-whole column row h k =
        let a : column + 0 * 0 ≡ column = omega arith in
        let b : row + 0 * 65536 ≡ row = omega arith in
        rw (i, a, b, lt-ltb column page_size h, lt-ltb row n k)

    -- an image has fewer pages than two row cycles count, so the third is 0
    address-whole : (column row : ℕ) → Left (taking s 2 column 0) → column < page_size → row < n → Left (taking s all_cycles column row)
    address-whole column row l h k =
        then_address 0 (omega arith) (taking s 4 column row) (taking s all_cycles column row)
        (rows column l row (omega (arith, pages_most img right))) (located-whole column row h k)

    -- the registers that have no cycle yet are 0
    none_yet : (k column row c g : ℕ) → c ≡ column → g ≡ row → Left (taking s k c g) → Left (taking s k column row)
    none_yet k column row c g a b l = subst (λ (q : Registers). Left q) (ap₂ (taking s k) a b) l

    address-part : Left (taking s 0 0 0) → (k : ℕ) → k < 5 → (column row : ℕ) → Below k column row → Left (taking s k column row)
    address-part l =
        five (λ k. (column row : ℕ) → Below k column row → Left (taking s k column row))
        (λ column row b. none_yet 0 column row 0 0 (omega (arith, b.column_below)) (omega (arith, b.row_below)) l)
        (λ column row b. none_yet 1 column row column 0 refl (omega (arith, b.row_below)) (first_column l column b.column_below))
        (λ column row b. none_yet 2 column row column 0 refl (omega (arith, b.row_below)) (columns l column b.column_below))
        (λ column row b. first_row column (columns l column b.column_below) row b.row_below)
        (λ column row b. rows column (columns l column b.column_below) row b.row_below)

    row-part : Left (taking s 2 0 0) → (k : ℕ) → k < 5 → column_cycles ≤ k → (column row : ℕ) → column ≡ 0 → Below k column row → Left (taking s k column row)
    row-part l =
        five (λ k. column_cycles ≤ k → (column row : ℕ) → column ≡ 0 → Below k column row → Left (taking s k column row))
        (λ h column row e b. absurd (omega arith))
        (λ h column row e b. absurd (omega arith))
        (λ h column row e b. none_yet 2 column row 0 0 (sym e) (omega (arith, b.row_below)) l)
        (λ h column row e b. none_yet 3 column row 0 row (sym e) refl (first_row 0 l row b.row_below))
        (λ h column row e b. none_yet 4 column row 0 row (sym e) refl (rows 0 l row b.row_below))

  -- ---- a program that takes its bytes
  then_bytes : (g : ℕ) (ys xs : List ℕ) → Bytes ys → length xs + length ys ≤ page_size → Left (loading g xs) → Left (loading g (xs ++ ys))
  then_bytes g [] xs bytes h l = subst (λ (zs : List ℕ). Left (loading g zs)) (sym (append-nil xs)) l
  then_bytes g (y ∷ ys) xs bytes h l =
      subst (λ (zs : List ℕ). Left (loading g zs)) (append_assoc xs (y ∷ []) ys)
      (then_bytes g ys (xs ++ (y ∷ [])) bytes.1 (omega (arith, length-append xs (y ∷ [])))
      (then_sent (data_byte y) bytes.0 (loading g xs) (loading g (xs ++ (y ∷ []))) l
      (ap (λ (q : Registers). chip q img) (loaded_more img right g xs y (omega arith)))))

  loaded-whole : (g : ℕ) (ys : List ℕ) → Bytes ys → length ys ≤ page_size → g < n → Left (loading g ys)
  unfolding blank_page
  loaded-whole g ys bytes h k =
      then_bytes g ys [] bytes (omega arith)
      (address-whole Program refl 0 g (columns Program refl programming 0 (omega arith)) (omega arith) k)

  -- ---- a page open for reading
  output_inside : (column row : ℕ) → column < page_size → row < n → Left (taking Output all_cycles column row)
  unfolding commanded
  output_inside column row h k =
      then_sent (command read_second) (omega arith) (taking Read all_cycles column row) (taking Output all_cycles column row)
      (address-whole Read refl column row (columns Read refl reading column (omega arith)) h k) refl

  output_behind : (row : ℕ) → row < n → Left (taking Output all_cycles page_size row)
  unfolding received
  output_behind row k =
      let l = output_inside 255 row (omega arith) k in
      then (taking Output all_cycles 255 row) (taking Output all_cycles page_size row) l receive tt
      (rw (right, left-valid (taking Output all_cycles 255 row) l))

  -- ---- each set that counts
  abbrev set_of : State → ℕ → ℕ → ℕ → List ℕ → Bool → Registers
  set_of s k column row page failed = record { state = s; cycles = k; column = column; row = row; page = page; failed = failed }

  -- its page register, blank from a place on
  filled_to : (k : ℕ) (page : List ℕ) → length page ≡ page_size → k ≤ page_size → is_empty (drop k page) ≡ true
      → take k page ++ replicate (page_size - k) erased ≡ page
  unfolding is_empty
  filled_to k page l h e =
      let a : length (drop k page) ≡ page_size - k = length-drop k page ∙ ap (λ (m : ℕ). m - k) l in
      ap (λ (m : ℕ). take k page ++ replicate m erased) (sym a) ∙ ap (take k page ++◌) (sym (all_are-true erased (drop k page) e)) ∙ take-append-drop k page

  blank : (page : List ℕ) → length page ≡ page_size → is_empty page ≡ true → blank_page ≡ page
  unfolding blank_page
  blank page l e = filled_to 0 page l (omega arith) e

  -- a set that has not failed, with a blank page register
  taking_same : (s : State) (k column row : ℕ) (page : List ℕ) (failed : Bool) → length page ≡ page_size → is_empty page ≡ true → not failed ≡ true
      → Left (taking s k column row) → Left (set_of s k column row page failed)
  taking_same s k column row page failed l e f =
      subst (λ (q : Registers). Left q) (ap₂ (set_of s k column row) (blank page l e) (sym (not-true failed f)))

  -- a set without a command
  resting-same : (s : State) (k column row : ℕ) (page : List ℕ) (failed : Bool) → k ≡ 0 → Fits n (set_of s k column row page failed) → is_empty page ≡ true
      → Left (resting s failed) → Left (set_of s k column row page failed)
  unfolding resting
  resting-same s k column row page failed z f e l =
      let b : Below 0 column row = subst (λ (m : ℕ). Below m column row) z (fits_open (columns_of s) n k column row f.placed (omega arith)) in
      let c : 0 ≡ column = omega (arith, b.column_below) in
      let g : 0 ≡ row = omega (arith, b.row_below) in
      subst (λ (q : Registers). Left q)
      (ap (λ (m : ℕ). set_of s m 0 0 blank_page failed) (sym z) ∙ ap₂ (λ (c g : ℕ). set_of s k c g blank_page failed) c g
      ∙ ap (λ (p : List ℕ). set_of s k column row p failed) (blank page f.sized e))
      l

  loading_same : (column row : ℕ) (page : List ℕ) → length page ≡ page_size → column ≤ page_size → is_empty (drop column page) ≡ true
      → Left (loading row (take column page)) → Left (set_of Program all_cycles column row page false)
  loading_same column row page l h e =
      let a : length (take column page) ≡ column = length-take-le column page (omega arith) in
      subst (λ (q : Registers). Left q)
      (ap₂ (λ (c : ℕ) (p : List ℕ). set_of Program all_cycles c row p false) a
      (ap (λ (m : ℕ). take column page ++ replicate (page_size - m) erased) a ∙ filled_to column page l h e))

  -- the state of a set says which
  module _ (k column row : ℕ) (page : List ℕ) (failed : Bool) (bytes : Bytes page) where
    left : (s : State) → Fits n (set_of s k column row page failed) → Left (set_of s k column row page failed)
    left Idle f = resting-same Idle k column row page failed (eqb-true k 0 f.stated) f f.blank (idle failed)
    left Status f = resting-same Status k column row page failed (eqb-true k 0 f.stated) f f.blank (status failed)
    left Output f =
        let a = and-true (not failed) (eqb k all_cycles) f.stated in
        let e : k ≡ all_cycles = eqb-true k all_cycles a.1 in
        let i = (fits_whole (page_size + 1) n k column row f.placed (omega arith)).1 in
        taking_same Output k column row page failed f.sized f.blank a.0
        (subst (λ (m : ℕ). Left (taking Output m column row)) (sym e)
        (elim (dec_lt column page_size) [
          | yes h ↦ output_inside column row h i.row_inside
          | no h ↦
              subst (λ (c : ℕ). Left (taking Output all_cycles c row)) (omega (arith, i.column_inside))
              (output_behind row i.row_inside)
        ]))
    left Read f =
        taking_same Read k column row page failed f.sized f.blank f.stated
        (elim (dec_lt k all_cycles) [
          | yes h ↦ address-part Read refl reading k h column row (fits_open page_size n k column row f.placed h)
          | no h ↦
              let w = fits_whole page_size n k column row f.placed (omega arith) in
              let i = w.1 in
              subst (λ (m : ℕ). Left (taking Read m column row)) (sym w.0)
              (address-whole Read refl column row (columns Read refl reading column (omega (arith, i.column_inside))) i.column_inside i.row_inside)
        ])
    left Program f = elim (dec_lt k all_cycles) [ yes h ↦ part h | no h ↦ filled (omega arith) ]
      where
        part : k < all_cycles → Left (set_of Program k column row page failed)
        part h =
            taking_same Program k column row page failed f.sized (rw (ne_eqb k all_cycles (omega arith)) at f.blank) f.stated
            (address-part Program refl programming k h column row (fits_open (page_size + 1) n k column row f.placed h))

        filled : all_cycles ≤ k → Left (set_of Program k column row page failed)
        filled h =
            let w = fits_whole (page_size + 1) n k column row f.placed h in
            let i = w.1 in
            let l : column ≤ page_size = omega (arith, i.column_inside) in
            subst (λ (q : Registers). Left q)
            (ap₂ (λ (m : ℕ) (b : Bool). set_of Program m column row page b) (sym w.0) (sym (not-true failed f.stated)))
            (loading_same column row page f.sized l (rw (eq-eqb k all_cycles w.0) at f.blank)
            (loaded-whole row (take column page) (each_take (λ (x : ℕ). x < 256) column page bytes)
            (omega (arith, length-take-le column page (omega (arith, f.sized)))) i.row_inside))
    left Erase f =
        let a = and-true (not failed && leb column_cycles k) (eqb column 0) f.stated in
        let b = and-true (not failed) (leb column_cycles k) a.0 in
        let c : column ≡ 0 = eqb-true column 0 a.1 in
        taking_same Erase k column row page failed f.sized f.blank b.0
        (elim (dec_lt k all_cycles) [
          | yes h ↦ row-part Erase refl erasing k h (leb-true column_cycles k b.1) column row c (fits_open page_size n k column row f.placed h)
          | no h ↦
              let w = fits_whole page_size n k column row f.placed (omega arith) in
              let i = w.1 in
              subst (λ (q : Registers). Left q) (ap₂ (λ (m c : ℕ). taking Erase m c row) (sym w.0) (sym c))
              (address-whole Erase refl 0 row erasing (omega arith) i.row_inside)
        ])

  counts_left : (r : Registers) → Bytes r.page → valid n r ≡ true → (q : Registers) → Leads (chip q img) (chip r img)
  unfolding happened
  counts_left r bytes v q =
      let l = left r.cycles r.column r.row r.page r.failed bytes r.state (fits n r v) in
      let e : sent (command reset) (chip q img) ≡ chip (resting Idle false) img =
      sym (run_one (command reset) (chip q img)) ∙ run-reset img right q [] ∙ run_nil (chip (resting Idle false) img)
      in
      (command reset, l.events, (omega arith, l.bytes), ap (happened l.events) e ∙ l.leads)

pub counts_is_left : CountsIsLeft
counts_is_left img right r bytes = (counts_left img right r bytes, (λ d l. left_counts d img right r l))
