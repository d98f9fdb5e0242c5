-- What the driver's cycles for a step bring the chip to, from any register set: the image that the step gives, with success, or a failed status and the
-- image as it was.
use Prim.Native.Nat.{ℕ, suc, ◌+◌, ◌-◌, ◌*◌, ◌/◌, ◌%◌, ◌<◌, ◌≤◌}
use native.Mathlib.Omega.{arith}
use mathlib.Core.Path.{◌≡◌, refl, sym, ap, ap₂, subst, ◌∙◌}
use mathlib.Core.Bool.{Bool, true, false, cond}
use mathlib.Core.List.{List, [], ◌∷◌, ◌++◌, map, append_assoc, append-nil}
use lib.ListN.{length, set, replicate, length-append, length-replicate}
use lib.Seq.{set-append_seam, drop-append_seam}
use lib.Dec.{eqb, leb, ltb}
use borrow.Author.Tests.{lt-ltb, le-ltb, eqb-true, leb-true, ltb-true, ltb-false}
use Rattle.base.proofs.Eachs.{all_are-replicate}
use Rattle.page.specs.Form.{is_empty}
use Rattle.page.specs.Frame.{page_size, erased}
use Rattle.image.specs.Size.{pages_in_block, blocks, pages, right_length, size_right}
use Rattle.image.specs.Look.{page_empty}
use Rattle.image.specs.Step.{program, erase, whole}
use Rattle.image.proofs.Looks.{sized}
use Rattle.image.proofs.Step.{whole_length}
use Rattle.chip.specs.declared.Cycle.{Cycle}
use Rattle.chip.specs.declared.State.{State}
use Rattle.chip.specs.declared.State.TheVariants.{Idle, Status, Program, Erase}
use Rattle.chip.specs.declared.Registers.{Registers}
use Rattle.chip.specs.Cycle.{command, address, data_byte, program_first, program_second, erase_first, erase_second, read_status, reset}
use Rattle.chip.specs.Registers.{all_cycles, column_cycles, blank_page, resting, begun, dropped, in_command, column_weight, row_weight, valid}
use Rattle.chip.specs.Bus.{Chip, chip, started, commanded, located, loaded, sent, run, received}
use Rattle.chip.specs.Driver.{row_then, program_cycles, erase_cycles, driven, ended, drove, drove_program, drove_erase, last_page, last_block, done, failed, program_outcome, erase_outcome}
use Rattle.chip.proofs.Sets.{fits-valid, whole-fits, idle_valid, status_valid, program-valid, erase-valid}
use Rattle.chip.proofs.Moves.{sent-on, run_cons}
use Rattle.chip.proofs.Keeps.{located-valid, loaded-valid}

-- a command that takes its address, and a program that takes its bytes
abbrev pub taking : State → ℕ → ℕ → ℕ → Registers
taking s k column row = record { state = s; cycles = k; column = column; row = row; page = blank_page; failed = false }

abbrev pub loading : ℕ → List ℕ → Registers
loading g xs = record { state = Program; cycles = all_cycles; column = length xs; row = g; page = xs ++ replicate (page_size - length xs) erased; failed = false }

empty_replicate : (k : ℕ) → is_empty (replicate k erased) ≡ true
unfolding is_empty
empty_replicate k = all_are-replicate erased k

-- ---- registers under address bytes
module _ (n x : ℕ) (s : State) (i : in_command s ≡ true) where
  pub located_open : (k column row : ℕ) → k < 4 → located n x (taking s k column row) ≡ taking s (k + 1) (column + x * column_weight k) (row + x * row_weight k)
  unfolding located
  located_open k column row h = rw (i, lt-ltb k all_cycles (omega arith), lt-ltb (k + 1) all_cycles (omega arith))

  located_last : (row : ℕ) → located n x (taking s 4 0 row) ≡ cond (ltb (row + x * 65536) n) (taking s all_cycles 0 (row + x * 65536)) dropped
  unfolding located
  located_last row =
      let e : 0 + x * 0 ≡ 0 = omega arith in
      rw (i, e)

abbrev row_of : State → ℕ → ℕ → Registers
row_of s n g = located n (g / 65536 % 256) (located n (g / 256 % 256) (located n (g % 256) (taking s 2 0 0)))

row_taken_lem : (s : State) → in_command s ≡ true → (n g : ℕ) → g < 16777216 → row_of s n g ≡ cond (ltb g n) (taking s all_cycles 0 g) dropped
row_taken_lem s i n g h =
    let a : located n (g % 256) (taking s 2 0 0) ≡ taking s 3 0 (g % 256) =
    located_open n (g % 256) s i 2 0 0 (omega arith) ∙ ap₂ (taking s 3) (omega arith) (omega arith)
    in
    let b : located n (g / 256 % 256) (taking s 3 0 (g % 256)) ≡ taking s 4 0 (g % 256 + g / 256 % 256 * 256) =
    located_open n (g / 256 % 256) s i 3 0 (g % 256) (omega arith) ∙ ap₂ (taking s 4) (omega arith) refl
    in
    let c = located_last n (g / 65536 % 256) s i (g % 256 + g / 256 % 256 * 256) in
    let e : g % 256 + g / 256 % 256 * 256 + g / 65536 % 256 * 65536 ≡ g = omega arith in
    ap (λ (q : Registers). located n (g / 65536 % 256) (located n (g / 256 % 256) q)) a ∙ ap (located n (g / 65536 % 256)) b ∙ c
    ∙ ap (λ (m : ℕ). cond (ltb m n) (taking s all_cycles 0 m) dropped) e

columns_taken : (n : ℕ) → located n 0 (located n 0 (begun Program 0)) ≡ taking Program 2 0 0
unfolding begun located
columns_taken n = refl

module _ (img : List ℕ) (right : size_right img ≡ true) where
  abbrev n : ℕ
  n = pages img

  -- ---- cycles in a row
  pub run-reset : (r : Registers) (cs : List Cycle) → run (command reset ∷ cs) (chip r img) ≡ run cs (chip (resting Idle false) img)
  unfolding run sent commanded
  run-reset r cs = rw right

  run-address : (x : ℕ) → x < 256 → (r : Registers) → valid n r ≡ true → (cs : List Cycle) → run (address x ∷ cs) (chip r img) ≡ run cs (chip
      (located n x r) img)
  run-address x byte r v cs = run_cons (address x) cs (chip r img) ∙ ap (run cs) (sent-on (address x) r img right v)

  run-byte : (x : ℕ) (r : Registers) → valid n r ≡ true → (cs : List Cycle) → run (data_byte x ∷ cs) (chip r img) ≡ run cs (chip (loaded x r) img)
  run-byte x r v cs = run_cons (data_byte x) cs (chip r img) ∙ ap (run cs) (sent-on (data_byte x) r img right v)

  run-command : (x : ℕ) (r : Registers) → valid n r ≡ true → (cs : List Cycle) → run (command x ∷ cs) (chip r img) ≡ run cs (commanded x r img)
  run-command x r v cs = run_cons (command x) cs (chip r img) ∙ ap (run cs) (sent-on (command x) r img right v)

  run_row : (s : State) → in_command s ≡ true → valid n (taking s 2 0 0) ≡ true → (g : ℕ) → g < 16777216 → (cs : List Cycle)
      → run (row_then g cs) (chip (taking s 2 0 0) img) ≡ run cs (chip (cond (ltb g n) (taking s all_cycles 0 g) dropped) img)
  run_row s i v g h cs =
      let v3 = located-valid n (g % 256) (omega arith) (taking s 2 0 0) v in
      let v4 = located-valid n (g / 256 % 256) (omega arith) _ v3 in
      run-address (g % 256) (omega arith) _ v _ ∙ run-address (g / 256 % 256) (omega arith) _ v3 _ ∙ run-address (g / 65536 % 256) (omega arith) _ v4 cs
      ∙ ap (λ (q : Registers). run cs (chip q img)) (row_taken_lem s i n g h)

  -- ---- a program: its bytes fill the page register
  pub loaded_more : (g : ℕ) (xs : List ℕ) (x : ℕ) → length xs < page_size → loaded x (loading g xs) ≡ loading g (xs ++ (x ∷ []))
  unfolding loaded
  loaded_more g xs x h =
      let l : length (xs ++ (x ∷ [])) ≡ length xs + 1 = length-append xs (x ∷ []) in
      let m : page_size - length xs ≡ suc (page_size - (length xs + 1)) = omega arith in
      rw (lt-ltb (length xs) page_size h)
      (ap₂ (λ (column : ℕ) (page : List ℕ). record { state = Program; cycles = all_cycles; column = column; row = g; page = page; failed = false })
      (sym l)
      (ap (λ (k : ℕ). set (xs ++ replicate k erased) (length xs) x) m ∙ set-append_seam xs erased (replicate (page_size - (length xs + 1)) erased) x
      ∙ sym (append_assoc xs (x ∷ []) (replicate (page_size - (length xs + 1)) erased)) ∙ ap (λ (k : ℕ). (xs ++ (x ∷ [])) ++ replicate
      (page_size - k) erased) (sym l)))

  run-bytes : (g : ℕ) (ys xs : List ℕ) → length xs + length ys ≤ page_size → valid n (loading g xs) ≡ true → (cs : List Cycle)
      → run (map data_byte ys ++ cs) (chip (loading g xs) img) ≡ run cs (chip (loading g (xs ++ ys)) img)
  run-bytes g [] xs h v cs = ap (λ (zs : List ℕ). run cs (chip (loading g zs) img)) (sym (append-nil xs))
  run-bytes g (y ∷ ys) xs h v cs =
      let e = loaded_more g xs y (omega arith) in
      run-byte y (loading g xs) v (map data_byte ys ++ cs) ∙ ap (λ (q : Registers). run (map data_byte ys ++ cs) (chip q img)) e
      ∙ run-bytes g ys (xs ++ (y ∷ [])) (omega (arith, length-append xs (y ∷ []))) (subst (λ (q : Registers). valid n q ≡ true) e (loaded-valid n y
      (loading g xs) v)) cs
      ∙ ap (λ (zs : List ℕ). run cs (chip (loading g zs) img)) (append_assoc xs (y ∷ []) ys)

  -- bytes with no command leave the failed set
  run_lost : (ys : List ℕ) (cs : List Cycle) → run (map data_byte ys ++ cs) (chip dropped img) ≡ run cs (chip dropped img)
  unfolding loaded resting
  run_lost [] cs = refl
  run_lost (y ∷ ys) cs = run-byte y dropped (idle_valid n true) (map data_byte ys ++ cs) ∙ run_lost ys cs

  -- the status after a command that has ended
  run_status : (f : Bool) → run (command read_status ∷ []) (chip (resting Idle f) img) ≡ chip (resting Status f) img
  unfolding run commanded resting
  run_status true = run-command read_status (resting Idle true) (idle_valid n true) []
  run_status false = run-command read_status (resting Idle false) (idle_valid n false) []

  -- the last two cycles of a program and of an erase, over a set that took the whole command and over the failed set
  abbrev ends : ℕ → List Cycle
  ends x = command x ∷ command read_status ∷ []

  run_lost_end : (x : ℕ) → started x ≡ dropped → (eqb x reset ≡ false) → (eqb x read_status ≡ false) → run (ends x) (chip dropped img) ≡ chip
      (resting Status true) img
  unfolding commanded resting
  run_lost_end x e a b =
      run-command x dropped (idle_valid n true) (command read_status ∷ [])
      ∙ rw (a, b, e) (run_status true)

module _ (img : List ℕ) (right : size_right img ≡ true) where
  abbrev m : ℕ
  m = pages img

  abbrev status : Bool → List ℕ → Chip
  status f now = chip (resting Status f) now

  -- ---- the status of an image that a step left
  status_after : (f : Bool) (now : List ℕ) → size_right now ≡ true → run (command read_status ∷ []) (chip (resting Idle f) now) ≡ status f now
  status_after f now w = run_status now w f

  run-program-end : (g : ℕ) (page : List ℕ) → length page ≡ page_size → valid m (loading g page) ≡ true → size_right (whole (program g page) img) ≡ true
      → run (ends img right program_second) (chip (loading g page) img) ≡ cond (page_empty img g) (status false (whole (program g page) img)) (status true img)
  unfolding commanded
  run-program-end g page l v w =
      let e : page ++ replicate (page_size - length page) erased ≡ page = ap (λ (k : ℕ). page ++ replicate (page_size - k) erased) l ∙ append-nil page in
      run-command img right program_second (loading g page) v (command read_status ∷ [])
      ∙ rw e (go (page_empty img g))
    where
      go : (b : Bool) → run (command read_status ∷ []) (cond b (chip (resting Idle false) (whole (program g page) img)) (chip dropped img)) ≡ cond b
          (status false (whole (program g page) img)) (status true img)
      go true = status_after false (whole (program g page) img) w
      go false = status_after true img right

  run-erase-end : (b : ℕ) → valid m (taking Erase all_cycles 0 (b * pages_in_block)) ≡ true → size_right (whole (erase b) img) ≡ true
      → run (ends img right erase_second) (chip (taking Erase all_cycles 0 (b * pages_in_block)) img) ≡ status false (whole (erase b) img)
  unfolding commanded
  run-erase-end b v w =
      let e : b * pages_in_block / pages_in_block ≡ b = omega arith in
      run-command img right erase_second (taking Erase all_cycles 0 (b * pages_in_block)) v (command read_status ∷ [])
      ∙ rw e (status_after false (whole (erase b) img) w)

  -- ---- what the steps do to the size
  program-right : (g : ℕ) (page : List ℕ) → length page ≡ page_size → g < m → size_right (whole (program g page) img) ≡ true
  unfolding size_right
  program-right g page l h =
      let s = sized img right in
      ap right_length (whole_length (program g page) img (omega (arith, s.paged, s.full), l)) ∙ right

  erase-right : (b : ℕ) → b < blocks img → size_right (whole (erase b) img) ≡ true
  unfolding size_right
  erase-right b h = let s = sized img right in ap right_length (whole_length (erase b) img (omega (arith, s.full))) ∙ right

  loading_valid : (g : ℕ) (xs : List ℕ) → length xs ≤ page_size → g < m → valid m (loading g xs) ≡ true
  loading_valid g xs h i =
      fits-valid m (loading g xs)
      (record {
        sized = length-append xs (replicate (page_size - length xs) erased) ∙ rw (length-replicate (page_size - length xs) erased) (omega arith);
        stated = refl;
        placed = whole-fits (page_size + 1) m (length xs) g (record { column_inside = omega arith; row_inside = i });
        blank = rw (drop-append_seam xs (replicate (page_size - length xs) erased)) (empty_replicate (page_size - length xs));
      })

  erasing_valid : (g : ℕ) → g < m → valid m (taking Erase all_cycles 0 g) ≡ true
  unfolding blank_page
  erasing_valid g i =
      fits-valid m (taking Erase all_cycles 0 g)
      (record {
        sized = length-replicate page_size erased;
        stated = refl;
        placed = whole-fits page_size m 0 g (record { column_inside = omega arith; row_inside = i });
        blank = empty_replicate page_size;
      })

  -- ---- all cycles of a step
  pub run-program : (r : Registers) (g : ℕ) (page : List ℕ) → length page ≡ page_size → g < 16777216
      → run (program_cycles g page) (chip r img) ≡ cond (ltb g m) (cond (page_empty img g) (status false (whole (program g page) img)) (status true img))
      (status true img)
  unfolding program_cycles commanded resting started blank_page
  run-program r g page l h =
      let c = map data_byte page ++ ends img right program_second in
      let v1 = located-valid m 0 (omega arith) (begun Program 0) (program-valid m) in
      let v2 = located-valid m 0 (omega arith) _ v1 in
      run-reset img right r _
      ∙ run-command img right program_first (resting Idle false) (idle_valid m false) _
      ∙ run-address img right 0 (omega arith) (begun Program 0) (program-valid m) _
      ∙ run-address img right 0 (omega arith) _ v1 _
      ∙ ap (λ (q : Registers). run (row_then g c) (chip q img)) (columns_taken m)
      ∙ run_row img right Program refl (subst (λ (q : Registers). valid m q ≡ true) (columns_taken m) v2) g h c
      ∙ go (ltb g m) refl
    where
      go : (b : Bool) → ltb g m ≡ b
          → run (map data_byte page ++ ends img right program_second) (chip (cond b (taking Program all_cycles 0 g) dropped) img)
          ≡ cond b (cond (page_empty img g) (status false (whole (program g page) img)) (status true img)) (status true img)
      go true e =
          let i : g < m = ltb-true g m e in
          run-bytes img right g page [] (omega arith) (loading_valid g [] (omega arith) i) (ends img right program_second)
          ∙ run-program-end g page l (loading_valid g page (omega arith) i) (program-right g page l i)
      go false e = run_lost img right page (ends img right program_second) ∙ run_lost_end img right program_second refl refl refl

  erase-begun : begun Erase column_cycles ≡ taking Erase 2 0 0
  unfolding begun
  erase-begun = refl

  pub run-erase : (r : Registers) (b : ℕ) → b < 1048576
      → run (erase_cycles b) (chip r img) ≡ cond (ltb b (blocks img)) (status false (whole (erase b) img)) (status true img)
  unfolding erase_cycles commanded resting started
  run-erase r b h =
      run-reset img right r _
      ∙ run-command img right erase_first (resting Idle false) (idle_valid m false) _
      ∙ ap (λ (q : Registers). run (row_then (b * pages_in_block) (ends img right erase_second)) (chip q img)) erase-begun
      ∙ run_row img right Erase refl (subst (λ (q : Registers). valid m q ≡ true) erase-begun (erase-valid m)) (b * pages_in_block) (omega arith)
      (ends img right erase_second)
      ∙ go (ltb b (blocks img)) refl
    where
      go : (t : Bool) → ltb b (blocks img) ≡ t
          → run (ends img right erase_second) (chip (cond (ltb (b * pages_in_block) m) (taking Erase all_cycles 0 (b * pages_in_block)) dropped) img)
          ≡ cond t (status false (whole (erase b) img)) (status true img)
      go true e =
          let s = sized img right in
          let i : b < blocks img = ltb-true b (blocks img) e in
          let j : b * pages_in_block < m = omega (arith, s.paged) in
          rw (lt-ltb (b * pages_in_block) m j) (run-erase-end b (erasing_valid (b * pages_in_block) j) (erase-right b i))
      go false e =
          let s = sized img right in
          let i : blocks img ≤ b = ltb-false b (blocks img) e in
          let j : m ≤ b * pages_in_block = omega (arith, s.paged) in
          rw (le-ltb (b * pages_in_block) m j) (run_lost_end img right erase_second refl refl refl)

-- ---- the status byte
ended_status : (f : Bool) (now : List ℕ) → size_right now ≡ true → ended (chip (resting Status f) now) ≡ driven (cond f 10 0) (resting Status f) now
unfolding received resting
ended_status true now w = rw (w, status_valid (pages now) true)
ended_status false now w = rw (w, status_valid (pages now) false)

both : {A : Type 0} (b : Bool) (x y z : A) → (b ≡ true → x ≡ y) → cond b x z ≡ cond b y z
both true x y z f = f refl
both false x y z f = refl

-- ---- the driver's replies, from any register set and over any image
pub program_outcome_lem : (g : ℕ) (page : List ℕ) (r : Registers) (img : List ℕ) → drove_program g page r img ≡ program_outcome g page r img
unfolding drove_program program_outcome drove
program_outcome_lem g page r img =
    both (eqb (length page) page_size) _ _ _
    (λ a. both (leb g last_page) _ _ _
    (λ b. both (size_right img) _ _ _
    (λ w.
    let l : length page ≡ page_size = eqb-true (length page) page_size a in
    let k : g ≤ last_page = leb-true g last_page b in
    ap ended (run-program img w r g page l (omega arith)) ∙ go w l (ltb g (pages img)) refl (page_empty img g))))
  where
    go : size_right img ≡ true → length page ≡ page_size → (t : Bool) → ltb g (pages img) ≡ t → (u : Bool)
        → ended (cond t (cond u (chip (resting Status false) (whole (program g page) img)) (chip (resting Status true) img)) (chip (resting Status true) img))
        ≡ cond t (cond u (done (program g page) img) (failed img)) (failed img)
    go w l true e true = ended_status false (whole (program g page) img) (program-right img w g page l (ltb-true g (pages img) e))
    go w l true e false = ended_status true img w
    go w l false e u = ended_status true img w

pub erase_outcome_lem : (b : ℕ) (r : Registers) (img : List ℕ) → drove_erase b r img ≡ erase_outcome b r img
unfolding drove_erase erase_outcome drove
erase_outcome_lem b r img =
    both (leb b last_block) _ _ _
    (λ a. both (size_right img) _ _ _
    (λ w.
    let k : b ≤ last_block = leb-true b last_block a in
    ap ended (run-erase img w r b (omega arith)) ∙ go w (ltb b (blocks img)) refl))
  where
    go : size_right img ≡ true → (t : Bool) → ltb b (blocks img) ≡ t
        → ended (cond t (chip (resting Status false) (whole (erase b) img)) (chip (resting Status true) img)) ≡ cond t (done (erase b) img) (failed img)
    go w true e = ended_status false (whole (erase b) img) (erase-right img w b (ltb-true b (blocks img) e))
    go w false e = ended_status true img w
