-- The claims of specs/Claim.antt.
use Prim.Native.Nat.{ℕ, zero, suc, ◌+◌, ◌-◌, ◌*◌, ◌<◌, ◌≤◌}
use native.Mathlib.Omega.{arith}
use native.Mathlib.Decide.{dec_lt}
use mathlib.Core.Path.{◌≡◌, refl, sym, ap, subst, ◌∙◌}
use mathlib.Core.Logic.{◌⊎◌, inl, inr}
use mathlib.Core.Bool.{Bool, true, false, cond, ◌&&◌, ◌||◌}
use mathlib.Core.List.{List, [], ◌∷◌, ◌++◌, map, append_assoc}
use lib.ListN.{length, take, drop, length-append}
use lib.Seq.{take-append-le, take-append-add, take-nil}
use lib.Dec.{eqb}
use borrow.Author.Tests.{eq-eqb, lt-ltb, le-leb, eqb-true}
use Rattle.base.specs.Each.{Each}
use Rattle.base.proofs.Eachs.{each_append, each_take, each-drop}
use Rattle.base.proofs.Choice.{and-true, and_intro, true-false}
use Rattle.page.specs.Frame.{page_size}
use Rattle.image.specs.Size.{pages_in_block, blocks, pages, size_right}
use Rattle.image.specs.Look.{page_empty}
use Rattle.image.specs.Step.{Step, program, erase, Legal, AllLegal, whole, play_all}
use Rattle.image.proofs.Looks.{sized}
use Rattle.image.proofs.Plays.{play_all-append, legal-append}
use Rattle.chip.specs.declared.Mark.{Mark}
use Rattle.chip.specs.declared.Mark.TheVariants.{Command, Address, Data}
use Rattle.chip.specs.declared.Cycle.{Cycle}
use Rattle.chip.specs.declared.State.{State}
use Rattle.chip.specs.declared.State.TheVariants.{Idle, Status, Output, Read, Program, Erase}
use Rattle.chip.specs.declared.Registers.{Registers}
use Rattle.chip.specs.Cycle.{command, address, data_byte, read_second, program_first, program_second, erase_first, erase_second, read_status, reset}
use Rattle.chip.specs.Registers.{all_cycles, resting, dropped, in_command, valid, counts_as}
use Rattle.chip.specs.Bus.{Chip, chip, second_of, started, performed, commanded, located, loaded, moved, sent, run}
use Rattle.chip.specs.Driver.{row_then, done, program_cycles, erase_cycles, program_outcome, erase_outcome, last_page, last_block}
use Rattle.chip.specs.Claim.{cycles_of, drives, Lands, ResetBetween, ResetUnnoticed, step_of, completed_by, completed, steps_of, Explained, Kept}
use Rattle.chip.proofs.Sets.{fits, row_there, counts_as-valid, idle_valid, status_valid}
use Rattle.chip.proofs.Moves.{commanded_by, sent-right, sent-on, run-append, run_nil, run_one, run_cons}
use Rattle.chip.proofs.Keeps.{sent-valid}
use Rattle.chip.proofs.Outcomes.{program_outcome_lem, erase_outcome_lem, run-program, run-erase, run-reset}

pub kept : Kept
kept = sent-valid

-- ---- the driver's steps
erase_lands : (b : ℕ) (r : Registers) (img : List ℕ) → size_right img ≡ true → Legal img (erase b) → drives (erase b) r img ≡ done (erase b) img
unfolding erase_outcome
erase_lands b r img right legal =
    let s = sized img right in
    let i : b < blocks img = omega (arith, legal) in
    erase_outcome_lem b r img ∙ rw (le-leb b last_block (omega (arith, s.most)), right, lt-ltb b (blocks img) i)

pub lands : Lands
unfolding program_outcome
lands (program g page) r img right legal =
    let s = sized img right in
    let i : g < pages img = omega (arith, legal.0.0) in
    program_outcome_lem g page r img
    ∙ rw (eq-eqb (length page) page_size legal.0.1, le-leb g last_page (omega (arith, s.paged, s.most)), right, lt-ltb g (pages img) i, legal.1)
lands (erase b) r img right legal = erase_lands b r img right legal

-- ---- the steps that cycles complete
-- a second byte is neither reset nor status
second_plain : (s : State) → (eqb (second_of s) reset ≡ false) × (eqb (second_of s) read_status ≡ false)
second_plain Idle = (refl, refl)
second_plain Status = (refl, refl)
second_plain Output = (refl, refl)
second_plain Read = (refl, refl)
second_plain Program = (refl, refl)
second_plain Erase = (refl, refl)

-- the image now is that after the steps, and the flash can do them
abbrev Shows : List ℕ → List Step → List ℕ → Type 0
Shows img ss now = (now ≡ play_all ss img) × AllLegal img ss

performed_shows : (img : List ℕ) → size_right img ≡ true → (r : Registers) → valid (pages img) r ≡ true → r.cycles ≡ all_cycles → (s : State)
    → Shows img (step_of s r img) (performed s r img).image
unfolding play_all
performed_shows img right r v e Idle = (refl, tt)
performed_shows img right r v e Status = (refl, tt)
performed_shows img right r v e Output = (refl, tt)
performed_shows img right r v e Read = (refl, tt)
performed_shows img right r v e Program = go (page_empty img r.row) refl
  where
    go : (b : Bool) → page_empty img r.row ≡ b
        → Shows img (cond b (program r.row r.page ∷ []) []) (cond b (chip (resting Idle false) (whole (program r.row r.page) img))
        (chip dropped img)).image
    go true p = (refl, ((((row_there img right r v e).0, (fits (pages img) r v).sized), p), tt))
    go false p = (refl, tt)
performed_shows img right r v e Erase = (refl, ((row_there img right r v e).1, tt))

commanded_shows : (img : List ℕ) → size_right img ≡ true → (r : Registers) → valid (pages img) r ≡ true → (x : ℕ)
    → Shows img (completed_by Command x r img) (commanded x r img).image
unfolding play_all commanded
commanded_shows img right r v x = go (in_command r.state && eqb r.cycles all_cycles && eqb x (second_of r.state)) refl
  where
    go : (b : Bool) → in_command r.state && eqb r.cycles all_cycles && eqb x (second_of r.state) ≡ b
        → Shows img (cond b (step_of r.state r img) []) (commanded x r img).image
    go true t =
        let a = and-true (in_command r.state && eqb r.cycles all_cycles) (eqb x (second_of r.state)) t in
        let b = and-true (in_command r.state) (eqb r.cycles all_cycles) a.0 in
        let e : x ≡ second_of r.state = eqb-true x (second_of r.state) a.1 in
        let p : eqb x reset ≡ false = ap (λ (y : ℕ). eqb y reset) e ∙ (second_plain r.state).0 in
        let q : eqb x read_status ≡ false = ap (λ (y : ℕ). eqb y read_status) e ∙ (second_plain r.state).1 in
        rw (p, q, b.0, b.1, a.1) (performed_shows img right r v (eqb-true r.cycles all_cycles b.1) r.state)
    go false t =
        commanded_by (λ (d : Chip). Shows img [] d.image) x r img (refl, tt) (refl, tt) (refl, tt) (refl, tt)
        (λ i k e.
        absurd
        (true-false
        (and_intro (in_command r.state && eqb r.cycles all_cycles) (eqb x (second_of r.state))
        (and_intro (in_command r.state) (eqb r.cycles all_cycles) i (eq-eqb r.cycles all_cycles k)) (eq-eqb x (second_of r.state) e))
        t))

moved_shows : (img : List ℕ) → size_right img ≡ true → (r : Registers) → valid (pages img) r ≡ true → (m : Mark) (x : ℕ)
    → Shows img (completed_by m x r img) (moved m x r img).image
unfolding play_all
moved_shows img right r v Command x = commanded_shows img right r v x
moved_shows img right r v Address x = (refl, tt)
moved_shows img right r v Data x = (refl, tt)

sent_shows : (c : Cycle) (d : Chip) → Shows d.image (completed c d) (sent c d).image
unfolding completed sent play_all
sent_shows c d = go (size_right d.image) refl
  where
    go : (b : Bool) → size_right d.image ≡ b
        → Shows d.image (cond b (completed_by c.mark c.byte (counts_as (pages d.image) d.registers) d.image) [])
        (cond b (moved c.mark c.byte (counts_as (pages d.image) d.registers) d.image) d).image
    go true e = moved_shows d.image e (counts_as (pages d.image) d.registers) (counts_as-valid (pages d.image) d.registers) c.mark c.byte
    go false e = (refl, tt)

pub explained : Explained
unfolding steps_of run play_all
explained [] d = (refl, tt)
explained (c ∷ cs) d =
    let a = sent_shows c d in
    let b = explained cs (sent c d) in (
      b.0 ∙ ap (play_all (steps_of cs (sent c d))) a.0 ∙ sym (play_all-append (completed c d) (steps_of cs (sent c d)) d.image),
      legal-append (completed c d) (steps_of cs (sent c d)) d.image a.1 (subst (λ (img : List ℕ). AllLegal img (steps_of cs (sent c d))) a.0 b.1),
    )

-- ---- a reset between the cycles of a step
-- a cycle that changes no byte, whatever the chip
abbrev Quiet : Cycle → Type 0
Quiet c = (d : Chip) → (sent c d).image ≡ d.image

quiet_by : (c : Cycle) → ((r : Registers) (img : List ℕ) → completed_by c.mark c.byte r img ≡ []) → Quiet c
unfolding completed play_all
quiet_by c f d =
    let a = sent_shows c d in
    a.0 ∙ ap (λ (ss : List Step). play_all ss d.image) (go (size_right d.image))
  where
    go : (b : Bool) → cond b (completed_by c.mark c.byte (counts_as (pages d.image) d.registers) d.image) [] ≡ []
    go true = f (counts_as (pages d.image) d.registers) d.image
    go false = refl

quiet_command : (x : ℕ) → ((s : State) → eqb x (second_of s) ≡ false) → Quiet (command x)
quiet_command x f = quiet_by (command x) (λ r img. go r img (in_command r.state && eqb r.cycles all_cycles))
  where
    go : (r : Registers) (img : List ℕ) (b : Bool) → cond (b && eqb x (second_of r.state)) (step_of r.state r img) [] ≡ []
    go r img true = rw (f r.state)
    go r img false = refl

quiet_address : (x : ℕ) → Quiet (address x)
quiet_address x = quiet_by (address x) (λ r img. refl)

quiet_data : (x : ℕ) → Quiet (data_byte x)
quiet_data x = quiet_by (data_byte x) (λ r img. refl)

quiet_bytes : (xs : List ℕ) → Each Quiet (map data_byte xs)
quiet_bytes [] = tt
quiet_bytes (x ∷ xs) = (quiet_data x, quiet_bytes xs)

no_second : (x : ℕ) → eqb x read_second ≡ false → eqb x program_second ≡ false → eqb x erase_second ≡ false → (s : State) → eqb x (second_of s) ≡ false
no_second x a b c Idle = a
no_second x a b c Status = a
no_second x a b c Output = a
no_second x a b c Read = a
no_second x a b c Program = b
no_second x a b c Erase = c

run_quiet : (cs : List Cycle) → Each Quiet cs → (d : Chip) → (run cs d).image ≡ d.image
unfolding run
run_quiet [] q d = refl
run_quiet (c ∷ cs) q d = run_quiet cs q.1 (sent c d) ∙ q.0 d

-- the cycles of a step before its second command byte, and that byte
abbrev pub firsts : Step → List Cycle
firsts (program g page) = command reset ∷ command program_first ∷ address 0 ∷ address 0 ∷ row_then g (map data_byte page)
firsts (erase b) = command reset ∷ command erase_first ∷ row_then (b * pages_in_block) []

abbrev second : Step → Cycle
second (program g page) = command program_second
second (erase b) = command erase_second

pub cycles_split : (s : Step) → cycles_of s ≡ firsts s ++ (second s ∷ command read_status ∷ [])
unfolding program_cycles erase_cycles
cycles_split (program g page) = refl
cycles_split (erase b) = refl

firsts_quiet : (s : Step) → Each Quiet (firsts s)
firsts_quiet (program g page) = (
  quiet_command reset (no_second reset refl refl refl),
  (
    quiet_command program_first (no_second program_first refl refl refl),
    (quiet_address 0, (quiet_address 0, (quiet_address _, (quiet_address _, (quiet_address _, quiet_bytes page))))),
  ),
)
firsts_quiet (erase b) = (
  quiet_command reset (no_second reset refl refl refl),
  (
    quiet_command erase_first (no_second erase_first refl refl refl),
    (quiet_address _, (quiet_address _, (quiet_address _, tt))),
  ),
)

-- the chip after all cycles of a step that the flash can do
pub run-legal : (s : Step) (r : Registers) (img : List ℕ) → size_right img ≡ true → Legal img s → (run (cycles_of s) (chip r img)).image ≡ whole s img
run-legal (program g page) r img right legal =
    let s = sized img right in
    let i : g < pages img = omega (arith, legal.0.0) in
    ap (λ (d : Chip). d.image) (run-program img right r g page legal.0.1 (omega (arith, s.paged, s.most)))
    ∙ rw (lt-ltb g (pages img) i, legal.1)
run-legal (erase b) r img right legal =
    let s = sized img right in
    let i : b < blocks img = omega (arith, legal) in
    ap (λ (d : Chip). d.image) (run-erase img right r b (omega (arith, s.most))) ∙ rw (lt-ltb b (blocks img) i)

pub run-right : (cs : List Cycle) (d : Chip) → size_right (run cs d).image ≡ size_right d.image
unfolding run
run-right [] d = refl
run-right (c ∷ cs) d = run-right cs (sent c d) ∙ sent-right c d

-- a reset after any cycles: the image is as they left it
run_then_reset : (cs : List Cycle) (d : Chip) → size_right d.image ≡ true → run (cs ++ (command reset ∷ [])) d ≡ chip (resting Idle false) (run cs d).image
run_then_reset cs d right = run-append cs (command reset ∷ []) d ∙ last (run cs d) (run-right cs d ∙ right)
  where
    last : (e : Chip) → size_right e.image ≡ true → run (command reset ∷ []) e ≡ chip (resting Idle false) e.image
    last e w = run-reset e.image w e.registers [] ∙ run_nil (chip (resting Idle false) e.image)

module _ (s : Step) (r : Registers) (img : List ℕ) (right : size_right img ≡ true) (legal : Legal img s) where
  abbrev lasts : List Cycle
  lasts = second s ∷ command read_status ∷ []

  -- after k cycles: up to the second command byte the image is as it was, then the step is done
  pub undone : (k : ℕ) → k ≤ length (firsts s) → (run (take k (cycles_of s)) (chip r img)).image ≡ img
  undone k h =
      ap (λ (cs : List Cycle). (run (take k cs) (chip r img)).image) (cycles_split s)
      ∙ ap (λ (cs : List Cycle). (run cs (chip r img)).image) (take-append-le k (firsts s) lasts h)
      ∙ run_quiet (take k (firsts s)) (each_take Quiet k (firsts s) (firsts_quiet s)) (chip r img)

  -- the status cycle changes no byte
  before_status : (run (firsts s ++ (second s ∷ [])) (chip r img)).image ≡ whole s img
  before_status =
      sym (quiet_command read_status (no_second read_status refl refl refl) (run (firsts s ++ (second s ∷ [])) (chip r img)))
      ∙ ap (λ (d : Chip). d.image)
      (sym (run-append (firsts s ++ (second s ∷ [])) (command read_status ∷ []) (chip r img) ∙ run_one (command read_status) (run (firsts s ++
      (second s ∷ [])) (chip r img))))
      ∙ ap (λ (cs : List Cycle). (run cs (chip r img)).image) (append_assoc (firsts s) (second s ∷ []) (command read_status ∷ []) ∙ sym (cycles_split s))
      ∙ run-legal s r img right legal

  pub complete : (j : ℕ) → (run (take (length (firsts s) + suc j) (cycles_of s)) (chip r img)).image ≡ whole s img
  complete zero =
      ap (λ (cs : List Cycle). (run cs (chip r img)).image)
      (ap (take (length (firsts s) + 1)) (cycles_split s) ∙ take-append-add (firsts s) lasts 1)
      ∙ before_status
  complete (suc j) =
      ap (λ (cs : List Cycle). (run cs (chip r img)).image)
      (ap (take (length (firsts s) + suc (suc j))) (cycles_split s) ∙ take-append-add (firsts s) lasts (suc (suc j))
      ∙ ap (λ (cs : List Cycle). firsts s ++ (second s ∷ command read_status ∷ cs)) (take-nil j) ∙ sym (cycles_split s))
      ∙ run-legal s r img right legal

  pub length_split : length (cycles_of s) ≡ length (firsts s) + 2
  length_split = ap length (cycles_split s) ∙ length-append (firsts s) lasts

  pub reset_between : (k : ℕ)
      → (k + 1 < length (cycles_of s) → run (take k (cycles_of s) ++ (command reset ∷ [])) (chip r img) ≡ chip (resting Idle false) img)
      × (length (cycles_of s) ≤ k + 1 → run (take k (cycles_of s) ++ (command reset ∷ [])) (chip r img) ≡ chip (resting Idle false) (whole s img))
  reset_between k = (
    (λ h. run_then_reset (take k (cycles_of s)) (chip r img) right ∙ ap (chip (resting Idle false)) (undone k (omega (arith, length_split)))),
    (λ h.
        let e : k ≡ length (firsts s) + suc (k - length (firsts s) - 1) = omega (arith, length_split) in
        run_then_reset (take k (cycles_of s)) (chip r img) right
        ∙ ap (chip (resting Idle false)) (ap (λ (m : ℕ). (run (take m (cycles_of s)) (chip r img)).image) e ∙ complete (k - length (firsts s) - 1))),
  )

pub resets : ResetBetween
resets s r img right legal k = reset_between s r img right legal k

-- ---- a reset that the driver does not notice
-- the sets without a command and without a page to read
abbrev rest : Bool → Bool → Registers
rest false failed = resting Idle failed
rest true failed = resting Status failed

rest-valid : (n : ℕ) (t f : Bool) → valid n (rest t f) ≡ true
rest-valid n false f = idle_valid n f
rest-valid n true f = status_valid n f

-- a cycle that leads from such a set to another and changes no byte: no first byte of a command
abbrev Tame : Cycle → Type 0
Tame c = (t f : Bool) (img : List ℕ) → size_right img ≡ true → (u : Bool) × (g : Bool) × (sent c (chip (rest t f) img) ≡ chip (rest u g) img)

tame_address : (x : ℕ) → Tame (address x)
unfolding located resting
tame_address x false f img right = (false, true, sent-on (address x) (rest false f) img right (rest-valid (pages img) false f))
tame_address x true f img right = (false, true, sent-on (address x) (rest true f) img right (rest-valid (pages img) true f))

tame_data : (x : ℕ) → Tame (data_byte x)
unfolding loaded resting
tame_data x false f img right = (false, true, sent-on (data_byte x) (rest false f) img right (rest-valid (pages img) false f))
tame_data x true f img right = (false, true, sent-on (data_byte x) (rest true f) img right (rest-valid (pages img) true f))

tame_second : (x : ℕ) → eqb x reset ≡ false → eqb x read_status ≡ false → started x ≡ dropped → Tame (command x)
unfolding commanded resting
tame_second x a b e false f img right = (false, true, sent-on (command x) (rest false f) img right (rest-valid (pages img) false f) ∙ rw (a, b, e))
tame_second x a b e true f img right = (false, true, sent-on (command x) (rest true f) img right (rest-valid (pages img) true f) ∙ rw (a, b, e))

tame_status : Tame (command read_status)
unfolding commanded resting
tame_status false f img right = (true, (f || false), sent-on (command read_status) (rest false f) img right (rest-valid (pages img) false f))
tame_status true f img right = (true, (f || false), sent-on (command read_status) (rest true f) img right (rest-valid (pages img) true f))

tame_bytes : (xs : List ℕ) → Each Tame (map data_byte xs)
tame_bytes [] = tt
tame_bytes (x ∷ xs) = (tame_data x, tame_bytes xs)

run_tame : (cs : List Cycle) → Each Tame cs → (t f : Bool) (img : List ℕ) → size_right img ≡ true → (run cs (chip (rest t f) img)).image ≡ img
run_tame [] q t f img right = ap (λ (d : Chip). d.image) (run_nil (chip (rest t f) img))
run_tame (c ∷ cs) q t f img right =
    let s = q.0 t f img right in
    ap (λ (d : Chip). d.image) (run_cons c cs (chip (rest t f) img) ∙ ap (run cs) s.2) ∙ run_tame cs q.1 s.0 s.1 img right

-- the cycles of a step behind its first command byte
abbrev first : Step → Cycle
first (program g page) = command program_first
first (erase b) = command erase_first

abbrev thirds : Step → List Cycle
thirds (program g page) = address 0 ∷ address 0 ∷ row_then g (map data_byte page ++ (command program_second ∷ command read_status ∷ []))
thirds (erase b) = row_then (b * pages_in_block) (command erase_second ∷ command read_status ∷ [])

cycles_begin : (s : Step) → cycles_of s ≡ command reset ∷ first s ∷ thirds s
unfolding program_cycles erase_cycles
cycles_begin (program g page) = refl
cycles_begin (erase b) = refl

thirds_tame : (s : Step) → Each Tame (thirds s)
unfolding started
thirds_tame (program g page) = (
  tame_address 0,
  (
    tame_address 0,
    (
      tame_address _,
      (
        tame_address _,
        (
          tame_address _,
          each_append Tame (map data_byte page) (command program_second ∷ command read_status ∷ []) (tame_bytes page)
              (tame_second program_second refl refl refl, (tame_status, tt)),
        ),
      ),
    ),
  ),
)
thirds_tame (erase b) = (tame_address _, (tame_address _, (tame_address _, (tame_second erase_second refl refl refl, (tame_status, tt)))))

module _ (s : Step) (r : Registers) (img : List ℕ) (right : size_right img ≡ true) (legal : Legal img s) where
  -- the cycles behind a reset, from its registers
  begun_anew : (run (first s ∷ thirds s) (chip (resting Idle false) img)).image ≡ whole s img
  begun_anew =
      ap (λ (d : Chip). d.image) (sym (run-reset img right r (first s ∷ thirds s))) ∙ ap (λ (cs : List Cycle). (run cs (chip r img)).image) (sym
      (cycles_begin s))
      ∙ run-legal s r img right legal

  rest_tame : (j : ℕ) (now : List ℕ) → size_right now ≡ true → (run (drop (suc (suc j)) (cycles_of s)) (chip (resting Idle false) now)).image ≡ now
  rest_tame j now w =
      ap (λ (cs : List Cycle). (run (drop (suc (suc j)) cs) (chip (resting Idle false) now)).image) (cycles_begin s)
      ∙ run_tame (drop j (thirds s)) (each-drop Tame j (thirds s) (thirds_tame s)) false false now w

  -- the reset splits the cycles: those before it, and those after it from its registers
  split_reset : (k : ℕ) (now : List ℕ) → run (take k (cycles_of s) ++ (command reset ∷ [])) (chip r img) ≡ chip (resting Idle false) now
      → run (take k (cycles_of s) ++ (command reset ∷ drop k (cycles_of s))) (chip r img) ≡ run (drop k (cycles_of s)) (chip (resting Idle false) now)
  split_reset k now e =
      ap (λ (cs : List Cycle). run cs (chip r img)) (sym (append_assoc (take k (cycles_of s)) (command reset ∷ []) (drop k (cycles_of s))))
      ∙ run-append (take k (cycles_of s) ++ (command reset ∷ [])) (drop k (cycles_of s)) (chip r img)
      ∙ ap (run (drop k (cycles_of s))) e

  whole-right : size_right (whole s img) ≡ true
  whole-right = ap size_right (sym (run-legal s r img right legal)) ∙ run-right (cycles_of s) (chip r img) ∙ right

  abbrev image_of : Chip → List ℕ
  image_of d = d.image

  pub reset_unnoticed : (k : ℕ)
      → ((run (take k (cycles_of s) ++ (command reset ∷ drop k (cycles_of s))) (chip r img)).image ≡ img)
      ⊎ ((run (take k (cycles_of s) ++ (command reset ∷ drop k (cycles_of s))) (chip r img)).image ≡ whole s img)
  reset_unnoticed zero =
      inr (ap image_of (run-reset img right r (cycles_of s)) ∙ run-legal s (resting Idle false) img right legal)
  reset_unnoticed (suc zero) =
      inr
      (ap (λ (cs : List Cycle). (run (take 1 cs ++ (command reset ∷ drop 1 cs)) (chip r img)).image) (cycles_begin s)
      ∙ ap image_of (run-reset img right r (command reset ∷ first s ∷ thirds s) ∙ run-reset img right (resting Idle false) (first s ∷ thirds s)) ∙ begun_anew)
  reset_unnoticed (suc (suc j)) =
      elim (dec_lt (suc (suc j) + 1) (length (cycles_of s))) [
        | yes h ↦ inl (ap image_of (split_reset (suc (suc j)) img ((reset_between s r img right legal (suc (suc j))).0 h)) ∙ rest_tame j img right)
        | no h ↦ inr (ap image_of (split_reset (suc (suc j)) (whole s img) ((reset_between s r img right legal (suc (suc j))).1 (omega arith)))
            ∙ rest_tame j (whole s img) whole-right)
      ]

pub unnoticed : ResetUnnoticed
unnoticed s r img right legal k = reset_unnoticed s r img right legal k
