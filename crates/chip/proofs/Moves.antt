-- A cycle over a set that cycles leave, case by case; the image keeps its length; cycles over a wrong image.
use Prim.Native.Nat.{ℕ, suc, ◌+◌, ◌/◌, ◌<◌, ◌≤◌}
use native.Mathlib.Numerals.{add-one}
use mathlib.Core.Path.{◌≡◌, refl, sym, ap, ◌∙◌}
use mathlib.Core.Bool.{Bool, true, false, cond, ◌&&◌, ◌||◌}
use mathlib.Core.List.{List, [], ◌∷◌, ◌++◌}
use lib.ListN.{length, drop, drop_of_length-le}
use lib.Seq.{drop-cons}
use lib.Dec.{eqb, ltb}
use borrow.Author.Tests.{eqb-true, ltb-true}
use Rattle.base.proofs.Choice.{and-true}
use Rattle.page.specs.Frame.{page_size}
use Rattle.image.specs.Size.{pages_in_block, pages, right_length, size_right}
use Rattle.image.specs.Look.{page_empty}
use Rattle.image.specs.Step.{program, erase}
use Rattle.image.proofs.Step.{whole_length}
use Rattle.chip.specs.declared.Mark.{Mark}
use Rattle.chip.specs.declared.Mark.TheVariants.{Command, Address, Data}
use Rattle.chip.specs.declared.Cycle.{Cycle}
use Rattle.chip.specs.declared.State.{State}
use Rattle.chip.specs.declared.State.TheVariants.{Idle, Status, Output, Read, Program, Erase}
use Rattle.chip.specs.declared.Registers.{Registers}
use Rattle.chip.specs.Cycle.{reset, read_status, command}
use Rattle.chip.specs.Registers.{all_cycles, resting, dropped, in_command, valid, counts_as}
use Rattle.chip.specs.Bus.{Chip, chip, second_of, started, performed, commanded, addressed, judged, located, takes_data, filled, loaded, moved, sent, run}
use Rattle.chip.specs.Driver.{cycle_at}
use Rattle.chip.proofs.Sets.{fits, row_there, counts_as-valid, counts_as-same}

-- ---- case by case
pub by : {A : Type 0} (P : A → Type 0) (b : Bool) (x y : A) → (b ≡ true → P x) → (b ≡ false → P y) → P (cond b x y)
by P true x y f g = f refl
by P false x y f g = g refl

pub commanded_by : (P : Chip → Type 0) (x : ℕ) (r : Registers) (img : List ℕ)
    → P (chip (resting Idle false) img)
    → P (chip (resting Status (r.failed || in_command r.state)) img)
    → P (chip (started x) img)
    → P (chip dropped img)
    → (in_command r.state ≡ true → r.cycles ≡ all_cycles → x ≡ second_of r.state → P (performed r.state r img))
    → P (commanded x r img)
unfolding commanded
commanded_by P x r img p q s t f =
    by P (eqb x reset) _ _ (λ _. p)
    (λ _. by P (eqb x read_status) _ _ (λ _. q)
    (λ _. by P (in_command r.state) _ _
    (λ i. by P (eqb r.cycles all_cycles && eqb x (second_of r.state)) _ _
    (λ e. let b = and-true (eqb r.cycles all_cycles) (eqb x (second_of r.state)) e in f i (eqb-true _ _ b.0) (eqb-true _ _ b.1))
    (λ _. t))
    (λ _. s)))

pub located_by : (P : Registers → Type 0) (n x : ℕ) (r : Registers) → P dropped
    → (in_command r.state ≡ true → r.cycles < all_cycles → P (judged n (addressed x r)))
    → P (located n x r)
unfolding located
located_by P n x r p f =
    by P (in_command r.state && ltb r.cycles all_cycles) _ _
    (λ e. let b = and-true (in_command r.state) (ltb r.cycles all_cycles) e in f b.0 (ltb-true _ _ b.1))
    (λ _. p)

pub loaded_by : (P : Registers → Type 0) (x : ℕ) (r : Registers) → P dropped
    → (takes_data r.state ≡ true → r.cycles ≡ all_cycles → r.column < page_size → P (filled x r))
    → P (loaded x r)
unfolding loaded
loaded_by P x r p f =
    by P (takes_data r.state && eqb r.cycles all_cycles && ltb r.column page_size) _ _
    (λ e.
    let b = and-true (takes_data r.state && eqb r.cycles all_cycles) (ltb r.column page_size) e in
    let c = and-true (takes_data r.state) (eqb r.cycles all_cycles) b.0 in
    f c.0 (eqb-true _ _ c.1) (ltb-true _ _ b.1))
    (λ _. p)

-- ---- the image keeps its length
performed-length : (img : List ℕ) → size_right img ≡ true → (r : Registers) → valid (pages img) r ≡ true → r.cycles ≡ all_cycles → (s : State)
    → length (performed s r img).image ≡ length img
performed-length img right r v e Idle = refl
performed-length img right r v e Status = refl
performed-length img right r v e Output = refl
performed-length img right r v e Read = refl
performed-length img right r v e Program =
    by (λ (d : Chip). length d.image ≡ length img) (page_empty img r.row) _ _
    (λ _. whole_length (program r.row r.page) img ((row_there img right r v e).0, (fits (pages img) r v).sized))
    (λ _. refl)
performed-length img right r v e Erase = whole_length (erase (r.row / pages_in_block)) img (row_there img right r v e).1

moved_length : (img : List ℕ) → size_right img ≡ true → (r : Registers) → valid (pages img) r ≡ true → (m : Mark) (x : ℕ)
    → length (moved m x r img).image ≡ length img
moved_length img right r v Command x =
    commanded_by (λ (d : Chip). length d.image ≡ length img) x r img refl refl refl refl (λ _ e _. performed-length img right r v e r.state)
moved_length img right r v Address x = refl
moved_length img right r v Data x = refl

pub sent-length : (c : Cycle) (d : Chip) → length (sent c d).image ≡ length d.image
unfolding sent
sent-length c d =
    by (λ (e : Chip). length e.image ≡ length d.image) (size_right d.image) _ _
    (λ right. moved_length d.image right (counts_as (pages d.image) d.registers) (counts_as-valid (pages d.image) d.registers) c.mark
    c.byte)
    (λ _. refl)

pub sent-right : (c : Cycle) (d : Chip) → size_right (sent c d).image ≡ size_right d.image
unfolding size_right
sent-right c d = ap right_length (sent-length c d)

-- ---- cycles in a row
pub sent-wrong : (c : Cycle) (d : Chip) → size_right d.image ≡ false → sent c d ≡ d
unfolding sent
sent-wrong c d w = rw w

pub run-wrong : (cs : List Cycle) (d : Chip) → size_right d.image ≡ false → run cs d ≡ d
unfolding run
run-wrong [] d w = refl
run-wrong (c ∷ cs) d w = ap (run cs) (sent-wrong c d w) ∙ run-wrong cs d w

pub run-append : (cs ds : List Cycle) (d : Chip) → run (cs ++ ds) d ≡ run ds (run cs d)
unfolding run
run-append [] ds d = refl
run-append (c ∷ cs) ds d = run-append cs ds (sent c d)

pub run_nil : (d : Chip) → run [] d ≡ d
unfolding run
run_nil d = refl

pub run_one : (c : Cycle) (d : Chip) → run (c ∷ []) d ≡ sent c d
unfolding run
run_one c d = refl

pub run_cons : (c : Cycle) (cs : List Cycle) (d : Chip) → run (c ∷ cs) d ≡ run cs (sent c d)
unfolding run
run_cons c cs d = refl

pub run_next : (cs : List Cycle) (i : ℕ) (d e : Chip) → i < length cs → e ≡ sent (cycle_at cs i) d → run (drop i cs) d ≡ run (drop (i + 1) cs) e
run_next cs i d e h s = rw (drop-cons cs i (command read_status) h, add-one i) (run_cons (cycle_at cs i) (drop (suc i) cs) d ∙ ap (run (drop (suc i) cs)) (sym s))

pub run_none : (cs : List Cycle) (i : ℕ) (d : Chip) → length cs ≤ i → run (drop i cs) d ≡ d
unfolding run
run_none cs i d h = rw (drop_of_length-le cs h)

-- a cycle over a right image and a set that cycles leave
pub sent-on : (c : Cycle) (r : Registers) (img : List ℕ) → size_right img ≡ true → valid (pages img) r ≡ true
    → sent c (chip r img) ≡ moved c.mark c.byte r img
unfolding sent
sent-on c r img right v = rw (right, counts_as-same (pages img) r v)
