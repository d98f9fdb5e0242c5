-- Document 02, #109: what is proved of the chip and its driver together.
use Rattle.std.specs.Prelude.{ℕ, ◌+◌, ◌/◌, ◌<◌, ◌≤◌, ◌≡◌, ◌⊎◌, true, false, cond, ◌&&◌, List, [], ◌∷◌, ◌++◌, length, take, drop, eqb}
use Rattle.base.specs.Each.{Each, Bytes}
use Rattle.image.specs.Size.{pages_in_block, pages, size_right}
use Rattle.image.specs.Look.{page_empty}
use Rattle.image.specs.Step.{Step, program, erase, Legal, AllLegal, whole, play, play_all}
use Rattle.chip.specs.declared.Mark.{Mark}
use Rattle.chip.specs.declared.Mark.TheVariants.{Command, Address, Data}
use Rattle.chip.specs.declared.Cycle.{Cycle}
use Rattle.chip.specs.declared.State.{State}
use Rattle.chip.specs.declared.State.TheVariants.{Idle, Status, Output, Read, Program, Erase}
use Rattle.chip.specs.declared.Registers.{Registers}
use Rattle.chip.specs.Cycle.{command, reset}
use Rattle.chip.specs.Registers.{all_cycles, resting, in_command, valid, counts_as}
use Rattle.chip.specs.Bus.{Chip, chip, second_of, sent, run, received}
use Rattle.chip.specs.Driver.{Driven, driven, done, program_cycles, erase_cycles, drove_program, drove_erase}

-- ---- the driver's cycles for a step, and the driver asked for it
abbrev pub cycles_of : Step → List Cycle
cycles_of (program g page) = program_cycles g page
cycles_of (erase b) = erase_cycles b

abbrev pub drives : Step → Registers → List ℕ → Driven
drives (program g page) r img = drove_program g page r img
drives (erase b) r img = drove_erase b r img

-- from any register set: after the driver's cycles for a step that the flash can do, the step is done on the image, and the reply is success
abbrev pub Lands : Type 0
Lands = (s : Step) (r : Registers) (img : List ℕ) → size_right img ≡ true → Legal img s → drives s r img ≡ done s img

-- a reset after k of the cycles leaves the step undone before its second command byte, and complete after it
abbrev pub ResetBetween : Type 0
ResetBetween =
    (s : Step) (r : Registers) (img : List ℕ) → size_right img ≡ true → Legal img s → (k : ℕ)
    → (k + 1 < length (cycles_of s) → run (take k (cycles_of s) ++ (command reset ∷ [])) (chip r img) ≡ chip (resting Idle false) img)
    × (length (cycles_of s) ≤ k + 1 → run (take k (cycles_of s) ++ (command reset ∷ [])) (chip r img) ≡ chip (resting Idle false) (whole s img))

-- ---- the steps that cycles complete
-- the step of a whole command
abbrev pub step_of : State → Registers → List ℕ → List Step
step_of Idle r img = []
step_of Status r img = []
step_of Output r img = []
step_of Read r img = []
step_of Program r img = cond (page_empty img r.row) (program r.row r.page ∷ []) []
step_of Erase r img = erase (r.row / pages_in_block) ∷ []

-- the second byte of a command whose address is whole
abbrev pub completed_by : Mark → ℕ → Registers → List ℕ → List Step
completed_by Command x r img = cond (in_command r.state && eqb r.cycles all_cycles && eqb x (second_of r.state)) (step_of r.state r img) []
completed_by Address x r img = []
completed_by Data x r img = []

unfoldable pub completed : Cycle → Chip → List Step
completed c d =
    cond (size_right d.image) (completed_by c.mark c.byte (counts_as (pages d.image) d.registers) d.image) []

unfoldable pub steps_of : List Cycle → Chip → List Step
steps_of [] d = []
steps_of (c ∷ cs) d = completed c d ++ steps_of cs (sent c d)

-- any cycles, from any register set, over any image: the image is that after the steps which whole commands completed, each of which the flash can do; so
-- cycles that complete no command change no byte
abbrev pub Explained : Type 0
Explained = (cs : List Cycle) (d : Chip) → ((run cs d).image ≡ play_all (steps_of cs d) d.image) × AllLegal d.image (steps_of cs d)

-- any cycle of bytes leaves a set that counts as left by cycles
abbrev pub Kept : Type 0
Kept = (c : Cycle) → c.byte < 256 → (d : Chip) → size_right d.image ≡ true → valid (pages (sent c d).image) (sent c d).registers ≡ true

-- a reset after k of the cycles, which the driver does not notice: the cycles that are left change nothing more, or are the whole command
abbrev pub ResetUnnoticed : Type 0
ResetUnnoticed =
    (s : Step) (r : Registers) (img : List ℕ) → size_right img ≡ true → Legal img s → (k : ℕ)
    → ((run (take k (cycles_of s) ++ (command reset ∷ drop k (cycles_of s))) (chip r img)).image ≡ img)
    ⊎ ((run (take k (cycles_of s) ++ (command reset ∷ drop k (cycles_of s))) (chip r img)).image ≡ whole s img)

-- ---- the sets that bytes leave
-- what happens on the bus: a cycle is sent, or a byte is received
pub data Event : Type 0 where
  send : Cycle → Event
  receive : Event

-- a cycle that is sent carries a byte
abbrev pub OfByte : Event → Type 0
OfByte (send c) = c.byte < 256
OfByte receive = Unit {0}

-- the chip after an event
abbrev pub happens : Event → Chip → Chip
happens (send c) d = sent c d
happens receive d = chip (received d.registers d.image).registers d.image

-- the chip after events in a row
unfoldable pub happened : List Event → Chip → Chip
happened [] d = d
happened (e ∷ es) d = happened es (happens e d)

-- bytes lead from one chip to another: a cycle is sent, and any events follow it
abbrev pub Leads : Chip → Chip → Type 0
Leads d e = (c : Cycle) × (es : List Event) × Each OfByte (send c ∷ es) × (happened (send c ∷ es) d ≡ e)

-- a set counts if and only if bytes leave it: they lead to it over its image from any set, and what they lead to from any chip counts
abbrev pub CountsIsLeft : Type 0
CountsIsLeft =
    (img : List ℕ) → size_right img ≡ true → (r : Registers) → Bytes r.page
    → (valid (pages img) r ≡ true → (q : Registers) → Leads (chip q img) (chip r img))
    × ((d : Chip) → Leads d (chip r img) → valid (pages img) r ≡ true)

-- ---- steps in turn, as a call has them
-- their cycles in a row
unfoldable pub cycles_of_all : List Step → List Cycle
cycles_of_all [] = []
cycles_of_all (s ∷ ss) = cycles_of s ++ cycles_of_all ss

-- the driver is asked for each, up to the first reply that is not 0
unfoldable pub drives_all : List Step → Registers → List ℕ → Driven
drives_all [] r img = driven 0 r img
drives_all (s ∷ ss) r img =
    let d = drives s r img in
    cond (eqb d.reply 0) (drives_all ss d.end.registers d.end.image) d

-- from any register set, steps that the flash can do in turn are all done, with success
abbrev pub AllLand : Type 0
AllLand =
    (ss : List Step) (r : Registers) (img : List ℕ) → size_right img ≡ true → AllLegal img ss
    → ((drives_all ss r img).reply ≡ 0) × ((drives_all ss r img).end.image ≡ play_all ss img)

-- cycles that end after any j of them leave what a power cut leaves after n whole steps and no byte of the next
abbrev pub EndsBetween : Type 0
EndsBetween =
    (ss : List Step) (r : Registers) (img : List ℕ) → size_right img ≡ true → AllLegal img ss → (j : ℕ)
    → (n : ℕ) × (n ≤ length ss) × ((run (take j (cycles_of_all ss)) (chip r img)).image ≡ play n 0 ss img)
