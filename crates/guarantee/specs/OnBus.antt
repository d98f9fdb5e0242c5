-- Document 02, #109, under demand 3: what a call's steps leave when the driver sends them over the bus, and when the power fails between two bytes.
use Rattle.std.specs.Prelude.{ℕ, ◌≤◌, ◌≡◌, true, false, List, [], ◌∷◌, length, take}
use Rattle.image.specs.Size.{size_right}
use Rattle.image.specs.Step.{Step, whole}
use Rattle.chip.specs.declared.Registers.{Registers}
use Rattle.chip.specs.Bus.{chip, run}
use Rattle.chip.specs.Claim.{cycles_of_all, drives_all}
use Rattle.store.specs.Record.{Record}
use Rattle.store.specs.Outcome.{Outcome, left, left_whole}
use Rattle.store.specs.Format.{format_of}
use Rattle.guarantee.specs.Call.{Call, Event, outcome_of, is_mount}
use Rattle.guarantee.specs.Machine.{Machine, start, outcome_at, step}

-- a call with this outcome on an image, the chip having these registers
pub record OnBus (o : Outcome) (img : List ℕ) (r : Registers) : Type 0 where
  -- the driver replies 0 to each of its steps [a step that the chip cannot do: the driver replies 10]
  pub landed : (drives_all o.steps r img).reply ≡ 0
  -- and the chip has what the whole call leaves
  pub carried : (drives_all o.steps r img).end.image ≡ (left_whole o img).image
  -- the power fails after j bytes: the chip has what the call leaves that is cut after n steps, at no byte of the next
  pub cut_between : (j : ℕ) → (n : ℕ) × (n ≤ length o.steps) × ((run (take j (cycles_of_all o.steps)) (chip r img)).image ≡ (left n 0 o img).image)

-- each call of a list, on the image and the record that the last one left, be it cut or refused
abbrev pub AllOnBus : Machine → List Event → Type 0
AllOnBus m [] = Unit {0}
AllOnBus m (e ∷ es) = ((r : Registers) → OnBus (outcome_at m e) m.image r) × AllOnBus (step m e) es

-- a format of any image of the right size, and every list from what it left, whatever the chip's registers at each call
abbrev pub BusGuarantee : Type 0
BusGuarantee =
    (img map letters noise : List ℕ) → size_right img ≡ true
    → ((r : Registers) → OnBus (format_of img map letters noise) img r)
    × ((es : List Event) → AllOnBus (start img map letters noise) es)

-- each step changes the image that it finds, so that images before and after it tell it
abbrev pub AllSeen : List ℕ → List Step → Type 0
AllSeen img [] = Unit {0}
AllSeen img (s ∷ ss) = (whole s img ≡ img → ⊥) × AllSeen (whole s img) ss

-- so it is in every call but mount, on any image and with any record
abbrev pub CallsSeen : Type 0
CallsSeen = (call : Call) → is_mount call ≡ false → (img : List ℕ) (r : Record) → AllSeen img (outcome_of call img r).steps
