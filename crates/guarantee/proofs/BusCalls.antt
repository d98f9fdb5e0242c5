-- Every call over the chip's bus: `bus_guarantee`.
use Prim.Native.Nat.{ℕ, zero, suc}
use mathlib.Core.Path.{◌≡◌, refl, ap, ◌∙◌}
use mathlib.Core.Bool.{true}
use mathlib.Core.List.{List, [], ◌∷◌}
use lib.ListN.{length}
use Rattle.image.specs.Size.{right_length, size_right}
use Rattle.image.specs.Step.{Step, AllLegal, whole, play}
use Rattle.image.proofs.Step.{up_to-length, whole_length}
use Rattle.chip.specs.declared.Registers.{Registers}
use Rattle.chip.proofs.InTurn.{all_land, ends_between}
use Rattle.store.specs.Outcome.{Outcome, left, left_whole}
use Rattle.store.specs.Format.{format_of}
use Rattle.store.proofs.Legals.{format_legal}
use Rattle.store.proofs.LegalSteps.{legal-length, legal_inside}
use Rattle.guarantee.specs.Call.{Event}
use Rattle.guarantee.specs.Machine.{Machine, start, outcome_at, step}
use Rattle.guarantee.specs.OnBus.{OnBus, AllOnBus, BusGuarantee}
use Rattle.guarantee.proofs.LegalCalls.{call-legal}

-- steps that the flash can do
legal_on_bus : (o : Outcome) (img : List ℕ) (r : Registers) → size_right img ≡ true → AllLegal img o.steps → OnBus o img r
unfolding left left_whole
legal_on_bus o img r right legal =
    let all = all_land o.steps r img right legal in
    record { landed = all.0; carried = all.1; cut_between = ends_between o.steps r img right legal }

-- ---- lists: the image keeps its size
legal-play-length : (n k : ℕ) (ss : List Step) (img : List ℕ) → AllLegal img ss → length (play n k ss img) ≡ length img
unfolding play
legal-play-length n k [] img legal = refl
legal-play-length zero k (s ∷ ss) img legal = up_to-length k s img (legal_inside img s legal.0)
legal-play-length (suc n) k (s ∷ ss) img legal =
    legal-play-length n k ss (whole s img) legal.1 ∙ whole_length s img (legal_inside img s legal.0)

step_right : (m : Machine) (e : Event) → size_right m.image ≡ true → size_right (step m e).image ≡ true
unfolding step left size_right
step_right m e right =
    ap right_length (legal-play-length e.n e.k (outcome_at m e).steps m.image (call-legal e.call m.image m.store)) ∙ right

all_on_bus : (m : Machine) (es : List Event) → size_right m.image ≡ true → AllOnBus m es
all_on_bus m [] right = tt
all_on_bus m (e ∷ es) right =
    ((λ r. legal_on_bus (outcome_at m e) m.image r right (call-legal e.call m.image m.store)), all_on_bus (step m e) es (step_right m e right))

start_right : (img map letters noise : List ℕ) → size_right img ≡ true → size_right (start img map letters noise).image ≡ true
unfolding start left_whole size_right
start_right img map letters noise right =
    ap right_length (legal-length (format_of img map letters noise).steps img (format_legal img map letters noise)) ∙ right

pub bus_guarantee : BusGuarantee
bus_guarantee img map letters noise right = (
  (λ r. legal_on_bus (format_of img map letters noise) img r right (format_legal img map letters noise)),
  (λ es. all_on_bus (start img map letters noise) es (start_right img map letters noise right)),
)
