-- The laws of a file plan: a node has one place, and a place one node. All but the last group hold of any plan.
use Prim.Native.Nat.{ℕ, zero, suc, ◌+◌, ◌-◌, ◌<◌, ◌≤◌}
use native.Mathlib.Omega.{arith}
use native.Mathlib.Decide.{dec_lt}
use mathlib.Core.Path.{◌≡◌, refl, ap, ◌∙◌}
use mathlib.Core.Bool.{Bool, true, false, cond}
use mathlib.Core.List.{List, [], ◌∷◌}
use lib.ListN.{length, get_or, get_or-eq_default}
use lib.Dec.{eqb, ltb}
use borrow.Author.Tests.{eqb-true, lt-ltb, ltb-true}
use Rattle.base.specs.Search.{all_from}
use Rattle.base.proofs.Searches.{all_holds}
use Rattle.page.specs.Plan.{file_plan, last_file, places, count_of, start_of, place_of}
use Rattle.std.specs.Prelude.{Some, None}

-- ---- counts and sums of counts
pub count_beyond : (plan : List ℕ) (file : ℕ) → length plan ≤ file → count_of plan file ≡ 0
unfolding count_of
count_beyond plan file h = get_or-eq_default plan 0 h

pub count_file : (plan : List ℕ) (file offset : ℕ) → offset < count_of plan file → file < length plan
count_file plan file offset h =
    elim (dec_lt file (length plan)) [ yes l ↦ l | no l ↦ absurd (omega (arith, count_beyond plan file (omega arith))) ]

pub start_next : (plan : List ℕ) (file : ℕ) → start_of plan (suc file) ≡ start_of plan file + count_of plan file
unfolding start_of count_of
start_next [] zero = refl
start_next [] (suc file) = refl
start_next (n ∷ plan) zero = omega arith
start_next (n ∷ plan) (suc file) = omega (arith, start_next plan file)

-- the files in their order: one that comes later starts no earlier than the other ends
pub start-after : (plan : List ℕ) (file later : ℕ) → file < later → start_of plan file + count_of plan file ≤ start_of plan later
start-after plan file zero h = absurd (omega arith)
start-after plan file (suc later) h =
    let next = start_next plan later in
    elim (dec_lt file later) [
      | yes l ↦ omega (arith, start-after plan file later l)
      | no l ↦ let e : file ≡ later = omega arith in rw e (omega arith)
    ]

-- ---- a node's place
module _ (plan : List ℕ) (file offset : ℕ) where
  pub place_at_lem : offset < count_of plan file → place_of plan file offset ≡ Some (start_of plan file + offset)
  unfolding place_of
  place_at_lem h = rw (lt-ltb offset (count_of plan file) h)

  -- what it says that a node has the place x
  pub place_is : (x : ℕ) → place_of plan file offset ≡ Some x → (offset < count_of plan file) × (start_of plan file + offset ≡ x)
  unfolding place_of
  place_is x = go (ltb offset (count_of plan file)) refl
    where
      go : (b : Bool) → ltb offset (count_of plan file) ≡ b → cond b (Some (start_of plan file + offset)) None ≡ Some x
          → (offset < count_of plan file) × (start_of plan file + offset ≡ x)
      go true t e = (ltb-true offset (count_of plan file) t, cc)
      go false t e = absurd (let z : ◌≡◌ {A = ℕ} 0 1 = cc in omega arith)

  pub place-file : (x : ℕ) → place_of plan file offset ≡ Some x → file < length plan
  place-file x e = count_file plan file offset (place_is x e).0

  pub place_below : (x : ℕ) → place_of plan file offset ≡ Some x → x < start_of plan (length plan)
  place_below x e =
      let i = place_is x e in
      omega (arith, start-after plan file (length plan) (place-file x e))

-- a place has one file and offset
pub place_unique : (plan : List ℕ) (file offset file' offset' x : ℕ) → place_of plan file offset ≡ Some x → place_of plan file' offset' ≡ Some x
    → (file ≡ file') × (offset ≡ offset')
place_unique plan file offset file' offset' x e e' =
    let i = place_is plan file offset x e in
    let i' = place_is plan file' offset' x e' in
    elim (dec_lt file file') [
      | yes l ↦ absurd (omega (arith, start-after plan file file' l))
      | no l ↦ elim (dec_lt file' file) [
        | yes l' ↦ absurd (omega (arith, start-after plan file' file l'))
        | no l' ↦ let f : file ≡ file' = omega arith in (f, omega (arith, ap (start_of plan) f))
      ]
    ]

-- every number below the sum of all counts is the place of a node
within_plan : (plan : List ℕ) (x : ℕ) → x < start_of plan (length plan) → (file : ℕ) × (offset : ℕ) × (offset < count_of plan file) × (start_of plan file + offset ≡ x)
unfolding start_of count_of
within_plan [] x h = absurd (omega arith)
within_plan (n ∷ plan) x h =
    elim (dec_lt x n) [
      | yes l ↦ (0, x, l, omega arith)
      | no l ↦ let w = within_plan plan (x - n) (omega arith) in (suc w.0, w.1, w.2, omega (arith, w.3))
    ]

pub place-some : (plan : List ℕ) (x : ℕ) → x < start_of plan (length plan) → (file : ℕ) × (offset : ℕ) × (place_of plan file offset ≡ Some x)
place-some plan x h =
    let w = within_plan plan x h in
    (w.0, w.1, place_at_lem plan w.0 w.1 w.2 ∙ ap Some w.3)

-- the places of a file from an offset on are those from its start and the offset up to its end
module _ (plan : List ℕ) (file from : ℕ) where
  pub places_from : (offset x : ℕ) → place_of plan file offset ≡ Some x → from ≤ offset
      → (start_of plan file + from ≤ x) × (x < start_of plan file + count_of plan file)
  places_from offset x e h = let i = place_is plan file offset x e in omega arith

  pub from_places : (x : ℕ) → start_of plan file + from ≤ x → x < start_of plan file + count_of plan file
      → (from ≤ x - start_of plan file) × (place_of plan file (x - start_of plan file) ≡ Some x)
  from_places x a b = (omega arith, place_at_lem plan file (x - start_of plan file) (omega arith) ∙ ap Some (omega arith))

-- ---- the plan of document 01
pub plan_length : length file_plan ≡ suc last_file
plan_length = refl

pub plan_sum : start_of file_plan (length file_plan) ≡ places
unfolding start_of
plan_sum = refl

pub plan_file : (file offset x : ℕ) → place_of file_plan file offset ≡ Some x → file ≤ last_file
plan_file file offset x e = omega (arith, place-file file_plan file offset x e)

pub plan_below : (file offset x : ℕ) → place_of file_plan file offset ≡ Some x → x < places
plan_below file offset x e = rw plan_sum at (place_below file_plan file offset x e)

pub plan_some : (x : ℕ) → x < places → (file : ℕ) × (offset : ℕ) × (place_of file_plan file offset ≡ Some x)
plan_some x h = place-some file_plan x (rw plan_sum h)

-- ---- the sums of the counts before each file
abbrev pub starts : List ℕ
starts = 0 ∷ 32 ∷ 64 ∷ 88 ∷ 112 ∷ 128 ∷ 144 ∷ 160 ∷ 176 ∷ 184 ∷ 192 ∷ 200 ∷ 208 ∷ 216 ∷ []

pub start_is : (file : ℕ) → file ≤ last_file → get_or starts file 0 ≡ start_of file_plan file
unfolding all_from start_of
start_is file h =
    eqb-true _ _ (all_holds (λ file. eqb (get_or starts file 0) (start_of file_plan file)) 14 0 file refl (omega arith) (omega arith))
