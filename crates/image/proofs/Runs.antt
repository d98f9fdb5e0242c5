-- Steps under a power budget: one step by cases, steps in a row, and what a budget of n steps and k bytes leaves.
use Prim.Native.Nat.{ℕ, zero, suc, ◌+◌, ◌-◌, ◌<◌, ◌≤◌}
use native.Mathlib.Omega.{arith}
use native.Mathlib.Nat.{sub-zero}
use native.Mathlib.Decide.{ℕ_discrete, dec_lt}
use mathlib.Core.Path.{◌≡◌, refl, sym, ap, subst, ◌∙◌}
use mathlib.Core.Bool.{Bool, true, false}
use mathlib.Core.List.{List, [], ◌∷◌, ◌++◌}
use lib.ListN.{length}
use lib.Dec.{leb}
use borrow.Author.Tests.{eq-eqb, ne_eqb, le-leb, lt-leb}
use Rattle.base.specs.Fold.{list_from}
use Rattle.base.specs.Each.{Each}
use Rattle.base.proofs.Folds.{list_from_next, list_from-none}
use Rattle.image.specs.declared.Power.{Power}
use Rattle.image.specs.Size.{block_size}
use Rattle.image.specs.Look.{block_at}
use Rattle.image.specs.Step.{Step, Inside, up_to, whole, play, play_all}
use Rattle.image.specs.Power.{Device, device, power_for, act, run, reach, less_step}
use Rattle.image.proofs.Step.{block_of, up_to-whole, up_to-length, block_up_to_other}
use Rattle.image.proofs.Plays.{play_all_lem}

-- ---- one step, by cases
-- the power after it failed in a step
abbrev pub spent : ℕ → Power
spent k = record { steps = 0; bytes = k; on = false }

pub act_off : (s : Step) (p : Power) (img : List ℕ) → p.on ≡ false → act s (device p img) ≡ device p img
unfolding act
act_off s p img e = rw e

pub act-cut : (s : Step) (p : Power) (img : List ℕ) → p.on ≡ true → p.steps ≡ 0
    → act s (device p img) ≡ device (spent p.bytes) (up_to p.bytes s img)
unfolding act
act-cut s p img e z = rw (e, eq-eqb _ _ z)

pub act-whole : (s : Step) (p : Power) (img : List ℕ) → p.on ≡ true → (p.steps ≡ 0 → ⊥)
    → act s (device p img) ≡ device (power_for (p.steps - 1) p.bytes) (whole s img)
unfolding act
act-whole s p img e z = rw (e, ne_eqb _ _ z)

-- with the power on: the step up to the byte that the power reaches
pub act-on : (s : Step) (p : Power) (img : List ℕ) → p.on ≡ true → Inside (length img) s
    → act s (device p img) ≡ device (less_step p) (up_to (reach p) s img)
act-on s p img e ins = go (ℕ_discrete p.steps 0)
  where
    go : Dec (p.steps ≡ 0) → act s (device p img) ≡ device (less_step p) (up_to (reach p) s img)
    go (yes z) = act-cut s p img e z ∙ rw (eq-eqb _ _ z)
    go (no z) =
        act-whole s p img e z ∙ rw (ne_eqb _ _ z) (ap (device _) (sym (up_to-whole block_size (length img) s img ins (omega arith))))

-- ---- steps in a row
pub run_nil : (d : Device) → run [] d ≡ d
unfolding run
run_nil d = refl

pub run_cons : (s : Step) (ss : List Step) (d : Device) → run (s ∷ ss) d ≡ run ss (act s d)
unfolding run
run_cons s ss d = refl

pub run_one : (s : Step) (d : Device) → run (s ∷ []) d ≡ act s d
unfolding run
run_one s d = refl

pub run-append : (xs ys : List Step) (d : Device) → run (xs ++ ys) d ≡ run ys (run xs d)
unfolding run
run-append [] ys d = refl
run-append (x ∷ xs) ys d = run-append xs ys (act x d)

pub run_off : (ss : List Step) (p : Power) (img : List ℕ) → p.on ≡ false → run ss (device p img) ≡ device p img
unfolding run
run_off [] p img e = refl
run_off (s ∷ ss) p img e = rw (act_off s p img e) (run_off ss p img e)

-- ---- a loop's steps, as the code has them: i goes up to n
module _ (f : ℕ → Step) (n i : ℕ) (d : Device) where
  pub run_next : (e : Device) → i < n → e ≡ act (f i) d → run (list_from f (n - i) i) d ≡ run (list_from f (n - (i + 1)) (i + 1)) e
  run_next e h q = rw (list_from_next f n i h, q) (run_cons (f i) (list_from f (n - (i + 1)) (i + 1)) d)

  pub run_none : n ≤ i → run (list_from f (n - i) i) d ≡ d
  run_none h = rw (list_from-none f n i h) (run_nil d)

-- ---- a budget of n steps and k bytes: enough for all the steps, or not
act_powered : (s : Step) (n k : ℕ) (img : List ℕ) → act s (device (power_for (suc n) k) img) ≡ device (power_for n k) (whole s img)
act_powered s n k img =
    let e : suc n - 1 ≡ n = omega arith in
    act-whole s (power_for (suc n) k) img refl (λ z. omega arith) ∙ ap (λ (m : ℕ). device (power_for m k) (whole s img)) e

pub run_enough : (ss : List Step) (n k : ℕ) (img : List ℕ) → length ss ≤ n
    → run ss (device (power_for n k) img) ≡ device (power_for (n - length ss) k) (play_all ss img)
unfolding run play_all
run_enough [] n k img h = rw sub-zero
run_enough (s ∷ ss) zero k img h = absurd (omega arith)
run_enough (s ∷ ss) (suc n) k img h =
    let e : suc n - suc (length ss) ≡ n - length ss = omega arith in
    ap (run ss) (act_powered s n k img) ∙ run_enough ss n k (whole s img) (omega arith) ∙ rw e

pub run_short : (ss : List Step) (n k : ℕ) (img : List ℕ) → n < length ss
    → run ss (device (power_for n k) img) ≡ device (spent k) (play n k ss img)
unfolding run play
run_short [] n k img h = absurd (omega arith)
run_short (s ∷ ss) zero k img h = ap (run ss) (act-cut s (power_for 0 k) img refl refl) ∙ run_off ss (spent k) (up_to k s img) refl
run_short (s ∷ ss) (suc n) k img h = ap (run ss) (act_powered s n k img) ∙ run_short ss n k (whole s img) (omega arith)

-- the image is that of n steps whole and k bytes of the next
pub run-play : (ss : List Step) (n k : ℕ) (img : List ℕ) → (run ss (device (power_for n k) img)).image ≡ play n k ss img
run-play ss n k img = go (dec_lt n (length ss))
  where
    go : Dec (n < length ss) → (run ss (device (power_for n k) img)).image ≡ play n k ss img
    go (yes h) = ap (λ (d : Device). d.image) (run_short ss n k img h)
    go (no h) = ap (λ (d : Device). d.image) (run_enough ss n k img (omega arith)) ∙ sym (play_all_lem n k ss img (omega arith))

-- the power is then on exactly if n is at least the number of steps
pub run_on : (ss : List Step) (n k : ℕ) (img : List ℕ) → (run ss (device (power_for n k) img)).power.on ≡ leb (length ss) n
run_on ss n k img = go (dec_lt n (length ss))
  where
    go : Dec (n < length ss) → (run ss (device (power_for n k) img)).power.on ≡ leb (length ss) n
    go (yes h) = ap (λ (d : Device). d.power.on) (run_short ss n k img h) ∙ sym (lt-leb (length ss) n h)
    go (no h) = ap (λ (d : Device). d.power.on) (run_enough ss n k img (omega arith)) ∙ sym (le-leb (length ss) n (omega arith))

-- ---- later steps chosen from the image as it then is
-- with the power off it does not matter which
dark : (xs ys : List Step) (f : List ℕ → List Step) (p : Power) (img : List ℕ) → p.on ≡ false
    → run (f (run xs (device p img)).image) (run xs (device p img)) ≡ run ys (device p img)
dark xs ys f p img e = rw (run_off xs p img e) (run_off (f img) p img e ∙ sym (run_off ys p img e))

-- they may be chosen from the image after whole steps: where the two images differ, the power is off
pub run_bind : (xs : List Step) (f : List ℕ → List Step) (p : Power) (img : List ℕ)
    → run (f (run xs (device p img)).image) (run xs (device p img)) ≡ run (xs ++ f (play_all xs img)) (device p img)
unfolding run play_all
run_bind [] f p img = refl
run_bind (s ∷ xs) f p img = go p.on refl (ℕ_discrete p.steps 0) (run_bind xs f (power_for (p.steps - 1) p.bytes) (whole s img))
  where
    later : List Step
    later = xs ++ f (play_all xs (whole s img))

    go : (b : Bool) → p.on ≡ b → Dec (p.steps ≡ 0)
        → run (f (run xs (device (power_for (p.steps - 1) p.bytes) (whole s img))).image) (run xs (device (power_for (p.steps - 1) p.bytes) (whole s img)))
        ≡ run later (device (power_for (p.steps - 1) p.bytes) (whole s img))
        → run (f (run xs (act s (device p img))).image) (run xs (act s (device p img))) ≡ run later (act s (device p img))
    go false e z r = rw (act_off s p img e) (dark xs later f p img e)
    go true e (yes z) r = rw (act-cut s p img e z) (dark xs later f (spent p.bytes) (up_to p.bytes s img) refl)
    go true e (no z) r = rw (act-whole s p img e z) r

-- after one step
pub run_bind_one : (s : Step) (f : List ℕ → List Step) (p : Power) (img : List ℕ)
    → run (f (act s (device p img)).image) (act s (device p img)) ≡ run (s ∷ f (whole s img)) (device p img)
unfolding run play_all
run_bind_one s f p img = run_bind (s ∷ []) f p img

-- ---- steps inside the image keep its length, and every block that they do not work in
-- the image after a step is the image before it, or after the first bytes of the step
act-image : (P : List ℕ → Type 0) (s : Step) (d : Device) → Inside (length d.image) s → P d.image → ((k : ℕ) → P (up_to k s d.image))
    → P (act s d).image
act-image P s d ins h f = go d.power.on refl
  where
    go : (b : Bool) → d.power.on ≡ b → P (act s d).image
    go true e = rw (act-on s d.power d.image e ins) (f (reach d.power))
    go false e = rw (act_off s d.power d.image e) h

pub act-length : (s : Step) (d : Device) → Inside (length d.image) s → length (act s d).image ≡ length d.image
act-length s d ins = act-image (λ (img : List ℕ). length img ≡ length d.image) s d ins refl (λ k. up_to-length k s d.image ins)

pub block_act_other : (s : Step) (d : Device) (b : ℕ) → Inside (length d.image) s → (block_of s ≡ b → ⊥) → block_at (act s d).image b ≡ block_at d.image b
block_act_other s d b ins o =
    act-image (λ (img : List ℕ). block_at img b ≡ block_at d.image b) s d ins refl (λ k. block_up_to_other k s d.image ins b o)

-- the same of a step that code did
pub block_done_other : (s : Step) (p q : Power) (img img' : List ℕ) (b : ℕ) → device q img' ≡ act s (device p img) → Inside (length img) s → (block_of s ≡ b → ⊥)
    → block_at img' b ≡ block_at img b
block_done_other s p q img img' b e ins o = ap (λ (d : Device). block_at d.image b) e ∙ block_act_other s (device p img) b ins o

pub run_length : (ss : List Step) (d : Device) → Each (Inside (length d.image)) ss → length (run ss d).image ≡ length d.image
unfolding run
run_length [] d i = refl
run_length (s ∷ ss) d i =
    let l = act-length s d i.0 in
    run_length ss (act s d) (subst (λ (n : ℕ). Each (Inside n) ss) (sym l) i.1) ∙ l

pub block_run_other : (ss : List Step) (d : Device) (b : ℕ) → Each (Inside (length d.image)) ss → Each (λ (s : Step). block_of s ≡ b → ⊥) ss
    → block_at (run ss d).image b ≡ block_at d.image b
unfolding run
block_run_other [] d b i o = refl
block_run_other (s ∷ ss) d b i o =
    block_run_other ss (act s d) b (subst (λ (n : ℕ). Each (Inside n) ss) (sym (act-length s d i.0)) i.1) o.1
    ∙ block_act_other s d b i.0 o.0
