-- Document 01, "Contracts and cases": a power cut put as values. A budget of n steps and k bytes goes through the steps and comes back.
use Rattle.std.specs.Prelude.{ℕ, ◌-◌, true, false, cond, List, [], ◌∷◌, eqb}
use Rattle.image.specs.Size.{block_size}
use Rattle.image.specs.Step.{Step, up_to, whole}
use Rattle.image.specs.declared.Power.{Power}

-- a flash with its power
pub record Device : Type 0 where
  pub power : Power
  pub image : List ℕ

abbrev pub device : Power → List ℕ → Device
device p img = record { power = p; image = img }

-- power for n steps and k bytes of the next
abbrev pub power_for : ℕ → ℕ → Power
power_for n k = record { steps = n; bytes = k; on = true }

-- one step: whole while steps are left, then the first k bytes, then nothing
unfoldable pub act : Step → Device → Device
act s d =
    cond d.power.on
    (cond (eqb d.power.steps 0)
    (device (record { steps = 0; bytes = d.power.bytes; on = false }) (up_to d.power.bytes s d.image))
    (device (record { steps = d.power.steps - 1; bytes = d.power.bytes; on = true }) (whole s d.image)))
    d

unfoldable pub run : List Step → Device → Device
run [] d = d
run (s ∷ ss) d = run ss (act s d)

-- ---- power that is on: how many bytes of the next step it lasts for (no step has more than a block's), and what is left of it then
abbrev pub reach : Power → ℕ
reach p = cond (eqb p.steps 0) p.bytes block_size

abbrev pub less_step : Power → Power
less_step p =
    cond (eqb p.steps 0)
    (record { steps = 0; bytes = p.bytes; on = false })
    (record { steps = p.steps - 1; bytes = p.bytes; on = true })
