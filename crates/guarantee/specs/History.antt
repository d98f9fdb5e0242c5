-- The machines that a format and an allowed list of calls lead to: what every law beside the one theorem is about.
use Rattle.std.specs.Prelude.{ℕ, ◌≡◌, List, [], ◌∷◌, T, length}
use Rattle.image.specs.Size.{size_right}
use Rattle.store.specs.Format.{noise_size, buffers_right}
use Rattle.guarantee.specs.Call.{Event}
use Rattle.guarantee.specs.Machine.{Machine, start, step, Allowed}

-- the machine after the calls of a list
abbrev pub end_of : Machine → List Event → Machine
end_of m [] = m
end_of m (e ∷ es) = end_of (step m e) es

-- how a machine came about: a format with right arguments, and an allowed list of calls after it
pub record History (m : Machine) : Type 0 where
  pub image : List ℕ
  pub map : List ℕ
  pub letters : List ℕ
  pub noise : List ℕ
  pub size : T (size_right image)
  pub lent : T (buffers_right map letters)
  pub long : length noise ≡ noise_size
  pub events : List Event
  pub allowed : Allowed (start image map letters noise) events
  pub here : end_of (start image map letters noise) events ≡ m
