-- The test of all places of a record, as it goes on from place to place: whether they fit, and which key positions they name.
use Rattle.std.specs.Prelude.{ℕ, ◌+◌, ◌-◌, ◌<◌, ◌≤◌, ◌≡◌, Bool, true, false, ◌&&◌, List, eqb, length, get_or}
use Rattle.base.specs.Search.{all_from, count_from}
use Rattle.page.specs.Plan.{file_plan, last_file, places, count_of, start_of}
use Rattle.page.specs.Key.{positions}
use Rattle.store.specs.Record.{key_of, place_fits, named_times, keys_apart}

-- vacant places are passed in runs of 8
abbrev pub run_length : ℕ
run_length = 8

-- the places from x to end are places of a file, the first of which is given
pub record InFile (file first x end : ℕ) : Type 0 where
  pub known : file ≤ last_file
  pub start : first ≡ start_of file_plan file
  pub after : first ≤ x
  pub row : x ≤ end
  pub before : end ≤ first + count_of file_plan file

-- every place fits, and no key is named twice
abbrev pub places_fit : List ℕ → List ℕ → Bool
places_fit img map = all_from (place_fits img map) places 0 && keys_apart map

-- how many of the places from x on name position p
abbrev pub named_from : List ℕ → ℕ → ℕ → ℕ
named_from map x p = count_from (λ y. eqb (key_of map y) p) (places - x) x

-- the places before x name each position as often as the table says, and that is once at most
pub record Tallied (map named : List ℕ) (x : ℕ) : Type 0 where
  pub size : length named ≡ positions
  pub few : (p : ℕ) → p < positions → get_or named p 0 ≤ 1
  pub times : (p : ℕ) → p < positions → named_times map p ≡ get_or named p 0 + named_from map x p

-- the places before x fit, and the table tells the positions that they name
pub record Tested (img map named : List ℕ) (x : ℕ) : Type 0 where
  pub fit : (y : ℕ) → y < x → place_fits img map y ≡ true
  pub tallied : Tallied map named x

-- what the answer of a test that has come to place x says: the places before it fit, or not all places do
pub record Testing (img map named : List ℕ) (x : ℕ) (r : Bool) : Type 0 where
  pub right : r ≡ true → Tested img map named x
  pub wrong : r ≡ false → places_fit img map ≡ false
