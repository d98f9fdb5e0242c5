-- Document 01, "Calls and their refusals", Mount: the record that the chosen commit and the pages give, or that it is refused with 14.
use Rattle.std.specs.Prelude.{ℕ, ◌<◌, ◌≤◌, ◌≡◌, Bool, true, false, cond, not, ◌&&◌, ◌||◌, List, map as each, eqb, get_or, replicate}
use Rattle.base.specs.Search.{highest_from}
use Rattle.base.specs.Fold.{list_from}
use Rattle.page.specs.Plan.{places}
use Rattle.page.specs.Key.{positions}
use Rattle.page.specs.Entry.{none, used_letter, deleted_letter}
use Rattle.image.specs.Size.{most_blocks, blocks, pages}
use Rattle.image.specs.Look.{form_at}
use Rattle.store.specs.Kind.{is_chosen, has_events}
use Rattle.store.specs.Record.{map_size, has_live, keys_apart}
use Rattle.store.specs.Testing.{Tallied}
use Rattle.store.specs.Mount.{mount_map, mount_scratch, entries_fit, mount_letter, sequence_of, covered_in, has_above}
use Rattle.store.specs.declared.Numbers.{Numbers}
use Rattle.store.specs.declared.replay.Seen.{Seen}

-- every live entry fits, and no key is named twice
abbrev pub mount_fits : List ℕ → ℕ → Bool
mount_fits img c = entries_fit img c && keys_apart (mount_map img c)

-- the highest sequence of all whole or torn N and D pages
abbrev pub highest_sequence : List ℕ → ℕ
highest_sequence img = highest_from (λ g. sequence_of (form_at img g)) (pages img) 0

-- letters as a table: 1 at u, else 0
abbrev pub mark : ℕ → ℕ
mark l = cond (eqb l used_letter) 1 0

abbrev pub marks : List ℕ → List ℕ
marks letters = each mark letters

-- the letters where u has been put at the positions that the places before x name, and the others are as they were given
pub record Marked (map given letters : List ℕ) (x : ℕ) : Type 0 where
  pub tallied : Tallied map (marks letters) x
  pub kept : (p : ℕ) → p < positions → get_or letters p 0 ≡ cond (eqb (get_or letters p 0) used_letter) used_letter (get_or given p 0)

-- the lent lists after that, where they fit; the events say of each block whether an event above the covered sequence stands in it
pub record Rebuilding (img : List ℕ) (c : ℕ) (map letters scratch : List ℕ) (seen : Seen) : Type 0 where
  pub fit : mount_fits img c ≡ true
  pub map_made : map ≡ mount_map img c
  pub letters_made : letters ≡ list_from (mount_letter img c) positions 0
  pub scratch_made : scratch ≡ mount_scratch img c
  pub events_made : (b : ℕ) → b < blocks img → get_or seen.events b false ≡ has_above img (covered_in img c) b
  pub highest_made : seen.highest ≡ highest_sequence img

-- ---- what mount's erases go by: that table, and one of the blocks with a live page
pub record Sweeping (img map : List ℕ) (events : List Bool) (r : Numbers) : Type 0 where
  pub few : blocks img ≤ most_blocks
  pub told : (b : ℕ) → b < blocks img → get_or events b false ≡ has_above img (covered_in img r.commit) b
  -- a live page has a header
  pub headed : (b : ℕ) → has_live map b ≡ true → has_events img b ≡ true

-- a block that is not chosen, and marked in neither table
abbrev pub is_unmarked : List Bool → List Bool → Numbers → ℕ → Bool
is_unmarked events lives r b = not (is_chosen r b || get_or events b false || get_or lives b false)

-- what a refusal behind the tests of lengths leaves
pub record Cleared (map letters scratch : List ℕ) : Type 0 where
  pub map_cleared : map ≡ replicate map_size none
  pub letters_cleared : letters ≡ replicate positions deleted_letter
  pub scratch_cleared : scratch ≡ replicate places 0
