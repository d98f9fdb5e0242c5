-- Document 01, "Calls and their refusals", Mount: what the pass over the pages makes of the lent map, letters and scratch.
--   Pass, pass   what the pass keeps: the lent lists, the blocks that have events, the highest sequence
--   held_at       what map and scratch hold of a place
--   EachPlace, EachLetter   what a change makes of each place, of each letter
--   part_read, LettersRead   what the payload of a commit's part says of its places, of its positions
--   outranks     an event against what a place holds
--   above_of      a page of a block whose whole or torn N or D header is above a sequence
--   Passed       what some pages in a row make of it
--   Replayed     what the whole pass leaves
use Rattle.std.specs.Prelude.{ℕ, ◌*◌, ◌-◌, ◌<◌, ◌/◌, max, ◌≡◌, Bool, false, cond, ◌&&◌, ◌||◌, List, get_or, eqb, leb, ltb}
use Rattle.base.specs.Part.{part}
use Rattle.base.specs.Search.{any_from, highest_from}
use Rattle.base.specs.Fold.{fold_from, list_from}
use Rattle.page.specs.Frame.{payload_size}
use Rattle.page.specs.Plan.{places}
use Rattle.page.specs.Key.{positions}
use Rattle.page.specs.Entry.{free_letter, deleted_letter, entry_size, entry_of}
use Rattle.image.specs.Size.{pages_in_block, most_blocks, blocks, pages}
use Rattle.image.specs.Look.{form_at}
use Rattle.store.specs.Record.{page_of, key_of}
use Rattle.store.specs.Mount.{Decision, by_entry, decide_by, spends, sequence_of, unused_letter, mount_map, mount_scratch, covered_in, has_above}
use Rattle.store.specs.declared.replay.Seen.{Seen}

-- map, letters and scratch, for each block whether an event above the covered sequence was seen there, and the highest sequence so far
pub record Pass : Type 0 where
  pub map : List ℕ
  pub letters : List ℕ
  pub scratch : List ℕ
  pub events : List Bool
  pub highest : ℕ

abbrev pub pass : List ℕ → List ℕ → List ℕ → Seen → Pass
pass map letters scratch seen =
    record { map = map; letters = letters; scratch = scratch; events = seen.events; highest = seen.highest }

-- what map and scratch hold of place x
abbrev pub held_at : List ℕ → List ℕ → ℕ → Decision
held_at map scratch x = record { sequence = get_or scratch x 0; page = page_of map x; key = key_of map x }

-- each place of the second map and scratch holds what f makes of what it held in the first
abbrev pub EachPlace : (ℕ → Decision → Decision) → List ℕ → List ℕ → List ℕ → List ℕ → Type 0
EachPlace f map scratch map' scratch' = (x : ℕ) → x < places → held_at map' scratch' x ≡ f x (held_at map scratch x)

-- each of the second letters is what f makes of the first
abbrev pub EachLetter : (ℕ → ℕ → ℕ) → List ℕ → List ℕ → Type 0
EachLetter f letters letters' = (p : ℕ) → p < positions → get_or letters' p 0 ≡ f p (get_or letters p 0)

-- the places from first up to x hold what the entries of a payload say, in order
abbrev pub part_read : List ℕ → ℕ → ℕ → ℕ → Decision → Decision
part_read payload first x y held =
    cond (leb first y && ltb y x) (by_entry (entry_of (part payload (entry_size * (y - first)) entry_size))) held

-- the letters of a payload's positions are f where the payload has f, else d
abbrev pub LettersRead : List ℕ → List ℕ → Type 0
LettersRead payload letters =
    (p : ℕ) → p < payload_size → get_or letters p 0 ≡ cond (eqb (get_or payload p 0) free_letter) free_letter deleted_letter

-- an event's decision against what a place holds: ties to the event, which stands on the higher page
abbrev pub outranks : Decision → Decision → Decision
outranks event held = cond (leb held.sequence event.sequence) event held

-- page g is a whole or torn N or D page of block b, above sequence s
abbrev pub above_of : List ℕ → ℕ → ℕ → ℕ → Bool
above_of img s b g = eqb (g / pages_in_block) b && ltb s (sequence_of (form_at img g))

-- what the n pages from g on, above the covered sequence s, make of t
pub record Passed (img : List ℕ) (s n g : ℕ) (t t' : Pass) : Type 0 where
  pub place : EachPlace (λ x. fold_from (λ i. decide_by s x i (form_at img i)) n g) t.map t.scratch t'.map t'.scratch
  pub letter : EachLetter (λ p l. cond (any_from (λ i. spends s p (form_at img i)) n g) deleted_letter l) t.letters t'.letters
  pub event : (b : ℕ) → b < most_blocks → get_or t'.events b false ≡ any_from (above_of img s b) n g || get_or t.events b false
  pub highest : t'.highest ≡ max t.highest (highest_from (λ i. sequence_of (form_at img i)) n g)

-- what the pass leaves, with the commit in block c: map and scratch, the letters but for the keys that live nodes name, the blocks with events above the
-- covered sequence, and the highest sequence
pub record Replayed (img : List ℕ) (c : ℕ) (t : Pass) : Type 0 where
  pub map : t.map ≡ mount_map img c
  pub scratch : t.scratch ≡ mount_scratch img c
  pub letters : t.letters ≡ list_from (unused_letter img c) positions 0
  pub events : (b : ℕ) → b < blocks img → get_or t.events b false ≡ has_above img (covered_in img c) b
  pub highest : t.highest ≡ highest_from (λ g. sequence_of (form_at img g)) (pages img) 0
