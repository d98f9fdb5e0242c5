-- Document 01, "The working record": what it is, and when it fits.
use Rattle.std.specs.Prelude.{ℕ, ◌+◌, ◌/◌, Bool, true, false, cond, not, ◌&&◌, List, get_or, eqb, leb, ltb, Option, Some, None, Result, Ok, Err}
use Rattle.std.specs.Bool.{beq}
use Rattle.std.specs.Borrow.{Bor}
use Rattle.base.specs.Search.{all_from, any_from, count_from}
use Rattle.page.specs.Plan.{file_plan, places, place_of}
use Rattle.page.specs.Header.{node_letter, within, last_number}
use Rattle.page.specs.Key.{positions}
use Rattle.page.specs.Entry.{none, is_letter, used_letter}
pub use Rattle.page.specs.Entry.{map_size}
use Rattle.page.specs.declared.Form.{Form}
use Rattle.page.specs.declared.Form.TheVariants.{Empty, Whole, Torn, Spoilt}
use Rattle.image.specs.Size.{pages_in_block}
use Rattle.image.specs.Look.{form_at}
use Rattle.store.specs.Kind.{kind_of, keys_epoch, commit_epoch, is_data}
use Rattle.store.specs.declared.Numbers.{Numbers}
use Rattle.store.specs.declared.Error.{Error}
use Rattle.store.specs.declared.Lent.{Lent}

-- a map, the pages of all places and then their keys; a letter for each position; and the record's numbers
pub record Record : Type 0 where
  pub map : List ℕ
  pub letters : List ℕ
  pub numbers : Numbers

abbrev pub record_of : List ℕ → List ℕ → Numbers → Record
record_of map letters n = record { map = map; letters = letters; numbers = n }

-- the record that a call is lent
abbrev pub held : Lent → Record
held r = record_of r.map.now r.letters.now r.numbers

-- what tests hand on, with the lists in place of how they are lent
abbrev pub lists_in : Result (Bor (List ℕ) × Bor (List ℕ)) Error → Result (List ℕ × List ℕ) Error
lists_in (Ok l) = Ok (l.0.now, l.1.now)
lists_in (Err error) = Err error

-- and with the record
abbrev pub held_in : Result Lent Error → Result Record Error
held_in (Ok r) = Ok (held r)
held_in (Err error) = Err error

abbrev pub with_numbers : Record → Numbers → Record
with_numbers r n = record { map = r.map; letters = r.letters; numbers = n }

-- the page and the key position of place x
abbrev pub page_of : List ℕ → ℕ → ℕ
page_of map x = get_or map x none

abbrev pub key_of : List ℕ → ℕ → ℕ
key_of map x = get_or map (places + x) none

-- a place with a node
abbrev pub live : List ℕ → ℕ → Bool
live map x = ltb (page_of map x) none

-- a block with a live page
abbrev pub live_in : List ℕ → ℕ → ℕ → Bool
live_in map b x = live map x && eqb (page_of map x / pages_in_block) b

unfoldable pub has_live : List ℕ → ℕ → Bool
has_live map b = any_from (live_in map b) places 0

-- a data block without one
unfoldable pub is_dead : List ℕ → Record → ℕ → Bool
is_dead img r b = is_data img r.numbers b && not (has_live r.map b)

-- a place that is none in both halves
abbrev pub vacant_at : List ℕ → ℕ → Bool
vacant_at map x = eqb (page_of map x) none && eqb (key_of map x) none

abbrev pub is_at : ℕ → Option ℕ → Bool
is_at x (Some y) = eqb y x
is_at x None = false

-- a whole N page of place x and key position p
abbrev pub node_at : ℕ → ℕ → Form → Bool
node_at x p Empty = false
node_at x p (Whole f) = eqb f.kind node_letter && is_at x (place_of file_plan f.unit f.part) && eqb f.key p
node_at x p (Torn f) = false
node_at x p Spoilt = false

-- a place is vacant in both halves, or has a whole node of its own, under the key that the node names
unfoldable pub place_fits : List ℕ → List ℕ → ℕ → Bool
place_fits img map x = cond (vacant_at map x) true (node_at x (key_of map x) (form_at img (page_of map x)))

-- how many places name key position p
unfoldable pub named_times : List ℕ → ℕ → ℕ
named_times map p = count_from (λ x. eqb (key_of map x) p) places 0

-- no key is named twice
unfoldable pub keys_apart : List ℕ → Bool
keys_apart map = all_from (λ p. leb (named_times map p) 1) positions 0

-- letters are letters, and those that places name are the used ones
unfoldable pub letters_fit : List ℕ → List ℕ → Bool
letters_fit map letters =
    all_from (λ p. is_letter (get_or letters p 0) && beq (eqb (get_or letters p 0) used_letter) (leb 1 (named_times map p))) positions 0

-- both next numbers are 1 to 100,000,000
abbrev pub numbers_fit : Numbers → Bool
numbers_fit r = within 1 (last_number + 1) r.sequence && within 1 (last_number + 1) r.epoch

-- those blocks are whole and of their kind
unfoldable pub blocks_fit : List ℕ → Numbers → Bool
blocks_fit img r =
    ltb 0 (keys_epoch 0 (kind_of img r.keys0)) && ltb 0 (keys_epoch 1 (kind_of img r.keys1)) && ltb 0 (commit_epoch (kind_of img r.commit))

unfoldable pub fits : List ℕ → Record → Bool
fits img r =
    numbers_fit r.numbers && blocks_fit img r.numbers && all_from (place_fits img r.map) places 0 && keys_apart r.map && letters_fit r.map r.letters
