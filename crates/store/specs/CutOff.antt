-- Document 01, "Calls and their refusals": Cut-off from an offset.
use Rattle.std.specs.Prelude.{ℕ, ◌+◌, ◌-◌, Bool, List, [], ◌∷◌, ◌++◌, set, leb}
use Rattle.base.specs.Search.{any_from}
use Rattle.base.specs.Fold.{fold_from}
use Rattle.page.specs.Plan.{file_plan, places, count_of}
use Rattle.page.specs.Header.{last_number}
use Rattle.page.specs.Entry.{none}
use Rattle.page.specs.Page.{cut_off_page}
use Rattle.image.specs.Step.{Step, program}
use Rattle.store.specs.Reply.{Test, ◌else◌, verdict}
use Rattle.store.specs.Record.{Record, record_of, with_numbers, live}
use Rattle.store.specs.Outcome.{Outcome, Left, decided}
use Rattle.store.specs.Find.{new_page, is_found, found_at}
use Rattle.store.specs.Write.{place_tests, fit_tests, place_at, next_sequence, released}
use Rattle.store.specs.declared.Numbers.{Numbers}
use Rattle.store.specs.declared.Error.TheVariants.{NothingThere, NoRoom, NumbersSpent}

-- the number of places of a file from an offset on
abbrev pub rest_of : ℕ → ℕ → ℕ
rest_of file offset = count_of file_plan file - offset

-- something live from the offset on
unfoldable pub any_live : List ℕ → ℕ → ℕ → Bool
any_live map file offset = any_from (live map) (rest_of file offset) (place_at file offset)

abbrev pub cut_off_tests : List ℕ → Record → ℕ → ℕ → List Test
cut_off_tests img r file offset =
    place_tests img r.map r.letters file offset
    ++ (fit_tests img r
    ++ ((any_live r.map file offset else NothingThere)
    ∷ (leb r.numbers.sequence last_number else NumbersSpent)
    ∷ (is_found (new_page img r.numbers) else NoRoom)
    ∷ []))

-- the record without place x: its key, if it had one, is d
abbrev pub emptied : ℕ → Record → Record
emptied x r =
    record { map = set (set r.map x none) (places + x) none; letters = released r.map r.letters x; numbers = r.numbers }

-- the record without the places of a file from an offset on
unfoldable pub removed : Record → ℕ → ℕ → Record
removed r file offset = fold_from emptied (rest_of file offset) (place_at file offset) r

unfoldable pub cut_off_steps : List ℕ → Record → ℕ → ℕ → List Step
cut_off_steps img r file offset =
    program (found_at (new_page img r.numbers)) (cut_off_page r.numbers.sequence file offset) ∷ []

unfoldable pub cut_off_of : List ℕ → Record → ℕ → ℕ → Outcome
cut_off_of img r file offset =
    decided (verdict (cut_off_tests img r file offset)) (cut_off_steps img r file offset)
    (with_numbers (removed r file offset) (next_sequence r.numbers)) []
    r []

-- what a cut-off leaves, whole or cut: the equation of its contracts
abbrev pub cut_off_leaves : (Outcome → List ℕ → Left) → List ℕ → List ℕ → List ℕ → Numbers → ℕ → ℕ → Left
cut_off_leaves form img map letters numbers file offset = form (cut_off_of img (record_of map letters numbers) file offset) img
