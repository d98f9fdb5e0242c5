-- Document 01, "Calls and their refusals": Wipe, a cut-off with purge.
use Rattle.std.specs.Prelude.{ℕ, List, [], ◌++◌}
use Rattle.store.specs.Reply.{Test, verdict}
use Rattle.store.specs.Record.{Record, record_of, with_numbers}
use Rattle.store.specs.Outcome.{Outcome, Left, decided}
use Rattle.store.specs.Format.{format_tests}
use Rattle.store.specs.Write.{plan_tests}
use Rattle.store.specs.CutOff.{removed}
use Rattle.store.specs.Commit.{Stage, renewal_tests, begin, commit_replaced, commit_stages, cleaned, next_epoch}
use Rattle.store.specs.declared.Numbers.{Numbers}

abbrev pub wipe_tests : List ℕ → Record → List ℕ → ℕ → ℕ → List Test
wipe_tests img r noise file offset = format_tests img r.map r.letters noise ++ (plan_tests file offset ++ renewal_tests img r 1)

-- the shorter index first: a commit of the record without the removed places, of an epoch of its own
unfoldable pub removed_first : List ℕ → Record → ℕ → ℕ → Stage
removed_first img r file offset =
    let s = commit_replaced (begin img (removed r file offset)) in
    record { steps = s.steps; image = s.image; after = cleaned (with_numbers s.after (next_epoch s.after.numbers)) }

-- then a commit
unfoldable pub wipe_of : List ℕ → Record → List ℕ → ℕ → ℕ → Outcome
wipe_of img r noise file offset =
    let s = commit_stages noise (removed_first img r file offset) in
    decided (verdict (wipe_tests img r noise file offset)) s.steps s.after [] r []

-- what a wipe leaves, whole or cut: the equation of its contracts
abbrev pub wipe_leaves : (Outcome → List ℕ → Left) → List ℕ → List ℕ → List ℕ → Numbers → List ℕ → ℕ → ℕ → Left
wipe_leaves form img map letters numbers noise file offset = form (wipe_of img (record_of map letters numbers) noise file offset) img
