-- Position by position.
use mathlib.Core.Path.{◌≡◌}
use mathlib.Core.List.{◌++◌, map}
use lib.ListN.{take, drop}
use Rattle.store.specs.Commit.{clean_letter}
use Rattle.store.proofs.record.clean.Given as goal

abbrev pub invariant-loop-letter : goal.invariant-loop-letter
invariant-loop-letter l =
    l.letters ≡ take l.letter-index (map clean_letter l.initial.letters) ++ drop l.letter-index l.initial.letters
