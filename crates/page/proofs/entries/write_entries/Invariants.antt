-- `page::entries::write_entries` meets its contract: the entries passed are written, the bytes after them as they were.
use Prim.Native.Nat.{◌*◌}
use mathlib.Core.Path.{◌≡◌}
use mathlib.Core.List.{◌++◌}
use lib.ListN.{drop}
use Rattle.page.specs.Entry.{entry_size, entries_from}
use Rattle.page.proofs.entries.write_entries.Given as goal

abbrev pub invariant-loop-j : goal.invariant-loop-j
invariant-loop-j l = l.dst ≡ entries_from l.map l.j l.first ++ drop (entry_size * l.j) l.initial.dst
