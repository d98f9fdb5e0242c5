-- The loop's invariant: the live pages before page i are copied, and the others have their pages.
use lib.ListN.{length, drop}
use Rattle.store.specs.Record.{record_of}
use Rattle.store.specs.Gather.{live_pages}
use Rattle.store.specs.Targets.{targets, pages_to, MovesIn}
use Rattle.store.specs.Taken.{GatherTaken}
use Rattle.store.proofs.GatherLoops.{Moving}
use Rattle.store.proofs.gather.gather_taken.Given as goal

abbrev pub invariant-loop-i : goal.invariant-loop-i
invariant-loop-i l =
    (t : GatherTaken l.initial.image (record_of l.initial.map l.letters l.initial.p.numbers) l.block)
    × Moving l.initial.image (record_of l.initial.map l.letters l.initial.p.numbers) l.block l.n l.k t l.image l.map l.p.power l.p.numbers l.i (pages_to (drop l.i l.fn.moves))
    × MovesIn l.initial.map l.block (targets l.block l.initial.image l.initial.p.numbers (length (live_pages l.initial.map l.block))) l.fn.moves
