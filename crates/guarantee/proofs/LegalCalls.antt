-- The flash can do the steps of every call, on any image and with any record.
use mathlib.Core.Path.{ap}
use mathlib.Core.List.{List}
use Prim.Native.Nat.{ℕ}
use Rattle.image.specs.Step.{AllLegal}
use Rattle.store.specs.Record.{Record}
use Rattle.store.specs.Outcome.{Outcome}
use Rattle.store.proofs.Legals.{cut_off-legal, mount-legal, commit-legal, wipe-legal, gather-legal}
use Rattle.store.proofs.Outcomes.{read_stepless}
use Rattle.guarantee.specs.Call.{Call, mount, write, read, cut_off, commit, wipe, gather, outcome_of}
use Rattle.guarantee.proofs.Givens.{given-legal}

pub call-legal : (call : Call) (img : List ℕ) (r : Record) → AllLegal img (outcome_of call img r).steps
call-legal (mount map letters scratch) img r = mount-legal img map letters scratch
call-legal (write file offset given) img r = given-legal img r file offset given
call-legal (read file offset output) img r = rw (ap (λ (o : Outcome). o.steps) (read_stepless img r file offset output)) tt
call-legal (cut_off file offset) img r = cut_off-legal img r file offset
call-legal (commit noise) img r = commit-legal img r noise
call-legal (wipe noise file offset) img r = wipe-legal img r noise file offset
call-legal (gather block) img r = gather-legal img r block
