-- `encrypt_columns` is the cipher. s is the state after `round` rounds at each turn.
use Rattle.cipher.specs.State.{state}
use Rattle.cipher.proofs.RoundLaws.{Leads}
use Rattle.cipher.proofs.rounds.encrypt_columns.Given as goal

abbrev pub invariant-loop-round : goal.invariant-loop-round
invariant-loop-round l = Leads l.w (state l.initial.s) 0 (state l.s) l.round
