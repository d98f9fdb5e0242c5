-- `finish_both` is the encipherment of two blocks, round by round.
use Rattle.cipher.specs.State.{state}
use Rattle.cipher.proofs.RoundLaws.{Leads}
use Rattle.cipher.proofs.rounds.finish_both.Given as goal

abbrev pub invariant-loop-round : goal.invariant-loop-round
invariant-loop-round l =
    Leads l.w (state l.initial.s) l.done (state l.s) l.round × Leads l.w (state l.initial.t) l.done (state l.t) l.round
