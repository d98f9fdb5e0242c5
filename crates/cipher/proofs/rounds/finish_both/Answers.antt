-- `finish_both` is the encipherment of two blocks, round by round.
use native.Mathlib.Omega.{arith}
use Rattle.cipher.specs.State.{state}
use Rattle.cipher.proofs.RoundLaws.{round_more, round_last}
use Rattle.cipher.proofs.rounds.finish_both.Goals as goal

pub loop-round-preserved : goal.loop-round-preserved
loop-round-preserved c =
    let l = c.loop-round in
    let a = c.args in
    let w = a.w.now in (
      round_more w (state a.start.first) a.done (state l.s) _ l.round l.invariant.0 c.full_round-s.ensures,
      round_more w (state a.start.second) a.done (state l.t) _ l.round l.invariant.1 c.full_round-t.ensures,
    )

pub returns : goal.returns
returns c =
    let l = c.loop-round in
    let a = c.args in
    let w = a.w.now in (
      round_last w (state a.start.first) a.done (state l.s) _ l.round l.invariant.0 (omega arith) c.last_round-first.ensures,
      round_last w (state a.start.second) a.done (state l.t) _ l.round l.invariant.1 (omega arith) c.last_round-second.ensures,
    )
