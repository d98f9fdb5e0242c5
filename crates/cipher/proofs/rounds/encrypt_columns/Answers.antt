-- `encrypt_columns` is the cipher. s is the state after `round` rounds at each turn.
use mathlib.Core.Path.{◌∙◌, ap}
use native.Mathlib.Omega.{arith}
use Rattle.cipher.specs.Words.{xor_bytes}
use Rattle.cipher.specs.Cipher.{rounds}
use Rattle.cipher.specs.State.{state}
use Rattle.cipher.proofs.RoundLaws.{round_more, round_last}
use Rattle.cipher.proofs.rounds.encrypt_columns.Goals as goal

pub loop-round-preserved : goal.loop-round-preserved
loop-round-preserved c =
    let l = c.loop-round in
    round_more c.args.w.now (state c.add-s.result) 0 (state l.s) _ l.round l.invariant c.full_round-s.ensures

pub returns : goal.returns
unfolding rounds
returns c =
    let l = c.loop-round in
    let input = state c.args.input in
    round_last c.args.w.now (state c.add-s.result) 0 (state l.s) _ l.round l.invariant (omega arith) c.last_round.ensures input
    (c.add-s.ensures ∙ ap (xor_bytes input) c.round_key.ensures)
