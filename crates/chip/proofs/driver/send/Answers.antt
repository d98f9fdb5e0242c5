-- `driver::send` sends cycle after cycle: with i cycles sent, the rest of any list that they are is still to come.
use native.Mathlib.Omega.{arith}
use Rattle.chip.specs.Reply.{number_of}
use Rattle.chip.proofs.Replies.{success_is_0, refusal_is_not_0}
use Rattle.chip.proofs.Drives.{sending_next, sending_stopped, sending_all}
use Rattle.chip.proofs.driver.send.Goals as goal

pub returns-then-is_err : goal.returns-then-is_err
returns-then-is_err g c cycles some long told =
    let l = c.loop-i in
    let s = c.step-s in
    sending_stopped cycles c.args.r c.args.image.now l.i l.q l.image (l.invariant cycles long told) s.result.registers s.new.image (number_of s.result.reply)
    (rw (told l.i c.cycle.result (omega arith) c.cycle.ensures) at s.ensures.0) s.ensures.1 (refusal_is_not_0 s.result.reply c.if-is_err.ensures.negation)

pub loop-i-preserved : goal.loop-i-preserved
loop-i-preserved g c cycles long told =
    let l = c.loop-i in
    let s = c.step-s in
    sending_next cycles c.args.r c.args.image.now l.i l.q l.image (l.invariant cycles long told) s.result.registers s.new.image (number_of s.result.reply) (omega arith)
    (rw (told l.i c.cycle.result (omega arith) c.cycle.ensures) at s.ensures.0) s.ensures.1 (success_is_0 s.result.reply c.if-is_err.ensures.negation)

pub returns : goal.returns
returns g c cycles some long told =
    let l = c.loop-i in
    let e = c.ended in
    sending_all cycles c.args.r c.args.image.now l.i l.q l.image (l.invariant cycles long told) e.result.registers (number_of e.result.reply) (omega arith) (omega arith)
    e.ensures
