-- `add_key_stream` is the counter mode, two counters a turn. When it comes to counter n, the n blocks of the key stream before it are added.
use mathlib.Core.Path.{◌≡◌, refl, sym, subst, ◌∙◌}
use Prim.Native.Nat.{ℕ, ◌+◌, ◌/◌}
use native.Mathlib.Omega.{arith}
use Rattle.cipher.specs.State.{state}
use Rattle.cipher.specs.CounterMode.{key_stream}
use Rattle.cipher.specs.Caching.{Serves}
use Rattle.cipher.proofs.Sums.{xor_nil}
use Rattle.cipher.proofs.CachingLaws.{serves_same}
use Rattle.cipher.proofs.KeyStream.{key_stream_two}
use Rattle.cipher.proofs.Laws.{counter_mode_stream}
use Rattle.cipher.proofs.stream.add_key_stream.Goals as goal

pub loop-at-init : goal.loop-at-init
unfolding key_stream
loop-at-init c = (refl, sym (xor_nil _), c.new_cache-cache.ensures)

pub output_blocks-output-requires : goal.output_blocks-output-requires
output_blocks-output-requires c =
    let l = c.loop-at in
    let n = l.at / 16 in
    (omega arith, l.invariant.2, serves_same n (n + 1) (omega arith) c.args.w.now l.cache l.invariant.2)

pub next_cache-cache-requires-clause-serves : goal.next_cache-cache-requires-clause-serves
next_cache-cache-requires-clause-serves c =
    let l = c.loop-at in
    let n = l.at / 16 in
    serves_same n (n + 1) (omega arith) c.args.w.now l.cache l.invariant.2

pub loop-at-preserved : goal.loop-at-preserved
loop-at-preserved c =
    let a = c.args in
    let l = c.loop-at in
    let o = c.output_blocks-output in
    let d = c.add_state in
    let e = c.add_state-in-loop-at in
    let two : l.at / 16 + 1 + 1 ≡ (l.at + 32) / 16 = omega arith in (
      omega arith,
      key_stream_two a.w.now a.text.now l.at l.text (state o.result.first) d.new.text (state o.result.second) e.new.text
          l.invariant.0 l.invariant.1 o.ensures d.ensures e.ensures,
      subst (λ (m : ℕ). Serves a.w.now m c.next_cache-cache.result) two c.next_cache-cache.ensures,
    )

pub returns : goal.returns
returns c =
    let a = c.args in
    let l = c.loop-at in
    l.invariant.1 ∙ sym (counter_mode_stream a.w.now a.text.now (l.at / 16) (omega arith))

-- at the last two blocks
pub returns-2 : goal.returns-2
returns-2 c =
    let a = c.args in
    let l = c.loop-at in
    let o = c.output_blocks-output in
    let d = c.add_state in
    let e = c.add_state-in-loop-at in
    key_stream_two a.w.now a.text.now l.at l.text (state o.result.first) d.new.text (state o.result.second) e.new.text
    l.invariant.0 l.invariant.1 o.ensures d.ensures e.ensures
    ∙ sym (counter_mode_stream a.w.now a.text.now ((l.at + 32) / 16) (omega arith))
