-- `expand_key` is the key expansion. After n turns w begins with the schedule of n + 1 round keys, of which k is the last.
use mathlib.Core.Path.{◌≡◌, refl, ap, ap₂, sym, ◌∙◌}
use mathlib.Core.List.{List, ◌++◌}
use Prim.Native.Nat.{ℕ, ◌+◌, ◌-◌, ◌*◌}
use native.Mathlib.Omega.{arith}
use borrow.Rule.Slice.PartMut.{same_len_mid}
use lib.ListN.{length, take, drop}
use lib.Seq.{take_at, take_all}
use Rattle.cipher.specs.Field.{xtime}
use Rattle.cipher.specs.Cipher.{round_key}
use Rattle.cipher.specs.KeyExpansion.{power, schedule, next_round_key, key_expansion}
use Rattle.cipher.specs.State.{state}
use Rattle.cipher.proofs.Schedule.{power_more, length-schedule, schedule_round, round_key_last, round_key_put}
use borrow.Author.Rules.{rules}
use Rattle.cipher.proofs.expansion.expand_key.Goals as goal

pub loop-n-init : goal.loop-n-init
unfolding schedule power state
loop-n-init c =
    let p = c.put_block in (
      p.auto.q,
      refl,
      refl,
      ap (take 16) p.ensures ∙ take_at c.args.key _ 16 (search rules) ∙ sym c.from_block-k.ensures,
    )

pub loop-n-preserved : goal.loop-n-preserved
unfolding state
loop-n-preserved c =
    let l = c.loop-n in
    let key = state c.from_block-k.result in
    let k = c.next_round_key-k in
    let p = c.put_block-in-loop-n in
    let W = schedule (4 * l.n) key in
    let next : state k.result ≡ next_round_key (power l.n) (round_key W l.n) = k.ensures ∙ ap₂ next_round_key l.invariant.1 l.invariant.2 in
    let more : schedule (4 * (l.n + 1)) key ≡ W ++ state k.result = schedule_round key l.n refl ∙ ap (λ (x : List ℕ). W ++ x) (sym next) in
    let at : 16 * (l.n + 1) ≡ 16 * l.n + 16 = omega arith in
    let size : length W ≡ 16 * (l.n + 1) = length-schedule (4 * l.n) key ∙ omega arith in (
      same_len_mid (16 * (l.n + 1)) (176 - 16 * (l.n + 1)) l.w p.new.q p.auto.q ∙ l.invariant.0,
      c.times_x-constant.ensures ∙ ap xtime l.invariant.1 ∙ power_more l.n,
      sym (ap (λ (x : List ℕ). round_key x (l.n + 1)) more ∙ round_key_last W (state k.result) (l.n + 1) size refl),
      round_key_put W l.w (state k.result) p.new.q _ _ (16 * (l.n + 1)) (16 * (l.n + 1) + 16) refl (omega arith) (ap (λ (m : ℕ). take m l.w) at ∙ l.invariant.3) refl
          (p.ensures ∙ ap (λ (x : List ℕ). x ++ drop 16 (take (176 - 16 * (l.n + 1)) (drop (16 * (l.n + 1)) l.w))) c.to_block.ensures)
          ∙ sym more,
    )

pub returns : goal.returns
unfolding key_expansion
returns c =
    let l = c.loop-n in
    let n : l.n ≡ 10 = omega arith in
    sym (take_all 176 l.w (omega arith))
    ∙ ap (λ (m : ℕ). take (16 * m + 16) l.w) (sym n)
    ∙ l.invariant.3
    ∙ ap₂ (λ (m : ℕ) (key : List ℕ). schedule (4 * m) key) n c.from_block-k.ensures
