-- `keys::keep_used` goes slot by slot: with j slots done, the keys behind them stand as they did.
use Prim.Native.Nat.{◌+◌, ◌-◌, ◌*◌}
use native.Mathlib.Omega.{arith}
use mathlib.Core.Path.{◌≡◌, sym, ◌∙◌}
use lib.ListN.{length}
use borrow.Rule.Slice.PartMut.{same_len_mid}
use Rattle.base.proofs.Parts.{mid_length}
use Rattle.page.specs.Key.{key_size, keys_in_page}
use Rattle.image.proofs.KeyBlock.{keys_next, keys_behind, keys_done_lem, kept_slot}
use Rattle.image.proofs.keys.keep_used.Goals as goal

pub loop-j-preserved : goal.loop-j-preserved
loop-j-preserved c =
    let l = c.loop-j in
    let w = c.keep_if in
    let a = c.args in
    let n : length w.new.dst ≡ key_size = w.auto.dst ∙ mid_length l.dst (key_size * l.j) key_size (omega arith) in
    let e = kept_slot a.page.now a.letters.now a.dst.now a.first l.j l.dst w.new.dst l.invariant.0 w.ensures in (
      keys_behind keys_in_page l.j l.dst a.dst.now w.new.dst (omega arith) (omega arith) n l.invariant.0,
      l.invariant.1 ∙ keys_next _ keys_in_page l.j l.dst _ (omega arith) (omega arith) e n,
      same_len_mid (key_size * l.j) ((key_size * l.j + key_size) - key_size * l.j) l.dst w.new.dst w.auto.dst ∙ l.invariant.2,
    )

pub returns : goal.returns
returns c = let l = c.loop-j in sym (l.invariant.1 ∙ keys_done_lem _ keys_in_page l.j l.dst c.loop-j-test.false (omega arith))
