-- `new_cache` takes the shares out of two rounds.
use mathlib.Core.Path.{◌≡◌, ◌∙◌, ap, ap₂}
use mathlib.Core.List.{List}
use Prim.Native.Nat.{ℕ}
use Rattle.cipher.specs.Words.{xor_bytes}
use Rattle.cipher.specs.Cipher.{sub_bytes, shift_rows, mix_columns, add_round_key, rounds}
use Rattle.cipher.specs.State.{state}
use Rattle.cipher.specs.Caching.{column_share, counter_state, cached_column, cached_state}
use Rattle.cipher.proofs.WordLaws.{word_xor}
use Rattle.cipher.proofs.CachingLaws.{last_share_lem, column_0}
use Rattle.cipher.proofs.caching.new_cache.Goals as goal

pub returns : goal.returns
unfolding rounds cached_column cached_state
returns c =
    let a = c.args in
    let w = a.w.now in
    let s0 = c.counter_state-s0 in
    let s1 = c.full_round-s1 in
    let s2 = c.full_round-s2 in
    let m = c.mix_row in
    let e1 : state s1.result ≡ counter_state w 1 a.n =
    s1.ensures ∙ ap (λ (x : List ℕ). add_round_key w 1 (mix_columns (shift_rows (sub_bytes x)))) s0.ensures in
    let e2 : state s2.result ≡ counter_state w 2 a.n =
    s2.ensures ∙ ap (λ (x : List ℕ). add_round_key w 2 (mix_columns (shift_rows (sub_bytes x)))) e1 in
    record {
      column = word_xor s1.result.c0 m.result ∙ ap₂ xor_bytes (column_0 s1.result e1) (m.ensures ∙ last_share_lem s0.result s0.ensures);
      rest = c.add_column_share-rest.ensures ∙ ap₂ (λ (p x : List ℕ). xor_bytes p (column_share x)) e2 (column_0 s1.result e1);
    }
