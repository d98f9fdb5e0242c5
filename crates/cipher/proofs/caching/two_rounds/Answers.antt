-- `two_rounds` brings the shares of counter n in.
use mathlib.Core.Path.{◌≡◌, ◌∙◌, ap₂}
use mathlib.Core.List.{List}
use Prim.Native.Nat.{ℕ}
use Rattle.cipher.specs.Field.{◌⊕◌}
use Rattle.cipher.specs.Words.{word, xor_bytes, little_endian}
use Rattle.cipher.specs.Cipher.{add_round_key}
use Rattle.cipher.specs.CounterMode.{counter_block}
use Rattle.cipher.specs.Caching.{last_share, column_share, counter_state, cached_column, cached_state}
use Rattle.cipher.proofs.Sums.{xor_bytes_twice}
use Rattle.cipher.proofs.WordLaws.{word_xor}
use Rattle.cipher.proofs.CachingLaws.{last_share_lem}
use Rattle.cipher.proofs.caching.two_rounds.Goals as goal

pub returns : goal.returns
unfolding cached_column cached_state
returns c =
    let w = c.args.w.now in
    let h = c.requires in
    let s0 = c.counter_state-s in
    let m = c.mix_row in
    let column = word (counter_state w 1 c.args.n) 0 in
    let x : little_endian (c.args.cache.column ⊕ m.result) ≡ column =
    word_xor c.args.cache.column m.result
    ∙ ap₂ xor_bytes h.column (m.ensures ∙ last_share_lem s0.result s0.ensures)
    ∙ xor_bytes_twice column (last_share (add_round_key w 0 (counter_block c.args.n))) in
    c.add_column_share.ensures
    ∙ ap₂ (λ (p y : List ℕ). xor_bytes p (column_share y)) h.rest x
    ∙ xor_bytes_twice (counter_state w 2 c.args.n) (column_share column)
