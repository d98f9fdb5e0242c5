-- `add_column_share` adds a look-up to each column.
use mathlib.Core.Path.{◌∙◌, ap}
use Rattle.cipher.specs.Words.{xor_bytes, little_endian}
use Rattle.cipher.specs.State.{state}
use Rattle.cipher.proofs.WordLaws.{words_eq, word_xor}
use Rattle.cipher.proofs.caching.add_column_share.Goals as goal

pub returns : goal.returns
unfolding state
returns c =
    let s = c.args.s in
    let r0 = c.mix_row in
    let r3 = c.mix_row-2 in
    let r2 = c.mix_row-3 in
    let r1 = c.mix_row-4 in
    words_eq (word_xor s.c0 r0.result ∙ ap (xor_bytes (little_endian s.c0)) r0.ensures)
    (word_xor s.c1 r3.result ∙ ap (xor_bytes (little_endian s.c1)) r3.ensures)
    (word_xor s.c2 r2.result ∙ ap (xor_bytes (little_endian s.c2)) r2.ensures)
    (word_xor s.c3 r1.result ∙ ap (xor_bytes (little_endian s.c3)) r1.ensures)
