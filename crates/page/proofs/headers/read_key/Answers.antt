-- `headers::read_key` reads two words of columns as a pair, or the first alone where the second is known.
use mathlib.Core.Path.{◌≡◌, sym, ap, ◌∙◌}
use Rattle.base.specs.Part.{part}
use Rattle.page.specs.Column.{number_in, number_then, pair_in}
use Rattle.std.specs.Prelude.{ℕ, Option, Some, None}
use Rattle.page.specs.Word.{word_bytes}
use Rattle.page.proofs.ColumnValues.{longest_beside, pair_beside, read_beside}
use Rattle.page.proofs.headers.read_key.Goals as goal

pub returns-then-last-ne-SPELT_LONGEST4 : goal.returns-then-last-ne-SPELT_LONGEST4
returns-then-last-ne-SPELT_LONGEST4 c =
    c.pair_of.ensures ∙ (λ i. pair_in (c.word4.ensures i) (c.word4-last.ensures i))

pub returns-in_err-key : goal.returns-in_err-key
returns-in_err-key c =
    let xs = c.args.src.now in
    let second : number_in (part xs 24 4) ≡ Some 224 = ap number_in (sym c.word4-last.ensures ∙ ap (word_bytes 4) c.if-last-ne-SPELT_LONGEST4.false) ∙ longest_beside in
    c.from_residual.ensures ∙ sym (pair_beside (part xs 16 4) (part xs 24 4) 224 second ∙ ap (λ (a : Option ℕ). number_then a None (λ n. Some (n, 224))) (read_beside _ _ _ c.word4-2.ensures c.in_err-key.ensures))

pub returns : goal.returns
returns c =
    let xs = c.args.src.now in
    let second : number_in (part xs 24 4) ≡ Some 224 = ap number_in (sym c.word4-last.ensures ∙ ap (word_bytes 4) c.if-last-ne-SPELT_LONGEST4.false) ∙ longest_beside in
    sym (pair_beside (part xs 16 4) (part xs 24 4) 224 second ∙ ap (λ (a : Option ℕ). number_then a None (λ n. Some (n, 224))) (read_beside _ _ _ c.word4-2.ensures c.in_ok-key.ensures))
