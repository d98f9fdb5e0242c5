-- `page::headers::second_columns` meets its contract: what it gives is 224 in its columns, or was read.
use native.Mathlib.Omega.{arith}
use mathlib.Core.Path.{sym, ap, ◌∙◌}
use Rattle.base.proofs.Parts.{part-part}
use Rattle.page.specs.Frame.{header_size}
use Rattle.page.specs.Header.{second_right}
use Rattle.page.proofs.HeaderParts.{longest-right}
use Rattle.page.proofs.headers.second_columns.Goals as goal

pub returns-then-columns-eq-SPELT_LONGEST : goal.returns-then-columns-eq-SPELT_LONGEST
returns-then-columns-eq-SPELT_LONGEST c = longest-right

pub returns-then-is_second : goal.returns-then-is_second
returns-then-is_second c =
    ap second_right (c.word8-columns.ensures ∙ sym (part-part c.args.page.now 0 header_size 20 8 (omega arith)))
    ∙ rw (← c.array_at.ensures) (sym c.is_second.ensures ∙ c.if-is_second.true)

pub returns : goal.returns
returns c = longest-right
