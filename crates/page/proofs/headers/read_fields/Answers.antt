-- `headers::read_fields` reads the five numbers one after the other, and looks at their ranges last.
use mathlib.Core.Path.{◌∙◌}
use Rattle.page.specs.Header.{header_of}
use Rattle.page.proofs.HeaderLaws.{then_if}
use Rattle.page.proofs.headers.read_fields.Goals as goal

pub returns-in_err-number : goal.returns-in_err-number
unfolding header_of
returns-in_err-number c = rw (c.from_residual.ensures, ← c.in_err-number.ensures)

pub returns-in_err-unit : goal.returns-in_err-unit
unfolding header_of
returns-in_err-unit c = rw (c.from_residual-in_err-unit.ensures, ← c.in_ok-number.ensures, ← c.in_err-unit.ensures)

pub returns-in_err-part : goal.returns-in_err-part
unfolding header_of
returns-in_err-part c =
    rw (
      c.from_residual-in_err-part.ensures,
      ← c.in_ok-number.ensures,
      ← c.in_ok-unit.ensures,
      ← c.in_err-part.ensures,
    )

pub returns-in_err-key : goal.returns-in_err-key
unfolding header_of
returns-in_err-key c =
    rw (
      c.from_residual-in_err-key.ensures,
      ← c.in_ok-number.ensures,
      ← c.in_ok-unit.ensures,
      ← c.in_ok-part.ensures,
      ← c.in_err-key.ensures,
    )

pub returns-in_err-second : goal.returns-in_err-second
unfolding header_of
returns-in_err-second c =
    rw (
      c.from_residual-in_err-second.ensures,
      ← c.in_ok-number.ensures,
      ← c.in_ok-unit.ensures,
      ← c.in_ok-part.ensures,
      ← c.in_ok-key.ensures,
      ← c.in_err-second.ensures,
    )

pub returns : goal.returns
unfolding header_of
returns c =
    rw (
      ← c.in_ok-number.ensures,
      ← c.in_ok-unit.ensures,
      ← c.in_ok-part.ensures,
      ← c.in_ok-key.ensures,
      ← c.in_ok-second.ensures,
      c.requires,
      ← c.in_range.ensures,
    )
    (c.then_some.ensures ∙ then_if c.in_range.result _)
