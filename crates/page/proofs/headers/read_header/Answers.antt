-- `headers::read_header` looks at the kind letter and the end first: no header has another letter or another end.
use mathlib.Core.Path.{sym, ◌∙◌}
use Rattle.base.specs.Part.{part}
use Rattle.page.proofs.HeaderLaws.{no_kind, no_colon}
use Rattle.page.proofs.headers.read_header.Goals as goal

pub returns-then-not-is_kind : goal.returns-then-not-is_kind
returns-then-not-is_kind c = sym (no_kind c.args.src.now (sym c.is_kind.ensures ∙ c.if-not-is_kind.true))

pub returns-then-not-ends : goal.returns-then-not-ends
unfolding part
returns-then-not-ends c = sym (no_colon c.args.src.now (sym c.same-ends.ensures ∙ c.if-not-ends.true))

pub read_fields-requires : goal.read_fields-requires
unfolding part
read_fields-requires c = sym c.same-ends.ensures ∙ c.if-not-ends.false
