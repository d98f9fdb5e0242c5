use native.Mathlib.Omega.{arith}
use mathlib.Core.Path.{sym, ◌∙◌}
use borrow.Author.Rules.{rules}
use borrow.Author.Tests.{eq-eqb, ne_eqb}
use Rattle.page.proofs.FormLaws.{whole-second, no_misspelt}
use Rattle.page.proofs.forms.node_length.Goals as goal

pub returns-in_default : goal.returns-in_default
returns-in_default c =
    let f = c.requires.0 in
    absurd (no_misspelt c.args.page.now f (search rules) c.requires.1 c.requires.2 (sym c.get.ensures ∙ c.in_default.is))

pub returns-then-n-eq0 : goal.returns-then-n-eq0
returns-then-n-eq0 c =
    let f = c.requires.0 in
    let e = whole-second c.args.page.now f (search rules) c.requires.1 c.requires.2 _ (sym c.get.ensures ∙ c.in-Some.is) in
    (rw (c.requires.1, ← e.0, eq-eqb _ _ c.if-n-eq0.true), omega arith)

pub returns-else-n-eq0 : goal.returns-else-n-eq0
returns-else-n-eq0 c =
    let f = c.requires.0 in
    let e = whole-second c.args.page.now f (search rules) c.requires.1 c.requires.2 _ (sym c.get.ensures ∙ c.in-Some.is) in
    (rw (c.requires.1, ← e.0, ne_eqb _ _ c.if-n-eq0.false), e.1)
