-- `headers::in_range` goes by the kind letter.
use mathlib.Core.Path.{◌≡◌}
use mathlib.Core.Bool.{false}
use borrow.Author.Rules.{rules}
use borrow.Author.Tests.{ne_eqb}
use Rattle.page.specs.Header.{in_range}
use Rattle.page.specs.declared.Frame.{Frame}
use Rattle.page.proofs.headers.in_range.Goals as goal

pub returns-in-78 : goal.returns-in-78
unfolding in_range
returns-in-78 c = rw c.in-78.is c.is_node.ensures

pub returns-in-68 : goal.returns-in-68
unfolding in_range
returns-in-68 c = rw c.in-68.is c.is_cut_off.ensures

pub returns-in-75 : goal.returns-in-75
unfolding in_range
returns-in-75 c = rw c.in-75.is c.is_keys.ensures

pub returns-in-67 : goal.returns-in-67
unfolding in_range
returns-in-67 c = rw c.in-67.is c.is_commit.ensures

-- no other letter has a range
no_range : (f : Frame) → (f.kind ≡ 78 → ⊥) → (f.kind ≡ 68 → ⊥) → (f.kind ≡ 75 → ⊥) → (f.kind ≡ 67 → ⊥) → false ≡ in_range f
unfolding in_range
no_range f a b c d = rw (ne_eqb _ _ a, ne_eqb _ _ b, ne_eqb _ _ c, ne_eqb _ _ d)

pub returns-in_default : goal.returns-in_default
returns-in_default c = no_range c.args.f (search rules) (search rules) (search rules) (search rules)
