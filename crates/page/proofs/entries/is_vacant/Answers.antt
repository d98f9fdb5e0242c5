-- `entries::is_vacant` compares eight bytes with those of the vacant entry.
use mathlib.Core.Path.{ap, ◌∙◌}
use mathlib.Core.List.{List}
use Prim.Native.Nat.{ℕ}
use Rattle.base.specs.Part.{part}
use Rattle.base.specs.Each.{same}
use Rattle.page.specs.Entry.{vacant_entry}
use borrow.Author.Rules.{rules}
use Rattle.page.proofs.Slices.{part_all}
use Rattle.page.proofs.entries.is_vacant.Goals as goal

pub returns : goal.returns
unfolding part
returns c =
    c.same.ensures ∙ ap (λ (l : List ℕ). same l vacant_entry) (part_all c.args.src.now 8 (search rules))
