-- `words::same` compares N bytes of two lists as numbers.
use Prim.Native.Nat.{◌-◌}
use mathlib.Core.Path.{sym, ap, ◌∙◌}
use mathlib.Core.Bool.{Bool, ◌&&◌}
use lib.ListN.{replicate}
use borrow.Author.Rules.{rules}
use Rattle.base.specs.Part.{part}
use Rattle.base.specs.Each.{same}
use Rattle.base.proofs.Choice.{and-passed}
use Rattle.base.proofs.Eachs.{same_refl}
use Rattle.base.proofs.Parts.{part_length}
use Rattle.page.proofs.WordLaws.{words_decide, same-append}
use Rattle.page.proofs.words.same.Goals as goal

pub returns : goal.returns
returns g c =
    let n = g.row.N in
    let xs = part c.args.a.now c.args.i n in
    let ys = part c.args.b.now c.args.j n in
    let zs = replicate (8 - n) 0 in
    words_decide 8 _ _ (search rules) (search rules)
    ∙ (λ i. same (c.word.ensures i) (c.word-2.ensures i))
    ∙ same-append xs zs ys zs (part_length c.args.a.now c.args.i n c.requires.0 ∙ sym (part_length c.args.b.now c.args.j n c.requires.1))
    ∙ ap (λ (b : Bool). same xs ys && b) (same_refl zs)
    ∙ and-passed (same xs ys)
