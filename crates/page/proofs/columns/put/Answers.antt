-- `columns::put` writes the last of twelve columns, or all of them after spaces.
use Prim.Native.Nat.{◌-◌}
use native.Mathlib.Omega.{arith}
use mathlib.Core.Path.{refl, sym, ◌∙◌}
use lib.ListN.{length}
use lib.Seq.{length-take-le}
use Rattle.page.proofs.Spellings.{last_of, past_twelve}
use borrow.Author.Rules.{rules}
use Rattle.page.proofs.columns.put.Goals as goal

pub returns-then-w-le12 : goal.returns-then-w-le12
returns-then-w-le12 c =
    let a = c.args in
    c.copy.ensures
    ∙ last_of (length a.dst.now) a.n 12 (12 - (12 - length a.dst.now)) _ c.twelve-columns.ensures c.requires (search rules) (search rules)

pub slice_bounds-fill-length : goal.slice_bounds-fill-length
slice_bounds-fill-length c =
    sym (length-take-le (length c.args.dst.now - 12) c.args.dst.now (omega arith))

pub returns : goal.returns
returns c =
    let a = c.args in
    past_twelve (length a.dst.now) a.n a.dst.now _ _ (search rules) refl c.fill.ensures (c.copy-2.ensures ∙ c.twelve-columns.ensures) (search rules)
