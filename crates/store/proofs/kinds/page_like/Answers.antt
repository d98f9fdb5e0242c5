-- `store::kinds::page_like` meets its contract: both pages are lent to the test.
use Prim.Native.Nat.{ℕ, ◌*◌}
use mathlib.Core.Path.{◌≡◌, sym, ap, ◌∙◌}
use native.Mathlib.Omega.{arith}
use Rattle.page.specs.Form.{form_of, whole_like}
use Rattle.image.specs.Size.{pages_in_block}
use Rattle.image.specs.Look.{form_at}
use Rattle.store.specs.Kind.{page_in}
use Rattle.store.proofs.kinds.page_like.Goals as goal

pub is_whole_like-requires : goal.is_whole_like-requires
unfolding form_at
is_whole_like-requires c =
    let f = c.requires.b_value in
    let first : page_in c.args.b 0 ≡ c.args.b * pages_in_block = omega arith in
    record { part_bound = omega (arith, c.requires.block_size_in_bounds.1); first_value = (f.0, ap form_of c.page_at.ensures ∙ ap (form_at c.args.image.now) (sym first) ∙ f.1, f.2) }

pub returns : goal.returns
unfolding form_at
returns c =
    let a = c.args in
    let first : page_in a.b 0 ≡ a.b * pages_in_block = omega arith in
    c.is_whole_like.ensures
    ∙ (λ i. whole_like (form_of (c.page_at.ensures i)) a.i (form_of (c.page_at-2.ensures i)))
    ∙ ap (λ (g : ℕ). whole_like (form_at a.image.now g) a.i (form_at a.image.now (page_in a.b a.i))) (sym first)
