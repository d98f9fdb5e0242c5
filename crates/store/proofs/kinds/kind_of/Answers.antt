-- `store::kinds::kind_of` meets its contract: outside the image there is no kind, nor behind another letter than K and C; else page 0 decides.
use Prim.Native.Nat.{ℕ, ◌*◌}
use native.Mathlib.Omega.{arith}
use native.Mathlib.Nat.{add-zero}
use mathlib.Core.Path.{◌≡◌, sym, ap, ◌∙◌}
use mathlib.Core.List.{List}
use lib.ListN.{get_or}
use Rattle.page.specs.declared.Form.{Form}
use Rattle.page.specs.Frame.{page_size}
use Rattle.image.specs.Size.{block_size, pages_in_block}
use Rattle.image.specs.Look.{form_at}
use Rattle.store.specs.Kind.{page_in, is_block_letter, kind_of_first, kind_of}
use Rattle.store.proofs.BlockKinds.{kind_outside, kind_unlettered}
use Rattle.store.proofs.kinds.kind_of.Goals as goal

-- the form that was found of page 0 decides
by_first : (img : List ℕ) (b : ℕ) (m n : Form) → m ≡ form_at img (b * pages_in_block) → m ≡ n → kind_of img b ≡ kind_of_first img b n
unfolding kind_of
by_first img b m n e q = let f : form_at img (page_in b 0) ≡ n = rw add-zero (sym e ∙ q) in ap (kind_of_first img b) f

pub returns-then-blocks-b : goal.returns-then-blocks-b
returns-then-blocks-b c =
    let a = c.args in
    sym (kind_outside a.image.now a.b (omega (arith, c.blocks-2.ensures)))

pub returns-then-not-is_block_letter : goal.returns-then-not-is_block_letter
returns-then-not-is_block_letter c =
    let a = c.args in
    let at : a.b * pages_in_block * page_size ≡ a.b * block_size = omega arith in
    let letter = c.letter_at.ensures ∙ ap (λ (i : ℕ). get_or a.image.now i 0) at in
    sym (kind_unlettered a.image.now a.b (ap is_block_letter (sym letter) ∙ sym c.is_block_letter.ensures ∙ c.if-not-is_block_letter.true))

pub returns-in-Empty : goal.returns-in-Empty
returns-in-Empty c =
    let a = c.args in
    sym (by_first a.image.now a.b _ _ c.form_at.ensures c.in-Empty.is)

pub returns-in-Whole : goal.returns-in-Whole
returns-in-Whole c =
    let a = c.args in
    c.kind_by.ensures ∙ sym (by_first a.image.now a.b _ _ c.form_at.ensures c.in-Whole.is)

pub returns-in-Torn : goal.returns-in-Torn
returns-in-Torn c =
    let a = c.args in
    sym (by_first a.image.now a.b _ _ c.form_at.ensures c.in-Torn.is)

pub returns-in-Spoilt : goal.returns-in-Spoilt
returns-in-Spoilt c =
    let a = c.args in
    sym (by_first a.image.now a.b _ _ c.form_at.ensures c.in-Spoilt.is)
