-- `store::kinds::key_block_whole` meets its contract: page 0 by its header, then all are whole where those left are.
use Prim.Native.Nat.{ℕ}
use native.Mathlib.Omega.{arith}
use mathlib.Core.Path.{◌≡◌, sym, ap, ◌∙◌}
use mathlib.Core.Bool.{Bool, true, not}
use mathlib.Core.List.{List}
use Rattle.base.proofs.Searches.{all_next, all_fails, all_none}
use Rattle.page.specs.Header.{keys_frame}
use Rattle.image.specs.Size.{pages_in_block}
use Rattle.image.specs.Look.{form_at}
use Rattle.store.specs.Kind.{page_in, whole_with, key_block_whole}
use Rattle.store.proofs.BlockKinds.{keys_ranged}
use Rattle.page.specs.Form.{whole_like}
use Rattle.page.specs.declared.Form.{Form}
use Rattle.page.proofs.HeaderTests.{whole_with_lem}
use Rattle.store.proofs.PageTests.{by_own_header}
use Rattle.store.proofs.kinds.key_block_whole.Invariants.{keys_whole}
use Rattle.store.proofs.kinds.key_block_whole.Goals as goal

-- what the test of page i of the loop says
abbrev told : (img : List ℕ) (b e q i : ℕ) (r : Bool) → r ≡ whole_like (form_at img (page_in b 0)) i (form_at img (page_in b i)) → whole_with (keys_frame e q 0) (form_at img (page_in b 0)) ≡ true → r ≡ keys_whole img b q e i
told img b e q i r p w = p ∙ ap (λ (f : Form). whole_like f i (form_at img (page_in b i))) (whole_with_lem (keys_frame e q 0) (form_at img (page_in b 0)) w)

pub returns-then-ne : goal.returns-then-ne
unfolding key_block_whole
returns-then-ne c =
    let w = by_own_header _ c.args.f _ _ _ c.requires.1 c.ne.ensures c.keys.ensures in
    sym (all_fails _ pages_in_block 0 (omega arith) (sym w ∙ ap not c.if-ne.true))

pub loop-page-init : goal.loop-page-init
unfolding key_block_whole
loop-page-init c =
    let w = by_own_header _ c.args.f _ _ _ c.requires.1 c.ne.ensures c.keys.ensures in
    all_next _ pages_in_block 0 (omega arith) (sym w ∙ ap not c.if-ne.false)

pub page_like-requires : goal.page_like-requires
page_like-requires c =
    let w = by_own_header _ c.args.f _ _ _ c.requires.1 c.ne.ensures c.keys.ensures in
    let t = sym w ∙ ap not c.if-ne.false in
    let e = c.args.f.number in
    let q = c.args.f.unit in
    let g = page_in c.args.b 0 in
    record { block_size_in_bounds = (c.requires.0, omega arith); b_value = (keys_frame e q 0, whole_with_lem (keys_frame e q 0) (form_at c.args.image.now g) t, keys_ranged c.args.image.now g e q c.loop-page.page t (omega arith)) }

pub returns-then-not-page_like : goal.returns-then-not-page_like
returns-then-not-page_like c =
    let l = c.loop-page in
    let w = by_own_header _ c.args.f _ _ _ c.requires.1 c.ne.ensures c.keys.ensures in
    let h = told c.args.image.now c.args.b c.args.f.number c.args.f.unit l.page _ c.page_like.ensures (sym w ∙ ap not c.if-ne.false) in
    sym (l.invariant ∙ all_fails _ pages_in_block l.page (omega arith) (sym h ∙ c.if-not-page_like.true))

pub loop-page-preserved : goal.loop-page-preserved
loop-page-preserved c =
    let l = c.loop-page in
    let w = by_own_header _ c.args.f _ _ _ c.requires.1 c.ne.ensures c.keys.ensures in
    let h = told c.args.image.now c.args.b c.args.f.number c.args.f.unit l.page _ c.page_like.ensures (sym w ∙ ap not c.if-ne.false) in
    l.invariant ∙ all_next _ pages_in_block l.page (omega arith) (sym h ∙ c.if-not-page_like.false)

pub returns : goal.returns
returns c = sym (c.loop-page.invariant ∙ all_none _ pages_in_block c.loop-page.page c.loop-page-test.false)
