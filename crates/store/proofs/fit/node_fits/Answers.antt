-- `store::fit::node_fits` meets its contract: outside the image there is no whole page, past the last position no key; else the page decides.
use Prim.Native.Nat.{ℕ, ◌+◌}
use native.Mathlib.Omega.{arith}
use mathlib.Core.Path.{◌≡◌, refl, sym, ap, ◌∙◌}
use mathlib.Core.List.{List}
use Rattle.page.specs.Plan.{file_plan, start_of}
use Rattle.page.specs.Header.{node_frame}
use Rattle.page.specs.Form.{form_of, whole_node}
use Rattle.page.specs.declared.Form.TheVariants.{Empty}
use Rattle.page.proofs.Plans.{place_at_lem}
use Rattle.page.proofs.Ranges.{node_range}
use Rattle.image.specs.Look.{form_at}
use Rattle.store.proofs.BlockKinds.{empty_form, page_outside_empty}
use Rattle.store.proofs.Fits.{fields_node, key_beyond}
use Rattle.store.proofs.fit.node_fits.Goals as goal

pub returns-then-pages-page : goal.returns-then-pages-page
returns-then-pages-page c =
    let a = c.args in
    let e : form_at a.image.now a.page ≡ Empty =
    empty_form a.image.now a.page (page_outside_empty a.image.now a.page (omega (arith, c.pages.ensures))) in
    rw e

pub returns-then-key-gt-LAST_POSITION : goal.returns-then-key-gt-LAST_POSITION
returns-then-key-gt-LAST_POSITION c =
    let a = c.args in
    sym (key_beyond a.image.now a.page (start_of file_plan a.file + a.offset) a.key (omega arith))

pub is_whole_node-requires : goal.is_whole_node-requires
is_whole_node-requires c = (
  (node_range (node_frame 1 c.args.file c.args.offset c.args.key 0) refl).1 (record {
    from_one = omega arith;
    number = omega arith;
    file = c.requires.1;
    offset = c.requires.2;
    position = omega arith;
    second = omega arith;
  }),
  c.requires.3,
  c.requires.4,
)

pub returns : goal.returns
unfolding form_at
returns c =
    let a = c.args in
    c.is_whole_node.ensures
    ∙ ap (λ (page : List ℕ). whole_node a.file a.offset a.key (form_of page)) c.page_at.ensures
    ∙ fields_node (start_of file_plan a.file + a.offset) a.key a.file a.offset (place_at_lem file_plan a.file a.offset c.requires.2) (form_at a.image.now a.page)
