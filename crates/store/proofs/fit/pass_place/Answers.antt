-- `store::fit::pass_place` meets its contract: a vacant place names nothing; else the node decides, and then the table.
use Prim.Native.Nat.{◌+◌, ◌-◌, ◌<◌}
use native.Mathlib.Omega.{arith}
use mathlib.Core.Path.{◌≡◌, refl, sym, ◌∙◌}
use mathlib.Core.Bool.{true}
use lib.ListN.{get_or}
use Rattle.base.proofs.Choice.{true-false}
use Rattle.page.specs.Plan.{file_plan, places, start_of}
use Rattle.page.specs.Entry.{none}
use Rattle.page.proofs.Slices.{get_d_there}
use Rattle.store.specs.Record.{key_of, place_fits}
use Rattle.store.proofs.PlaceTests.{in_places, vacant-read, node-read, tested_vacant, tested_unnamed, tested_named, unfit_place}
use Rattle.store.proofs.fit.pass_place.Goals as goal

pub offset_bounds-map-x : goal.offset_bounds-map-x
offset_bounds-map-x c = let h = in_places c.args.file c.args.first c.args.x (c.args.x + 1) c.requires.1 in omega arith

pub bounds-map-x : goal.bounds-map-x
bounds-map-x c = let h = in_places c.args.file c.args.first c.args.x (c.args.x + 1) c.requires.1 in omega arith

pub overflow_add-key : goal.overflow_add-key
overflow_add-key c = let h = in_places c.args.file c.args.first c.args.x (c.args.x + 1) c.requires.1 in omega arith

pub offset_bounds-map-x-2 : goal.offset_bounds-map-x-2
offset_bounds-map-x-2 c = let h = in_places c.args.file c.args.first c.args.x (c.args.x + 1) c.requires.1 in omega arith

pub bounds-map-x-2 : goal.bounds-map-x-2
bounds-map-x-2 c = let h = in_places c.args.file c.args.first c.args.x (c.args.x + 1) c.requires.1 in omega arith

pub returns-then-page-key : goal.returns-then-page-key
returns-then-page-key c =
    let a = c.args in
    let inside : a.x < places = let h = in_places a.file a.first a.x (a.x + 1) c.requires.1 in omega arith in
    record {
      right = λ _. tested_vacant a.image.now a.map.now a.named.now a.x inside c.requires.2 (sym (vacant-read a.map.now a.x (omega arith) inside) ∙ c.if-page-key.true);
      wrong = λ e. absurd (true-false refl e);
    }

pub overflow_cast-x : goal.overflow_cast-x
overflow_cast-x c = let h = in_places c.args.file c.args.first c.args.x (c.args.x + 1) c.requires.1 in omega arith

pub returns-then-not-node_fits : goal.returns-then-not-node_fits
returns-then-not-node_fits c =
    let a = c.args in
    let inside : a.x < places = let h = in_places a.file a.first a.x (a.x + 1) c.requires.1 in omega arith in
    let place : start_of file_plan a.file + (a.x - a.first) ≡ a.x = omega (arith, c.requires.1.start) in
    record {
      right = λ e. absurd (true-false e refl);
      wrong = λ _. unfit_place a.image.now a.map.now a.x inside
          (node-read a.map.now a.x (omega arith) inside a.image.now _ c.node_fits.result c.if-page-key.false place c.node_fits.ensures ∙ c.if-not-node_fits.true);
    }

pub returns : goal.returns
returns c =
    let a = c.args in
    let inside : a.x < places = let h = in_places a.file a.first a.x (a.x + 1) c.requires.1 in omega arith in
    let place : start_of file_plan a.file + (a.x - a.first) ≡ a.x = omega (arith, c.requires.1.start) in
    let node = c.node_fits in
    let n = c.mark_key in
    let key : get_or a.map.now (places + a.x) 0 ≡ key_of a.map.now a.x = get_d_there a.map.now (places + a.x) 0 none (omega arith) in
    let fits : place_fits a.image.now a.map.now a.x ≡ true =
    node-read a.map.now a.x (omega arith) inside a.image.now _ node.result c.if-page-key.false place node.ensures ∙ c.if-not-node_fits.false in
    record {
      right = λ t. tested_unnamed a.image.now a.map.now a.named.now a.x inside c.requires.2 n.new.table fits (sym (rw key at n.ensures.0) ∙ t) (rw key at (n.ensures.1 t));
      wrong = λ f. tested_named a.image.now a.map.now a.named.now a.x inside c.requires.2 (sym (rw key at n.ensures.0) ∙ f);
    }
