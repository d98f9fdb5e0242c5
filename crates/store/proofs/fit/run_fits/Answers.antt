-- `store::fit::run_fits` meets its contract, place by place.
use native.Mathlib.Omega.{arith}
use Prim.Native.Nat.{◌+◌}
use Rattle.store.specs.Testing.{run_length}
use Rattle.store.proofs.PlaceTests.{in_places}
use Rattle.store.proofs.fit.run_fits.Goals as goal

pub offset_bounds-map-from : goal.offset_bounds-map-from
offset_bounds-map-from c =
    let h = in_places c.args.file c.args.first c.args.from (c.args.from + run_length) c.requires.1 in
    omega arith

pub bounds-map-from : goal.bounds-map-from
bounds-map-from c =
    let h = in_places c.args.file c.args.first c.args.from (c.args.from + run_length) c.requires.1 in
    omega arith

pub overflow_add-x-end : goal.overflow_add-x-end
overflow_add-x-end c =
    let h = in_places c.args.file c.args.first c.args.from (c.args.from + run_length) c.requires.1 in
    omega arith
