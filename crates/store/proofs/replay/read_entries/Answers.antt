-- `store::replay::read_entries` meets its contract: the places of the parts passed have their entries, the others hold none.
use native.Mathlib.Omega.{arith}
use Prim.Native.Nat.{ℕ, ◌+◌}
use mathlib.Core.Path.{◌≡◌, sym, ap, ◌∙◌}
use mathlib.Core.List.{List}
use lib.ListN.{length, get_or, get_or-replicate}
use Rattle.page.specs.Plan.{places}
use Rattle.page.specs.Entry.{none}
use Rattle.store.proofs.CommitReads.{parts_next, parts-vacant}
use Rattle.store.proofs.replay.read_entries.Goals as goal
use Rattle.store.proofs.replay.read_entries.Goals.{then-not-all_vacant, else-not-all_vacant}

pub loop-part-init : goal.loop-part-init
loop-part-init c =
    let map = c.clear_map in
    let scratch = c.clear_scratch in
    record {
      passed = λ y h. absurd (omega arith);
      ahead = λ y h l.
          let s : get_or scratch.new.scratch y 0 ≡ 0 = rw scratch.ensures (get_or-replicate places y 0 0 (omega arith)) in
          let p : get_or map.new.map y none ≡ none = ap (λ (m : List ℕ). get_or m y none) map.ensures ∙ get_or-replicate (length c.args.map.now) y none none (omega arith) in
          let k : get_or map.new.map (places + y) none ≡ none = ap (λ (m : List ℕ). get_or m (places + y) none) map.ensures ∙ get_or-replicate (length c.args.map.now) (places + y) none none (omega arith) in
          rw (s, p, k);
    }

pub loop-part-preserved : goal.loop-part-preserved
loop-part-preserved c =
    let l = c.loop-part in
    let a = c.args in
    let payload = c.payload_at-payload in
    elim c.if-not-all_vacant.branch [
      | then-not-all_vacant w ↦
          rw (w.map-is, w.scratch-is)
          (parts_next a.image.now a.c _ l.part (omega arith) (omega arith) payload.ensures l.map l.scratch l.invariant _ _ w.read_part.ensures)
      | else-not-all_vacant w ↦
          rw (w.map-is, w.scratch-is)
          (parts-vacant a.image.now a.c _ l.part (omega arith) (omega arith) payload.ensures l.map l.scratch l.invariant
          (sym c.all_vacant.ensures ∙ w.if-not-all_vacant.false))
    ]
