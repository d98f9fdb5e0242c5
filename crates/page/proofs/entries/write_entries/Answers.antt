-- `page::entries::write_entries` meets its contract: the entries passed are written, the bytes after them as they were.
use Prim.Native.Nat.{◌+◌}
use native.Mathlib.Omega.{arith}
use mathlib.Core.Path.{◌≡◌, refl, sym, ap₂, ◌∙◌}
use mathlib.Core.List.{append-nil}
use lib.ListN.{drop_of_length-le}
use Rattle.page.specs.Frame.{payload_size}
use Rattle.page.specs.Plan.{places}
use Rattle.page.specs.Entry.{none, entries_in_part, entry_bytes, entries_from}
use Rattle.page.proofs.Commits.{entries_one, write_next}
use Rattle.page.proofs.Slices.{get_d_there}
use Rattle.page.proofs.entries.write_entries.Goals as goal

pub loop-j-init : goal.loop-j-init
unfolding entries_from
loop-j-init c = refl

pub loop-j-preserved : goal.loop-j-preserved
loop-j-preserved c =
    let l = c.loop-j in
    let a = c.args in
    let m = a.map.now in
    let s = c.split_at_mut-rest.ensures in
    let e = ap₂ entry_bytes (get_d_there m (a.first + l.j) 0 none (omega arith)) (get_d_there m (places + (a.first + l.j)) 0 none (omega arith)) in
    write_next m l.dst a.dst.now _ _ _ 1 l.j a.first l.invariant s.front s.back (c.write_entry.ensures ∙ e ∙ sym (entries_one m (a.first + l.j)))

pub returns : goal.returns
returns c =
    let l = c.loop-j in
    let a = c.args in
    let e : l.j ≡ entries_in_part = omega arith in
    l.invariant ∙ rw (e, drop_of_length-le a.dst.now {i = payload_size} (omega arith), append-nil)
