-- Refused, it leaves all as it was; taken, what the work leaves.
use borrow.Author.Rules.{rules}
use mathlib.Core.Path.{◌≡◌, sym, ◌∙◌}
use Rattle.store.specs.Record.{record_of}
use Rattle.store.proofs.Calls.{write-take, write_refuse}
use Rattle.store.proofs.write.write_cut.Goals as goal

pub write_taken-requires : goal.write_taken-requires
write_taken-requires c =
    let a = c.args in
    let r = record_of a.map.now a.letters.now a.numbers in
    let t = write-take a.image.now r a.file a.offset a.payload.now _ _ _ _ (sym c.test_write.ensures ∙ c.in-Ok.is) in
    let m : c.unwrap-map.result.now ≡ a.map.now = search rules in
    let l : c.unwrap-letters.result.now ≡ a.letters.now = search rules in
    rw (m, l) (record { write_taken = t.0; payload_value = t.1; p_value = (t.2, t.3) })

pub returns-in-Err : goal.returns-in-Err
returns-in-Err c =
    let a = c.args in
    let r = record_of a.map.now a.letters.now a.numbers in
    rw c.refused.ensures (write_refuse a.image.now r a.file a.offset a.payload.now a.n a.k _ _ _ (sym c.test_write.ensures ∙ c.in-Err.is))
