-- `store::replay::read_letters` meets its contract: the letters of both parts, one after the other.
use native.Mathlib.Omega.{arith}
use mathlib.Core.Path.{◌≡◌, ◌∙◌}
use lib.ListN.{length, length-take, length-drop, length-append}
use lib.Seq.{length-take-le}
use Rattle.page.specs.Frame.{payload_size}
use Rattle.page.proofs.Slices.{two_parts}
use Rattle.store.proofs.CommitReads.{letters-read}
use Rattle.store.proofs.replay.read_letters.Goals as goal

pub returns : goal.returns
returns c =
    let a = c.args in
    let w = c.read_letter_part in
    let v = c.read_letter_part-2 in
    let first : length w.new.letters ≡ payload_size = w.auto.letters ∙ length-take-le payload_size a.letters.now (omega arith) in
    let second : length v.new.letters ≡ payload_size = v.auto.letters ∙ simp (length-take, length-drop, length-append) (omega (arith, first)) in
    letters-read a.image.now a.c _ _ w.new.letters v.new.letters a.letters.now _ first c.payload_at.ensures c.payload_at-2.ensures w.ensures v.ensures
    (two_parts a.letters.now w.new.letters v.new.letters payload_size payload_size first second (omega arith))
