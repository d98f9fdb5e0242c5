-- Refused, it leaves image, map and letters as they were; taken, what the work leaves.
use mathlib.Core.Path.{refl, sym, ◌∙◌}
use Rattle.store.proofs.Calls.{format_refuse}
use Rattle.store.proofs.format.format_cut.Goals as goal

pub returns-in-Err : goal.returns-in-Err
returns-in-Err c =
    let a = c.args in
    rw (c.refused.ensures, c.none.ensures) (format_refuse a.image.now a.map.now a.letters.now a.noise.now a.n a.k _ (sym c.in-Err.is ∙ c.refuse_format.ensures) refl)
