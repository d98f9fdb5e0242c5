-- `steps::program_by` lends the page of the image to the writer of a page.
use mathlib.Core.Path.{refl, sym, ap, ◌∙◌}
use lib.ListN.{length}
use lib.Seq.{length-take-le}
use borrow.Author.Tests.{not-true, not-false}
use Rattle.page.specs.Frame.{page_size}
use Rattle.image.specs.Power.{reach}
use Rattle.image.proofs.Runs.{act_off}
use Rattle.image.proofs.Lent.{joined-program}
use borrow.Author.Rules.{rules}
use Rattle.image.proofs.steps.program_by.Goals as goal

pub returns-then-not-p : goal.returns-then-not-p
returns-then-not-p g c page long told = sym (act_off _ c.args.p c.args.image.now (not-true _ c.if-not-p.true))

pub returns : goal.returns
returns g c page long told =
    let a = c.args in
    let s = c.split_at_mut-from.ensures in
    let h = rw c.unwrap.ensures at c.first_chunk_mut.ensures.cases in
    joined-program a.image.now a.p c.after_step.result (not-false _ c.if-not-p.false) c.after_step.ensures (reach a.p) refl _ a.g page _ _
    (search rules, long)
    (told _ _ (ap length h.same ∙ length-take-le page_size _ h.enough) (record { shown = _; shows = refl; left = _; met = c.write.ensures; leaves = refl }))
    s.front s.back

pub write-requires : goal.write-requires
write-requires g c =
    let h = rw c.unwrap.ensures at c.first_chunk_mut.ensures.cases in
    let t = c.requires.callable _ (ap length h.same ∙ length-take-le page_size _ h.enough) in
    search (rules, t)
