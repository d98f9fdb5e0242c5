-- `pages::harness_commit_page` gives a part of a commit up to byte k, or refuses a length or a part.
use Prim.Native.Nat.{ℕ}
use mathlib.Core.Path.{ap, ap₂, ◌∙◌}
use mathlib.Core.List.{List}
use borrow.Author.Tests.{eq-eqb, lt-ltb}
use Rattle.page.specs.Entry.{commit_payload}
use Rattle.page.specs.Page.{commit_page}
use Rattle.harness.specs.Answer.{answer}
use Rattle.harness.specs.Page.{commit_page_answer}
use Rattle.harness.proofs.Framed.{framed}
use Rattle.harness.proofs.pages.harness_commit_page.Goals as goal

pub returns : goal.returns
unfolding commit_page_answer commit_page
returns c =
    let m = c.in-Some-as_array.ensures.cases in
    let l = c.in-Some-as_array-2.ensures.cases in
    let payload = c.write_commit_payload.ensures ∙ ap₂ (λ (map letters : List ℕ). commit_payload map letters c.args.part) m.same l.same in
    rw (eq-eqb _ _ c.in-Some.ensures.cases.long, lt-ltb _ _ c.if-part-ge-PARTS.false, eq-eqb _ _ m.long, eq-eqb _ _ l.long)
    (ap (answer 0) (framed _ _ _ _ _ _ c.commit.ensures payload c.write_page.ensures))
