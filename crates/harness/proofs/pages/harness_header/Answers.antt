-- `pages::harness_header` gives the bytes of a header, or says that its fields are out of range, or refuses a length.
use mathlib.Core.Path.{◌≡◌, refl, ap}
use mathlib.Core.Bool.{Bool, true, false, cond}
use Prim.Native.Nat.{ℕ, ◌≤◌}
use native.Mathlib.Omega.{arith}
use borrow.Author.Tests.{eq-eqb, ne_eqb, ltb-false}
use Rattle.std.specs.Prelude.{Some, None}
use Rattle.page.specs.Header.{node_letter, cut_off_letter, keys_letter, commit_letter, in_range}
use Rattle.page.specs.declared.Frame.{Frame}
use Rattle.harness.specs.Answer.{answer}
use Rattle.harness.specs.Page.{byte_range, frame_of, header_answer}
use Rattle.harness.proofs.pages.harness_header.Goals as goal

-- no header has a kind that is no byte
no_kind : (f : Frame) → byte_range ≤ f.kind → in_range f ≡ false
unfolding in_range
no_kind f h =
    rw (ne_eqb f.kind node_letter (λ e. omega arith), ne_eqb f.kind cut_off_letter (λ e. omega arith), ne_eqb f.kind keys_letter (λ e. omega arith), ne_eqb f.kind commit_letter (λ e. omega arith))

none : (b : Bool) (f : Frame) → None ≡ cond b (Some f) None → b ≡ false
none true f e = absurd (let z : ◌≡◌ {A = ℕ} 0 1 = cc in omega arith)
none false f e = refl

pub returns-in_default-frame_of : goal.returns-in_default-frame_of
unfolding header_answer
returns-in_default-frame_of c =
    let f = c.in-Some.ensures.cases in
    let h = c.in-Some-as_mut_array.ensures.cases in
    let k = rw f.same at (ltb-false _ _ (none _ _ c.in_default-frame_of.ensures)) in
    rw (eq-eqb _ _ f.long, eq-eqb _ _ h.long, no_kind (frame_of _) k) (ap (answer 1) h.same)
