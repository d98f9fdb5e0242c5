-- `page::plan::count` meets its contract: the table has the plan's counts, and past its end there is none.
use native.Mathlib.Omega.{arith}
use mathlib.Core.Path.{ap, ◌∙◌}
use Prim.Native.Nat.{ℕ}
use Rattle.std.specs.Prelude.{Option}
use Rattle.std.specs.Option.{unwrap_or}
use Rattle.page.specs.Plan.{count_of}
use Rattle.page.proofs.plan.count.Goals as goal

pub returns : goal.returns
unfolding count_of
returns c = c.unwrap_or.ensures ∙ ap (λ (o : Option ℕ). unwrap_or o 0) c.copied.ensures ∙ c.get.ensures.lookup.4 (omega arith) 0
