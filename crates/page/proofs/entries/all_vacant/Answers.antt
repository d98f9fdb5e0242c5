-- `entries::all_vacant` compares the payload with itself one entry on, and its first entry with the vacant one.
use mathlib.Core.Path.{◌∙◌}
use mathlib.Core.Bool.{◌&&◌}
use Rattle.base.specs.Part.{part}
use Rattle.page.specs.Entry.{entry_size, vacant_entry}
use Rattle.page.proofs.Repeats.{repeats_decide}
use Rattle.page.proofs.entries.all_vacant.Goals as goal

pub returns : goal.returns
unfolding part
returns c =
    (λ i. c.same.ensures i && c.same-2.ensures i) ∙ repeats_decide c.args.payload.now entry_size vacant_entry 27
