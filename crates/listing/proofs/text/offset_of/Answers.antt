-- `text::offset_of` meets its contract: a place is not before the start of its file.
use native.Mathlib.Omega.{arith}
use mathlib.Core.Path.{ap}
use Rattle.page.specs.Plan.{file_plan, start_of}
use Rattle.listing.specs.Listing.{offset_of}
use Rattle.listing.proofs.Files.{file-start}
use Rattle.listing.proofs.text.offset_of.Goals as goal

pub overflow_sub-result : goal.overflow_sub-result
overflow_sub-result c = omega (arith, file-start c.args.x, c.start.ensures, ap (start_of file_plan) c.requires.1)

pub returns : goal.returns
unfolding offset_of
returns c = rw (c.start.ensures, c.requires.1)
