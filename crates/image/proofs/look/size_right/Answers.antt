-- `look::size_right` tests the three bounds of a right size.
use borrow.Author.Tests.{eq-eqb, ne_eqb, le-leb, lt-leb}
use Rattle.image.specs.Size.{size_right}
use Rattle.image.proofs.look.size_right.Goals as goal

pub returns-then-image-ne0 : goal.returns-then-image-ne0
unfolding size_right
returns-then-image-ne0 c = search ne_eqb

pub returns-then-n-lt-FEWEST_BLOCKS : goal.returns-then-n-lt-FEWEST_BLOCKS
unfolding size_right
returns-then-n-lt-FEWEST_BLOCKS c = search (eq-eqb, lt-leb)

pub returns : goal.returns
unfolding size_right
returns c = search (eq-eqb, le-leb)
