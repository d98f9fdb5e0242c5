-- `of_s_box` gives the S-box as it is laid out.
use mathlib.Core.Path.{refl}
use Rattle.cipher.specs.Table.{s_box_table}
use Rattle.cipher.proofs.tables.of_s_box.Goals as goal

pub returns : goal.returns
unfolding s_box_table
returns c = refl
