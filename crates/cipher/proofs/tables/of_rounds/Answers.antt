-- `of_rounds` gives the round table as it is laid out.
use mathlib.Core.Path.{refl}
use Rattle.cipher.specs.Field.{◌•◌}
use Rattle.cipher.specs.Table.{s_box_table, doubled_columns, round_table}
use Rattle.cipher.proofs.tables.of_rounds.Goals as goal

pub returns : goal.returns
unfolding round_table doubled_columns s_box_table ◌•◌
returns c = refl
