-- The state as the code keeps it: four columns, each a 32-bit number with row 0 in its lowest byte.
use Rattle.std.specs.Prelude.{List, ◌++◌, ℕ}
use Rattle.cipher.specs.Words.{little_endian}
use Rattle.cipher.specs.declared.columns.Columns.{Columns}

-- the 16 bytes
unfoldable pub state : Columns → List ℕ
state s = little_endian s.c0 ++ little_endian s.c1 ++ little_endian s.c2 ++ little_endian s.c3
