-- A text that grows at its end.
use Rattle.std.specs.Prelude.{ℕ, List, take}
use Rattle.listing.specs.declared.text.Text.{Text}

-- what is written of it
abbrev pub written : Text → List ℕ
written t = take t.length t.bytes
