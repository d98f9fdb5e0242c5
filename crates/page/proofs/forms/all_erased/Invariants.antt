-- `page::forms::all_erased` meets its contract: all bytes are FFh where those passed are and those from there on.
use mathlib.Core.Path.{◌≡◌}
use mathlib.Core.Bool.{◌&&◌}
use lib.ListN.{drop}
use Rattle.page.specs.Form.{is_empty}
use Rattle.page.proofs.forms.all_erased.Given as goal

abbrev pub invariant-loop-b : goal.invariant-loop-b
invariant-loop-b l = is_empty l.bytes ≡ l.all && is_empty (drop l.b-index l.bytes)
