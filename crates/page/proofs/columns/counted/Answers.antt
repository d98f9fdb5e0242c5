-- `columns::counted` counts down in four steps.
use mathlib.Core.Path.{◌∙◌}
use Rattle.page.proofs.Countdown.{counted_down}
use Rattle.page.proofs.columns.counted.Goals as goal

pub returns : goal.returns
returns c =
    let a = c.args in
    c.less.ensures ∙ rw (c.less-twos.ensures, c.less-fours.ensures, c.less-eights.ensures) (counted_down a.x a.p a.c c.requires.0 c.requires.2)
