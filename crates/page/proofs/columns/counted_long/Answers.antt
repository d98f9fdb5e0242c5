-- `columns::counted_long` counts down in four steps.
use mathlib.Core.Path.{◌∙◌}
use Rattle.page.proofs.Countdown.{counted_down}
use Rattle.page.proofs.columns.counted_long.Goals as goal

pub returns : goal.returns
returns c =
    let a = c.args in
    c.less_long.ensures ∙ rw (c.less_long-twos.ensures, c.less_long-fours.ensures, c.less_long-eights.ensures) (counted_down a.w a.p a.c c.requires.0 c.requires.2)
