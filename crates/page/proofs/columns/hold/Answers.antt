-- `columns::hold` reads the two numbers and compares them.
use Rattle.page.proofs.Pairs.{pair-holds}
use Rattle.page.proofs.columns.hold.Goals as goal

pub returns-in_default : goal.returns-in_default
returns-in_default c =
    let a = c.args in
    rw c.in_default.is at (pair-holds a.low a.high a.a a.b _ c.pair_of.ensures c.requires.0 c.requires.1)

pub returns : goal.returns
returns c =
    let a = c.args in
    rw c.in-Some.is at (pair-holds a.low a.high a.a a.b _ c.pair_of.ensures c.requires.0 c.requires.1)
