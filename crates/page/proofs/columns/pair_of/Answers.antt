-- `columns::pair_of` tests all eight columns at once, and joins their digits to two numbers.
use borrow.Author.Rules.{rules}
use native.Mathlib.Omega.{arith}
use lib.Bits.{and_le_r}
use Rattle.page.proofs.CountedWords.{rests_in}
use Rattle.page.proofs.ColumnValues.{pairs_of, fours_of, pairs_le, fours_le}
use Rattle.page.proofs.Pairs.{rests_lt, marked_least, no_pair, pair_is}
use Rattle.page.proofs.WordLaws.{half_lt}
use Rattle.page.proofs.columns.pair_of.Goals as goal

pub overflow_add-over : goal.overflow_add-over
overflow_add-over c = omega (arith, and_le_r (rests_in c.eight-changed.result) 0x0f0f0f0f0f0f0f0f)

pub overflow_sub-before : goal.overflow_sub-before
overflow_sub-before c = marked_least c.eight-changed.result c.args.low c.args.high (search rules) c.eight-changed.ensures

pub returns-then-not-right : goal.returns-then-not-right
returns-then-not-right c =
    no_pair c.eight-changed.result c.args.low c.args.high (search rules) c.eight-changed.ensures (c.if-not-right.true)

pub overflow_mul-pairs : goal.overflow_mul-pairs
overflow_mul-pairs c = omega (arith, and_le_r (rests_in c.eight-changed.result) 0x00ff00ff00ff00ff)

pub overflow_add-pairs : goal.overflow_add-pairs
overflow_add-pairs c =
    let v = c.eight-changed.result in
    omega (arith, rests_lt v (search rules), and_le_r (rests_in v) 0x00ff00ff00ff00ff)

pub overflow_mul-fours : goal.overflow_mul-fours
overflow_mul-fours c = omega (arith, and_le_r (pairs_of (rests_in c.eight-changed.result)) 0x0000ffff0000ffff)

pub overflow_add-fours : goal.overflow_add-fours
overflow_add-fours c =
    let d = rests_in c.eight-changed.result in
    omega (arith, pairs_le d, and_le_r (pairs_of d) 0x0000ffff0000ffff)

pub overflow_cast-first : goal.overflow_cast-first
overflow_cast-first c = omega (arith, half_lt (fours_of (pairs_of (rests_in c.eight-changed.result))))

pub overflow_cast-second : goal.overflow_cast-second
overflow_cast-second c = omega (arith, fours_le (pairs_of (rests_in c.eight-changed.result)))

pub returns : goal.returns
returns c =
    pair_is c.eight-changed.result c.args.low c.args.high (search rules) c.eight-changed.ensures (c.if-not-right.false)
