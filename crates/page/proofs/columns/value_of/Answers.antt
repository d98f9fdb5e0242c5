-- `columns::value_of` joins digits to pairs, pairs to fours, and fours to the number.
use borrow.Author.Rules.{rules}
use native.Mathlib.Omega.{arith}
use lib.Bits.{and_le_r}
use Rattle.page.proofs.ColumnValues.{digits_of, pairs_of, fours_of, pairs_le, value_is, value_small}
use Rattle.page.proofs.WordLaws.{half_lt}
use Rattle.page.proofs.columns.value_of.Goals as goal

pub overflow_mul-pairs : goal.overflow_mul-pairs
overflow_mul-pairs c = omega (arith, and_le_r (digits_of c.args.v) 0x00ff00ff00ff00ff)

pub overflow_add-pairs : goal.overflow_add-pairs
overflow_add-pairs c =
    let v = c.args.v in
    omega (arith, and_le_r v 0x0f0f0f0f0f0f0f0f, and_le_r (digits_of v) 0x00ff00ff00ff00ff)

pub overflow_mul-fours : goal.overflow_mul-fours
overflow_mul-fours c = omega (arith, and_le_r (pairs_of (digits_of c.args.v)) 0x0000ffff0000ffff)

pub overflow_add-fours : goal.overflow_add-fours
overflow_add-fours c =
    let d = digits_of c.args.v in
    omega (arith, pairs_le d, and_le_r (pairs_of d) 0x0000ffff0000ffff)

pub overflow_mul-result : goal.overflow_mul-result
overflow_mul-result c = omega (arith, half_lt (fours_of (pairs_of (digits_of c.args.v))))

pub overflow_add-result : goal.overflow_add-result
overflow_add-result c = omega (arith, value_is c.args.v (search rules) c.requires, value_small c.args.v)

pub overflow_cast-result : goal.overflow_cast-result
overflow_cast-result c = omega (arith, value_is c.args.v (search rules) c.requires, value_small c.args.v)

pub returns : goal.returns
returns c = value_is c.args.v (search rules) c.requires
