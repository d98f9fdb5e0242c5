-- `columns::twelve` gives eight columns after spaces, or after what stands before them.
use Prim.Native.Nat.{ℕ, ◌*◌, ◌/◌, ◌%◌, ◌+◌, ◌<◌}
use native.Mathlib.Omega.{arith}
use mathlib.Core.Path.{◌≡◌, ap, ◌∙◌}
use mathlib.Core.List.{List}
use lib.Bits.{bit_and}
use Rattle.base.specs.Part.{splice}
use Rattle.page.specs.Column.{spell}
use Rattle.page.proofs.Countdown.{lower}
use Rattle.page.proofs.Spellings.{twelve_spaces, twelve_columns}
use borrow.Author.Rules.{rules}
use Rattle.page.proofs.columns.twelve.Goals as goal

-- what stands before eight digits
module _ (n x : ℕ) (h : n < 0x100000000) (e : x ≡ n % 100_000_000 * 0x10000 + n / 100_000_000) where
  few : n / 100_000_000 < 100
  few = omega arith

  first : bit_and x 0xffff ≡ n / 100_000_000
  first = lower (n % 100_000_000) (n / 100_000_000) x e (omega (arith, few))

pub overflow_cast-x : goal.overflow_cast-x
overflow_cast-x c =
    let n = c.args.n in
    let w = c.hundred_millions-x in
    omega (arith, few n w.result (search rules) w.ensures, first n w.result (search rules) w.ensures)

pub returns-then-n-ge100000000 : goal.returns-then-n-ge100000000
returns-then-n-ge100000000 c =
    let n = c.args.n in
    let w = c.hundred_millions-x in
    let m = bit_and w.result 0xffff in
    c.put_columns-then-n-ge100000000.ensures ∙ ap (λ (l : List ℕ). splice l 0 (spell 4 m)) c.put_columns.ensures
    ∙ twelve_columns n m (first n w.result (search rules) w.ensures) (search rules)

pub returns-else-n-ge100000000 : goal.returns-else-n-ge100000000
returns-else-n-ge100000000 c =
    c.put_columns.ensures ∙ twelve_spaces c.args.n (search rules)
