-- `columns::spelt_long` gives four columns and four more, by whether the number has more than eight digits.
use Prim.Native.Nat.{ℕ, ◌+◌, ◌*◌, ◌/◌, ◌%◌, ◌<◌}
use native.Mathlib.Omega.{arith}
use mathlib.Core.Path.{◌≡◌, ap, ◌∙◌}
use lib.Bits.{bit_and}
use Rattle.page.specs.Column.{spell}
use Rattle.page.specs.Word.{word_bytes}
use Rattle.page.proofs.Countdown.{upper, lower}
use Rattle.page.proofs.Spellings.{four, four-room, four_digits_lem, eight_columns, eight_last}
use borrow.Author.Rules.{rules}
use Rattle.page.proofs.columns.spelt_long.Goals as goal

-- the word of a number of eight digits: the upper four below the lower four
module _ (n x : ℕ) (h : n < 100_000_000) (e : x ≡ n % 10_000 * 0x10000 + n / 10_000) where
  few : n / 10_000 < 10_000
  few = omega arith

  upper_four : bit_and x 0xffff ≡ n / 10_000
  upper_four = lower (n % 10_000) (n / 10_000) x e (omega (arith, few))

  lower_four : x / 0x10000 ≡ n % 10_000
  lower_four = upper (n % 10_000) (n / 10_000) x e (omega (arith, few))

  upper_lt : bit_and x 0xffff < 10_000
  upper_lt = omega (arith, upper_four, few)

  lower_lt : x / 0x10000 < 10_000
  lower_lt = let l : n % 10_000 < 10_000 = omega arith in omega (arith, lower_four, l)

-- of a longer number, what is left of it
module _ (n x : ℕ) (h : n < 0x100000000) (e : x ≡ n % 100_000_000 * 0x10000 + n / 100_000_000) where
  last_eight : x / 0x10000 ≡ n % 100_000_000
  last_eight = upper (n % 100_000_000) (n / 100_000_000) x e (let l : n / 100_000_000 < 0x10000 = omega arith in l)

  last_lt : x / 0x10000 < 100_000_000
  last_lt = let l : n % 100_000_000 < 100_000_000 = omega arith in omega (arith, last_eight, l)

  -- the last eight digits as a number, and their word
  abbrev LastWord : ℕ → Type 0
  LastWord w = (m : ℕ) × (m < 100_000_000) × (w ≡ m % 10_000 * 0x10000 + m / 10_000)

  last_word : (w : ℕ) → w ≡ (x / 0x10000) % 10_000 * 0x10000 + (x / 0x10000) / 10_000 → LastWord w
  last_word w k = (x / 0x10000, last_lt, k)

pub overflow_cast-x : goal.overflow_cast-x
overflow_cast-x c =
    omega (arith, upper_lt c.args.n c.ten_thousands-x.result (search rules) c.ten_thousands-x.ensures)

pub spelt4-requires : goal.spelt4-requires
spelt4-requires c =
    upper_lt c.args.n c.ten_thousands-x.result (search rules) c.ten_thousands-x.ensures

pub overflow_cast-x-then-n-lt100000000 : goal.overflow_cast-x-then-n-lt100000000
overflow_cast-x-then-n-lt100000000 c =
    omega (arith, lower_lt c.args.n c.ten_thousands-x.result (search rules) c.ten_thousands-x.ensures)

pub four_digits-requires : goal.four_digits-requires
four_digits-requires c =
    lower_lt c.args.n c.ten_thousands-x.result (search rules) c.ten_thousands-x.ensures

pub overflow_add-four_digits : goal.overflow_add-four_digits
overflow_add-four_digits c =
    let l = lower_lt c.args.n c.ten_thousands-x.result (search rules) c.ten_thousands-x.ensures in
    omega (arith, c.four_digits.ensures, four-room _ l)

pub returns-then-n-lt100000000 : goal.returns-then-n-lt100000000
returns-then-n-lt100000000 c =
    let n = c.args.n in
    let w = c.ten_thousands-x.result in
    let e = c.ten_thousands-x.ensures in
    let k = c.four_digits.ensures ∙ ap four (lower_four n w (search rules) e) in
    eight_columns n c.eight.result c.spelt4.result (c.four_digits.result + 0x30303030) c.eight.ensures
    (c.spelt4.ensures ∙ ap (spell 4) (upper_four n w (search rules) e))
    (ap (λ (i : ℕ). word_bytes 4 (i + 0x30303030)) k ∙ four_digits_lem n (n % 10_000) (search rules) (omega arith)) c.requires

pub overflow_cast-hundred_millions : goal.overflow_cast-hundred_millions
overflow_cast-hundred_millions c =
    omega (arith, last_lt c.args.n c.hundred_millions.result (search rules) c.hundred_millions.ensures)

pub ten_thousands-x-requires-2 : goal.ten_thousands-x-requires-2
ten_thousands-x-requires-2 c =
    last_lt c.args.n c.hundred_millions.result (search rules) c.hundred_millions.ensures

pub overflow_cast-x-2 : goal.overflow_cast-x-2
overflow_cast-x-2 c = let m : LastWord c.args.n c.hundred_millions.result (search rules) c.hundred_millions.ensures c.ten_thousands-x-2.result = last_word c.args.n c.hundred_millions.result (search rules) c.hundred_millions.ensures c.ten_thousands-x-2.result c.ten_thousands-x-2.ensures in omega (arith, upper_lt m.0 _ m.1 m.2)

pub four_digits-requires-2 : goal.four_digits-requires-2
four_digits-requires-2 c = let m : LastWord c.args.n c.hundred_millions.result (search rules) c.hundred_millions.ensures c.ten_thousands-x-2.result = last_word c.args.n c.hundred_millions.result (search rules) c.hundred_millions.ensures c.ten_thousands-x-2.result c.ten_thousands-x-2.ensures in upper_lt m.0 _ m.1 m.2

pub overflow_add-four_digits-2 : goal.overflow_add-four_digits-2
overflow_add-four_digits-2 c =
    let m : LastWord c.args.n c.hundred_millions.result (search rules) c.hundred_millions.ensures c.ten_thousands-x-2.result = last_word c.args.n c.hundred_millions.result (search rules) c.hundred_millions.ensures c.ten_thousands-x-2.result c.ten_thousands-x-2.ensures in
    omega (arith, c.four_digits-2.ensures, four-room _ (upper_lt m.0 _ m.1 m.2))

pub overflow_cast-x-3 : goal.overflow_cast-x-3
overflow_cast-x-3 c =
    let m : LastWord c.args.n c.hundred_millions.result (search rules) c.hundred_millions.ensures c.ten_thousands-x-2.result = last_word c.args.n c.hundred_millions.result (search rules) c.hundred_millions.ensures c.ten_thousands-x-2.result c.ten_thousands-x-2.ensures in
    omega (arith, lower_lt m.0 _ m.1 m.2)

pub four_digits-requires-3 : goal.four_digits-requires-3
four_digits-requires-3 c =
    let m : LastWord c.args.n c.hundred_millions.result (search rules) c.hundred_millions.ensures c.ten_thousands-x-2.result = last_word c.args.n c.hundred_millions.result (search rules) c.hundred_millions.ensures c.ten_thousands-x-2.result c.ten_thousands-x-2.ensures in
    lower_lt m.0 _ m.1 m.2

pub overflow_add-four_digits-3 : goal.overflow_add-four_digits-3
overflow_add-four_digits-3 c =
    let m : LastWord c.args.n c.hundred_millions.result (search rules) c.hundred_millions.ensures c.ten_thousands-x-2.result = last_word c.args.n c.hundred_millions.result (search rules) c.hundred_millions.ensures c.ten_thousands-x-2.result c.ten_thousands-x-2.ensures in
    omega (arith, c.four_digits-3.ensures, four-room _ (lower_lt m.0 _ m.1 m.2))

pub returns : goal.returns
unfolding last_word
returns c =
    let n = c.args.n in
    let m : LastWord c.args.n c.hundred_millions.result (search rules) c.hundred_millions.ensures c.ten_thousands-x-2.result = last_word c.args.n c.hundred_millions.result (search rules) c.hundred_millions.ensures c.ten_thousands-x-2.result c.ten_thousands-x-2.ensures in
    eight_last n m.0 (last_eight n c.hundred_millions.result (search rules) c.hundred_millions.ensures) c.eight-2.result
    c.four_digits-2.result c.four_digits-3.result c.eight-2.ensures
    (c.four_digits-2.ensures ∙ ap four (upper_four m.0 _ m.1 m.2)) (c.four_digits-3.ensures ∙ ap four (lower_four m.0 _ m.1 m.2))
    (search rules)
