-- Document 01, "Page forms": a number in columns is decimal, right-justified with spaces, without leading zeros.
use Rattle.std.specs.Prelude.{ℕ, zero, suc, ◌+◌, ◌*◌, ◌-◌, ◌/◌, ◌%◌, List, [], ◌∷◌, Bool, cond, ◌&&◌, length, eqb, leb, ltb, Option, Some, None}
use Rattle.base.specs.Each.{same}
use Rattle.page.specs.Frame.{space}

-- the digits 0 to 9 are the bytes 30h to 39h
abbrev pub zero_digit : ℕ
zero_digit = 0x30

-- a column left of the last digit, where m is what is left of the number: m's last digit, or a space where nothing is left
abbrev pub column : ℕ → ℕ
column m = cond (eqb m 0) space (zero_digit + m % 10)

-- i more such columns before t
unfoldable pub columns : ℕ → ℕ → List ℕ → List ℕ
columns zero m t = t
columns (suc i) m t = columns i (m / 10) (column m ∷ t)

-- the number n in w columns, at least one: its last column is a digit
unfoldable pub spell : ℕ → ℕ → List ℕ
spell w n = columns (w - 1) (n / 10) ((zero_digit + n % 10) ∷ [])

-- a byte's value as a digit, 0 where it is none
abbrev pub digit : ℕ → ℕ
digit b = cond (ltb b zero_digit) 0 (cond (ltb (zero_digit + 9) b) 0 (b - zero_digit))

-- whether a byte is a digit
abbrev pub is_digit : ℕ → Bool
is_digit b = leb zero_digit b && leb b (zero_digit + 9)

-- the decimal value of bytes that follow the number n
unfoldable pub value_after : ℕ → List ℕ → ℕ
value_after n [] = n
value_after n (b ∷ bs) = value_after (n * 10 + digit b) bs

-- the number that columns hold: the one whose spelling they are
unfoldable pub number_in : List ℕ → Option ℕ
number_in xs = let n = value_after 0 xs in cond (same (spell (length xs) n) xs) (Some n) None

-- what is made of the number that columns hold, or of columns that hold none
abbrev pub number_then : {A : Type 0} → Option ℕ → A → (ℕ → A) → A
number_then (Some n) otherwise f = f n
number_then None otherwise f = otherwise

-- the two numbers that columns side by side hold
unfoldable pub pair_in : List ℕ → List ℕ → Option (ℕ × ℕ)
pair_in xs ys = number_then (number_in xs) None λ a. number_then (number_in ys) None λ b. Some (a, b)
