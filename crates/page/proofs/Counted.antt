-- Laws of columns that hold a number: after the spaces a digit that is not 0, then digits only, or a last 0.
use Prim.Native.Nat.{ℕ, zero, suc, ◌+◌, ◌*◌, ◌-◌, ◌/◌, ◌%◌, ◌^◌, ◌<◌, ◌≤◌}
use native.Mathlib.Omega.{arith}
use native.Mathlib.Nat.{pow-suc, zero-add}
use native.Mathlib.Decide.{ℕ_discrete}
use mathlib.Core.Path.{◌≡◌, refl, sym, ap, subst, ◌∙◌}
use mathlib.Core.List.{List, [], ◌∷◌, ◌++◌}
use mathlib.Core.Bool.{Bool, true, false, cond, ◌&&◌}
use lib.ListN.{length, get_or, replicate}
use lib.Dec.{eqb, leb}
use borrow.Author.Tests.{eqb-true, eqb-false, eq-eqb, leb-true, le-leb, ne_eqb}
use Rattle.base.specs.Each.{same}
use Rattle.base.proofs.Choice.{and-true, and_intro, and-passed, true-false, both_ways}
use Rattle.base.proofs.Eachs.{same_true, same_refl}
use Rattle.page.specs.Frame.{space}
use Rattle.page.specs.Column.{zero_digit, column, columns, spell, digit, is_digit, value_after, number_in, number_then}
use Rattle.std.specs.Prelude.{Some, None}
use Rattle.page.proofs.Column.{digit_lt, digit_of_digit, digit-byte, digit_is, column-some, value_lt}

-- all columns are digits
unfoldable pub all_digits : List ℕ → Bool
all_digits [] = true
all_digits (c ∷ cs) = let r = all_digits cs in is_digit c && r

-- a digit that is not 0
abbrev pub is_first : ℕ → Bool
is_first c = is_digit c && leb 1 (digit c)

-- after the spaces such a digit, then digits only
unfoldable pub from_one : List ℕ → Bool
from_one [] = false
from_one (c ∷ cs) = let r = from_one cs in cond (eqb c space) r (is_first c && all_digits cs)

-- ---- such columns are the spelling of their value
-- a digit that is no leading zero is one column more
next_digit : (t : List ℕ) (c i n : ℕ) → is_digit c ≡ true → 1 ≤ n * 10 + digit c → columns i n (c ∷ t) ≡ columns (suc i) (n * 10 + digit c) t
unfolding columns
next_digit t c i n d h =
    let m = n * 10 + digit c in
    let rest : m / 10 ≡ n = omega (arith, digit_lt c) in
    let this : column m ≡ c = column-some m (λ e. omega arith) ∙ omega (arith, digit_lt c, digit-byte c d) in
    rw (rest, this)

digits_spelt : (t : List ℕ) (c i n : ℕ) → is_digit c ≡ true → 1 ≤ n * 10 + digit c → all_digits t ≡ true → (columns i n (c ∷ t) ≡ spell (suc (i + length t)) (value_after n (c ∷ t))) × (1 ≤ value_after n (c ∷ t))
unfolding spell value_after all_digits
digits_spelt [] c i n d h a =
    let m = n * 10 + digit c in
    let w : suc (i + 0) - 1 ≡ i = omega arith in
    let rest : m / 10 ≡ n = omega (arith, digit_lt c) in
    let this : zero_digit + m % 10 ≡ c = omega (arith, digit_lt c, digit-byte c d) in
    (rw (w, rest, this), h)
digits_spelt (b ∷ t) c i n d h a =
    let m = n * 10 + digit c in
    let e = and-true (is_digit b) (all_digits t) a in
    let r = digits_spelt t b (suc i) m e.0 (omega arith) e.1 in
    let w : suc (suc i + length t) ≡ suc (i + suc (length t)) = omega arith in
    (next_digit (b ∷ t) c i n d h ∙ r.0 ∙ ap (λ (k : ℕ). spell k (value_after m (b ∷ t))) w, r.1)

one_spelt : (t : List ℕ) (i : ℕ) → from_one t ≡ true → (columns i 0 t ≡ spell (i + length t) (value_after 0 t)) × (1 ≤ value_after 0 t)
unfolding from_one columns value_after
one_spelt [] i h = absurd (true-false h refl)
one_spelt (c ∷ t) i h = go (eqb c space) refl h (one_spelt t (suc i))
  where
    go : (z : Bool) → eqb c space ≡ z → cond z (from_one t) (is_first c && all_digits t) ≡ true
        → (from_one t ≡ true → (columns (suc i) 0 t ≡ spell (suc i + length t) (value_after 0 t)) × (1 ≤ value_after 0 t))
        → (columns i 0 (c ∷ t) ≡ spell (i + suc (length t)) (value_after 0 (c ∷ t))) × (1 ≤ value_after 0 (c ∷ t))
    go true e k ih =
        let w : suc i + length t ≡ i + suc (length t) = omega arith in
        rw (eqb-true c space e) ((ih k).0 ∙ ap (λ (k : ℕ). spell k (value_after 0 t)) w, (ih k).1)
    go false e k ih =
        let a = and-true (is_first c) (all_digits t) k in
        let f = and-true (is_digit c) (leb 1 (digit c)) a.0 in
        let r = digits_spelt t c i 0 f.0 (omega (arith, leb-true 1 (digit c) f.1)) a.1 in
        let w : suc (i + length t) ≡ i + suc (length t) = omega arith in
        (r.0 ∙ ap (λ (k : ℕ). spell k (value_after 0 (c ∷ t))) w, r.1)

-- ---- the spelling of a number from 1 on are such columns
digit_then : (d : ℕ) (t : List ℕ) → d < 10 → all_digits t ≡ true → all_digits ((zero_digit + d) ∷ t) ≡ true
unfolding all_digits
digit_then d t h a = and_intro _ _ (digit_is d h) a

first_then : (d : ℕ) (t : List ℕ) → 1 ≤ d → d < 10 → all_digits t ≡ true → from_one ((zero_digit + d) ∷ t) ≡ true
unfolding from_one
first_then d t g h a =
    rw (ne_eqb (zero_digit + d) space (λ e. omega arith))
    (and_intro _ _ (and_intro _ _ (digit_is d h) (le-leb 1 (digit (zero_digit + d)) (omega (arith, digit_of_digit d h)))) a)

-- what stands after m is to make it such columns
abbrev after : ℕ → List ℕ → Bool
after m t = cond (eqb m 0) (from_one t) (all_digits t)

after-digit : (m : ℕ) (t : List ℕ) → 1 ≤ m → all_digits t ≡ true → after (m / 10) ((zero_digit + m % 10) ∷ t) ≡ true
after-digit m t h a = go (eqb (m / 10) 0) refl
  where
    go : (z : Bool) → eqb (m / 10) 0 ≡ z → cond z (from_one ((zero_digit + m % 10) ∷ t)) (all_digits ((zero_digit + m % 10) ∷ t)) ≡ true
    go true e = first_then (m % 10) t (omega (arith, eqb-true (m / 10) 0 e)) (omega arith) a
    go false e = digit_then (m % 10) t (omega arith) a

columns_from_one : (i m : ℕ) (t : List ℕ) → m < 10 ^ i → after m t ≡ true → from_one (columns i m t) ≡ true
unfolding columns from_one
columns_from_one zero m t h a = let z : m ≡ 0 = omega arith in rw z at a
columns_from_one (suc i) m t h a =
    let k : m < 10 ^ i * 10 = rw pow-suc at h in
    columns_from_one i (m / 10) (column m ∷ t) (omega arith) (go (eqb m 0) refl a)
  where
    go : (z : Bool) → eqb m 0 ≡ z → cond z (from_one t) (all_digits t) ≡ true → after (m / 10) (cond z space (zero_digit + m % 10) ∷ t) ≡ true
    go true e a = rw (eqb-true m 0 e) a
    go false e a = after-digit m t (omega (arith, eqb-false m 0 e)) a

spell_from_one : (w n : ℕ) → 1 ≤ n → n < 10 ^ w → from_one (spell w n) ≡ true
unfolding spell all_digits
spell_from_one zero n h k = absurd (omega arith)
spell_from_one (suc w) n h k =
    let e : suc w - 1 ≡ w = omega arith in
    let l : n < 10 ^ w * 10 = rw pow-suc at k in
    rw e (columns_from_one w (n / 10) _ (omega arith) (after-digit n [] h refl))

-- ---- columns that hold a number
-- whether columns are the spelling of their value
unfoldable pub spelt : List ℕ → Bool
spelt cs = same (spell (length cs) (value_after 0 cs)) cs

pub read : (cs : List ℕ) → number_in cs ≡ cond (spelt cs) (Some (value_after 0 cs)) None
unfolding number_in spelt
read cs = refl

spelt_true : (cs : List ℕ) → spelt cs ≡ true → spell (length cs) (value_after 0 cs) ≡ cs
unfolding spelt
spelt_true cs t = same_true (spell (length cs) (value_after 0 cs)) cs t

value_fits : (cs : List ℕ) → value_after 0 cs < 10 ^ length cs
value_fits cs = subst (λ (k : ℕ). value_after 0 cs < 10 ^ k) (zero-add (length cs)) (value_lt cs 0 0 (omega arith))

-- from 1 on
spelt_from_one : (cs : List ℕ) → from_one cs ≡ true → (spelt cs ≡ true) × (1 ≤ value_after 0 cs)
unfolding spelt columns
spelt_from_one cs h =
    let r = one_spelt cs 0 h in
    let e : spell (length cs) (value_after 0 cs) ≡ cs = sym (rw zero-add at r.0) in
    (rw (e, same_refl cs), r.1)

from_one_spelt : (cs : List ℕ) → spelt cs ≡ true → 1 ≤ value_after 0 cs → from_one cs ≡ true
from_one_spelt cs t h =
    let v = value_after 0 cs in
    subst (λ (l : List ℕ). from_one l ≡ true) (spelt_true cs t) (spell_from_one (length cs) v h (value_fits cs))

pub read_from_one : (cs : List ℕ) → from_one cs ≡ true → number_in cs ≡ Some (value_after 0 cs)
read_from_one cs h = read cs ∙ rw (spelt_from_one cs h).0

pub counted : (cs : List ℕ) → number_then (number_in cs) false (leb 1) ≡ from_one cs
counted cs =
    both_ways _ _ (λ t. go (spelt cs) refl (rw read at t))
    (λ t. rw (read_from_one cs t) (le-leb 1 (value_after 0 cs) (spelt_from_one cs t).1))
  where
    go : (b : Bool) → spelt cs ≡ b → number_then (cond b (Some (value_after 0 cs)) None) false (leb 1) ≡ true → from_one cs ≡ true
    go true e t = from_one_spelt cs e (leb-true 1 (value_after 0 cs) t)
    go false e t = absurd (true-false t refl)

-- ---- spaces before such columns
columns_wider : (i m : ℕ) (t : List ℕ) → m < 10 ^ i → columns (suc i) m t ≡ space ∷ columns i m t
unfolding columns
columns_wider zero m t h = let z : m ≡ 0 = omega arith in rw z
columns_wider (suc i) m t h =
    let k : m < 10 ^ i * 10 = rw pow-suc at h in
    columns_wider i (m / 10) (column m ∷ t) (omega arith)

spell_wider : (w n : ℕ) → n < 10 ^ suc w → spell (suc (suc w)) n ≡ space ∷ spell (suc w) n
unfolding spell
spell_wider w n h =
    let k : n < 10 ^ w * 10 = rw pow-suc at h in
    let e : suc (suc w) - 1 ≡ suc w = omega arith in
    let f : suc w - 1 ≡ w = omega arith in
    rw (e, f) (columns_wider w (n / 10) ((zero_digit + n % 10) ∷ []) (omega arith))

spelt_space : (c : ℕ) (cs : List ℕ) → spelt (space ∷ c ∷ cs) ≡ spelt (c ∷ cs)
unfolding spelt value_after same
spelt_space c cs = rw (spell_wider (length cs) (value_after 0 (c ∷ cs)) (value_fits (c ∷ cs)))

pub number_space : (c : ℕ) (cs : List ℕ) → number_in (space ∷ c ∷ cs) ≡ number_in (c ∷ cs)
unfolding value_after
number_space c cs = read (space ∷ c ∷ cs) ∙ rw (spelt_space c cs) (sym (read (c ∷ cs)))

pub number_spaces : (k c : ℕ) (cs : List ℕ) → number_in (replicate k space ++ (c ∷ cs)) ≡ number_in (c ∷ cs)
number_spaces zero c cs = refl
number_spaces (suc zero) c cs = number_space c cs
number_spaces (suc (suc k)) c cs = number_space space (replicate k space ++ (c ∷ cs)) ∙ number_spaces (suc k) c cs

-- ---- column by column
-- the last is a digit
pub spelt_last : (c : ℕ) → spelt (c ∷ []) ≡ is_digit c
unfolding spelt spell columns value_after same
spelt_last c =
    rw (zero-add (digit c), and-passed (eqb (zero_digit + digit c % 10) c))
    (both_ways _ _
    (λ t. subst (λ (b : ℕ). is_digit b ≡ true) (eqb-true (zero_digit + digit c % 10) c t) (digit_is (digit c % 10) (omega arith)))
    (λ t. eq-eqb (zero_digit + digit c % 10) c (omega (arith, digit_lt c, digit-byte c t))))

-- 0 in more columns than one starts with a space
zero_first : (c d : ℕ) (cs : List ℕ) → spelt (c ∷ d ∷ cs) ≡ true → value_after 0 (c ∷ d ∷ cs) ≡ 0 → c ≡ space
zero_first c d cs t z =
    let e : spell (suc (suc (length cs))) 0 ≡ c ∷ d ∷ cs = rw z at (spelt_true (c ∷ d ∷ cs) t) in
    ap (λ (l : List ℕ). get_or l 0 0) (sym e ∙ spell_wider (length cs) 0 (omega (arith, value_fits (d ∷ cs))))

spelt_first : (c d : ℕ) (cs : List ℕ) → eqb c space ≡ false → spelt (c ∷ d ∷ cs) ≡ is_first c && all_digits (d ∷ cs)
unfolding from_one
spelt_first c d cs e =
    let v = value_after 0 (c ∷ d ∷ cs) in
    let some : spelt (c ∷ d ∷ cs) ≡ true → 1 ≤ v =
    λ t. elim (ℕ_discrete v 0) [ yes z ↦ absurd (eqb-false c space e (zero_first c d cs t z)) | no z ↦ omega arith ] in
    let f : spelt (c ∷ d ∷ cs) ≡ from_one (c ∷ d ∷ cs) =
    both_ways _ _ (λ t. from_one_spelt (c ∷ d ∷ cs) t (some t)) (λ t. (spelt_from_one (c ∷ d ∷ cs) t).0) in
    rw e at f

-- before it a space, or a digit that is not 0 and then digits
pub spelt_more : (c d : ℕ) (cs : List ℕ) → spelt (c ∷ d ∷ cs) ≡ cond (eqb c space) (spelt (d ∷ cs)) (is_first c && all_digits (d ∷ cs))
spelt_more c d cs = go (eqb c space) refl
  where
    go : (z : Bool) → eqb c space ≡ z → spelt (c ∷ d ∷ cs) ≡ cond z (spelt (d ∷ cs)) (is_first c && all_digits (d ∷ cs))
    go true e = rw (eqb-true c space e) (spelt_space d cs)
    go false e = spelt_first c d cs e
