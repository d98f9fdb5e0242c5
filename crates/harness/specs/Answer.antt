-- What an entry point answers: a reply, and what the lent buffer then holds. Where a length or an argument is wrong the
-- reply is 255 and the buffer stays as it was.
use Rattle.std.specs.Prelude.{Bool, cond, List, ℕ}

pub record Answer : Type 0 where
  pub reply : ℕ
  pub buffer : List ℕ

abbrev pub answer : ℕ → List ℕ → Answer
answer r xs = record { reply = r; buffer = xs }

abbrev pub done : ℕ
done = 0

abbrev pub refused : ℕ
refused = 255

-- a, where the arguments are right; else refused, and xs as it was
abbrev pub answer_if : Bool → List ℕ → Answer → Answer
answer_if right xs a = cond right a (answer refused xs)
