-- What the entry points into the crate `chip` answer: a reply, the image, and the registers as numbers.
use Rattle.std.specs.Prelude.{ℕ, List}
use Rattle.chip.specs.Driver.{Driven, drove_program, drove_erase}
use Rattle.chip.specs.Numbers.{set_of, five_of}

pub record Answered : Type 0 where
  pub reply : ℕ
  pub image : List ℕ
  pub five : List ℕ
  pub page : List ℕ

abbrev pub driven : ℕ → List ℕ → List ℕ → List ℕ → Answered
driven reply img five page = record { reply = reply; image = img; five = five; page = page }

unfoldable pub answer_of : Driven → Answered
answer_of d = driven d.reply d.end.image (five_of d.end.registers) d.end.registers.page

-- the program of a page, and the erase of a block
unfoldable pub program_answer : ℕ → List ℕ → List ℕ → List ℕ → List ℕ → Answered
program_answer g bytes img five page = answer_of (drove_program g bytes (set_of five page) img)

unfoldable pub erase_answer : ℕ → List ℕ → List ℕ → List ℕ → Answered
erase_answer b img five page = answer_of (drove_erase b (set_of five page) img)
