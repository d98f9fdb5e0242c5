-- `headers::read_event` compares four spaces and the end with their spelling, and reads the numbers, all but the first by pairs.
use borrow.Author.Rules.{rules}
use mathlib.Core.Path.{◌≡◌, sym, ◌∙◌}
use mathlib.Core.Bool.{Bool, true}
use mathlib.Core.List.{List}
use Prim.Native.Nat.{ℕ}
use Rattle.base.specs.Part.{part}
use Rattle.base.specs.Each.{same}
use lib.ListN.{length}
use Rattle.page.specs.Frame.{header_size, colon_space}
use Rattle.page.specs.Word.{word_bytes}
use Rattle.page.specs.Header.{header_of}
use Rattle.page.proofs.HeaderLaws.{then_if, four_spaces, no_second, no_colon, event_header, event-read}
use Rattle.page.proofs.headers.read_event.Goals as goal

-- past both tests the header is read by pairs
past : (xs : List ℕ) (second colon : Bool) → length xs ≡ header_size → second ≡ same (part xs 20 4) four_spaces → second ≡ true
    → colon ≡ same (part xs 28 2) colon_space → colon ≡ true → header_of xs ≡ event_header xs
past xs second colon l e p f q = event-read xs l (sym e ∙ p) (sym f ∙ q)

pub returns-then-not-is_word4 : goal.returns-then-not-is_word4
unfolding part word_bytes
returns-then-not-is_word4 c =
    sym (no_second c.args.src.now (search rules) c.requires (sym c.is_word4.ensures ∙ c.if-not-is_word4.true))

pub returns-then-not-same : goal.returns-then-not-same
unfolding part
returns-then-not-same c =
    sym (no_colon c.args.src.now (sym c.same.ensures ∙ c.if-not-same.true))

pub returns-in_err-number : goal.returns-in_err-number
unfolding part word_bytes
returns-in_err-number c =
    let xs = c.args.src.now in
    let read = past xs _ _ (search rules) c.is_word4.ensures c.if-not-is_word4.false c.same.ensures c.if-not-same.false in
    rw (c.from_residual.ensures, read, ← c.in_err-number.ensures)

pub returns-in_err-unit : goal.returns-in_err-unit
unfolding part word_bytes
returns-in_err-unit c =
    let xs = c.args.src.now in
    let read = past xs _ _ (search rules) c.is_word4.ensures c.if-not-is_word4.false c.same.ensures c.if-not-same.false in
    rw (c.from_residual-in_err-unit.ensures, read, ← c.in_ok-number.ensures, ← c.in_err-unit.ensures)

pub returns-in_err-key : goal.returns-in_err-key
unfolding part word_bytes
returns-in_err-key c =
    let xs = c.args.src.now in
    let read = past xs _ _ (search rules) c.is_word4.ensures c.if-not-is_word4.false c.same.ensures c.if-not-same.false in
    rw (c.from_residual-in_err-key.ensures, read, ← c.in_ok-number.ensures, ← c.in_ok-unit.ensures, ← c.in_err-key.ensures)

pub returns : goal.returns
unfolding part word_bytes
returns c =
    let xs = c.args.src.now in
    let read = past xs _ _ (search rules) c.is_word4.ensures c.if-not-is_word4.false c.same.ensures c.if-not-same.false in
    rw (read, ← c.in_ok-number.ensures, ← c.in_ok-unit.ensures, ← c.in_ok-key.ensures, ← c.event_in_range.ensures)
    (c.then_some.ensures ∙ then_if c.event_in_range.result _)
