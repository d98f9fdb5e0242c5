-- `text::Text::put_number` writes its columns after the text so far.
use Prim.Native.Nat.{◌+◌}
use native.Mathlib.Omega.{arith}
use borrow.Author.Rules.{rules}
use mathlib.Core.Path.{◌≡◌, refl, ap, ◌∙◌}
use lib.ListN.{length, take}
use Rattle.listing.specs.Listing.{text_size}
use Rattle.page.specs.Column.{spell}
use Rattle.page.proofs.Column.{length-spell}
use Rattle.listing.proofs.Texts.{take_more}
use Rattle.listing.proofs.text.Text.put_number.Goals as goal

pub returns : goal.returns
returns c =
    let a = c.args in
    let t = a.self.now in
    let l : length t.bytes ≡ text_size = search rules in
    (refl, ap (take (t.length + a.w)) c.put_at.ensures ∙ take_more t.bytes (spell a.w a.n) t.length a.w (omega (arith, l, c.requires.0)) (length-spell a.w a.n c.requires.1))
