-- `headers::is_header_like` compares all but the part with the first header.
use borrow.Author.Rules.{rules}
use Rattle.page.proofs.HeaderParts.{like_decides}
use Rattle.page.proofs.headers.is_header_like.Goals as goal

pub returns : goal.returns
returns c =
    let f = c.requires.first_value in
    rw (
      c.same.ensures,
      c.same-2.ensures,
      c.is_word4.ensures,
      c.spelt4.ensures,
      c.same-3.ensures,
      c.same-4.ensures,
      c.same-5.ensures,
    )
    (like_decides c.args.src.now c.args.first.now c.args.part f.0 (search rules) (search rules) f.1 f.2)
