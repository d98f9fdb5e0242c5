-- `forms::is_whole_like` meets its contract: the header and the closing.
use Rattle.page.proofs.FormLaws.{whole_is}
use Rattle.page.proofs.HeaderParts.{whole_like_decides}
use Rattle.page.proofs.forms.is_whole_like.Goals as goal

pub is_header_like-like-requires-clause-first_value : goal.is_header_like-like-requires-clause-first_value
is_header_like-like-requires-clause-first_value c =
    let f = c.requires.first_value in
    (f.0, rw c.array_at.ensures (whole_is c.args.first.now f.0 f.1).0, f.2)

pub returns : goal.returns
returns c =
    let f = c.requires.first_value in
    rw (c.is_header_like-like.ensures, c.is_closed.ensures, c.array_at.ensures, c.array_at-2.ensures)
    (whole_like_decides c.args.first.now c.args.page.now c.args.part f.0 f.1)
