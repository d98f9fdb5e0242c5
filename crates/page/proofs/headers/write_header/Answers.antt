-- `headers::write_header` writes five numbers, colon and space, and the kind letter before them.
use borrow.Author.Rules.{rules}
use Rattle.page.proofs.HeaderLaws.{header_written}
use Rattle.page.proofs.headers.write_header.Goals as goal

pub returns : goal.returns
returns c =
    rw (
      c.copy.ensures,
      c.put_columns-5.ensures,
      c.put_columns-4.ensures,
      c.put_columns-3.ensures,
      c.put_columns-2.ensures,
      c.put_columns.ensures,
    )
    (header_written c.args.dst.now c.args.f (search rules))
