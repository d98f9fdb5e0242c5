-- `headers::is_file` compares three columns as the last bytes of words of four.
use Rattle.page.proofs.HeaderParts.{file_decides}
use borrow.Author.Rules.{rules}
use Rattle.page.proofs.headers.is_file.Goals as goal

pub returns : goal.returns
returns c =
    let a = c.args in
    file_decides a.src.now c.word4.result a.text a.file c.word4.ensures c.requires (search rules) (search rules)
