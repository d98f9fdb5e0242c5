-- `page::writers::write_part` meets its contract: the payload of the part is put together in place.
use borrow.Author.Rules.{rules}
use Rattle.page.specs.Entry.{commit_payload}
use Rattle.page.proofs.Commits.{payload-length}
use Rattle.page.proofs.writers.write_part.Goals as goal

pub returns : goal.returns
returns c =
    let a = c.args in
    c.write_with.ensures (commit_payload a.map.now a.letters.now a.i) (payload-length a.map.now a.letters.now a.i (search rules))
    (λ before after long w. search rules)
