-- `page::writers::write_with` meets its contract: the three parts are written one after the other, then the page is cut.
use borrow.Author.Rules.{rules}
use mathlib.Core.Path.{refl, ap, ◌∙◌}
use lib.ListN.{length}
use lib.Seq.{length-take-le}
use Rattle.page.specs.Frame.{payload_size}
use Rattle.page.specs.Page.{cut_page}
use Rattle.page.proofs.Pages.{like_written}
use Rattle.page.proofs.writers.write_with.Goals as goal

pub put-requires : goal.put-requires
put-requires g c =
    let h = rw c.unwrap-2.ensures at c.first_chunk_mut.ensures.cases in
    let t = c.requires _ (ap length h.same ∙ length-take-le payload_size _ h.enough) in
    search (rules, t)

pub returns : goal.returns
returns g c payload long told =
    let a = c.args in
    let h = rw c.unwrap-2.ensures at c.first_chunk_mut.ensures.cases in
    let e = told _ _ (ap length h.same ∙ length-take-le payload_size _ h.enough) (record { shown = _; shows = refl; left = _; met = c.put.ensures; leaves = refl }) in
    c.cut.ensures
    ∙ ap (cut_page a.k)
    (c.close.ensures
    ∙ rw (c.write_header_like.ensures, e) (like_written a.header.now a.part payload (search rules) long _))
