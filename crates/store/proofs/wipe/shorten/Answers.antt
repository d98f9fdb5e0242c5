-- The removed nodes are gone from map and letters before the commit block is made of them.
use mathlib.Core.Path.{ap, ◌∙◌}
use Rattle.store.specs.Record.{record_of}
use Rattle.store.specs.Stages.{at_work, commit_moved}
use Rattle.store.proofs.Calls.{key_below}
use Rattle.store.proofs.Spares.{commit_next}
use Rattle.store.proofs.Renewals.{begin_able, begin-spare, sequence-some, first_left}
use Rattle.store.proofs.wipe.shorten.Goals as goal

pub remove-requires : goal.remove-requires
remove-requires c =
    let a = c.args in
    let t = c.requires.0 in
    (c.requires.1, key_below a.image.now (record_of a.map.now a.letters.now a.numbers) t)

pub replace_commit-shorter-requires : goal.replace_commit-shorter-requires
replace_commit-shorter-requires c =
    let a = c.args in
    let t = c.requires.0 in
    let r = record_of a.map.now a.letters.now a.numbers in
    rw c.begin-begun.ensures
    (begin_able a.image.now r t c.requires.3, sequence-some a.image.now r t, c.requires.4 ∙ begin-spare a.image.now r t c.requires.3)

pub next_epoch-requires : goal.next_epoch-requires
next_epoch-requires c =
    let a = c.args in
    let w = c.remove in
    rw (commit_next w.new.map w.new.letters a.image.now _ _ _ a.numbers _ _ c.replace_commit-shorter.ensures, c.begin-begun.ensures) c.requires.2

pub returns : goal.returns
returns c =
    let a = c.args in
    let r = record_of a.map.now a.letters.now a.numbers in
    let w = c.remove in
    let moved = c.replace_commit-shorter.ensures ∙ ap (λ p. commit_moved w.new.map w.new.letters a.numbers (at_work p a.image.now)) c.begin-begun.ensures in
    first_left a.image.now r a.file a.offset c.requires.0 c.requires.3 a.n a.k _ _ _ _ _ _ _ (w.ensures a.numbers) moved c.clean.ensures c.next_epoch.ensures
