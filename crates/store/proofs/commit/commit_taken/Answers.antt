-- The stages are run with what power there is, on clean letters.
use mathlib.Core.Path.{ap, ◌∙◌}
use Rattle.store.specs.Record.{record_of}
use Rattle.store.specs.Stages.{at_work, renewed}
use Rattle.store.proofs.Spares.{keys0_chosen, keys1_chosen}
use Rattle.store.proofs.Renewals.{begin_able, begin-spare, sequence-some, commit-left}
use Rattle.store.proofs.commit.commit_taken.Goals as goal

pub renew-requires : goal.renew-requires
renew-requires c =
    let a = c.args in
    let t = c.requires.0 in
    let r = record_of a.map.now a.letters.now a.numbers in
    rw c.begin-begun.ensures
    (record {
      able = (begin_able a.image.now r t.ready t.room, c.requires.1 ∙ begin-spare a.image.now r t.ready t.room, keys0_chosen a.numbers, keys1_chosen a.numbers);
      le_sequence = (sequence-some a.image.now r t.ready, t.numbers_left);
    })

pub returns : goal.returns
returns c =
    let a = c.args in
    let r = record_of a.map.now a.letters.now a.numbers in
    let w = c.clean in
    rw c.answer.ensures
    (commit-left a.image.now r a.noise.now a.n a.k _ _ _ _ c.requires.0 w.ensures (c.renew.ensures ∙ ap (λ p. renewed a.map.now w.new.letters a.noise.now a.numbers (at_work p a.image.now)) c.begin-begun.ensures))
