-- `store::replay::replay` meets its contract: the pass begins with what the commit says, and then the pages do their part.
use native.Mathlib.Omega.{arith}
use mathlib.Core.Path.{refl}
use mathlib.Core.Bool.{false}
use lib.ListN.{replicate}
use Rattle.image.specs.Size.{most_blocks}
use Rattle.store.specs.Replay.{pass}
use Rattle.store.proofs.Replays.{commit_held, replayed}
use Rattle.store.proofs.replay.replay.Goals as goal

pub read_entries-requires : goal.read_entries-requires
read_entries-requires c =
    commit_held c.args.image.now c.args.c c.requires.1.0 c.args.covered c.requires.0 c.requires.1.1

pub read_letters-requires : goal.read_letters-requires
read_letters-requires c =
    commit_held c.args.image.now c.args.c c.requires.1.0 c.args.covered c.requires.0 c.requires.1.1

pub returns : goal.returns
returns c =
    let a = c.args in
    let places = c.read_entries in
    let letters = c.read_letters in
    let pages = c.replay_pages in
    replayed a.image.now a.c c.requires.1.0 a.covered c.requires.0 c.requires.1.1
    (pass places.new.map letters.new.letters places.new.scratch (record { events = replicate most_blocks false; highest = 0 })) _
    (record { place = places.ensures; letter = letters.ensures; events = refl; highest = refl })
    pages.ensures
    (record { map = omega arith; letters = omega arith; scratch = omega arith })
