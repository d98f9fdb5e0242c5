-- After the pass over the pages: the entries, then the keys.
use native.Mathlib.Omega.{arith}
use mathlib.Core.Path.{sym, ◌∙◌}
use Rattle.image.proofs.Looks.{sized}
use Rattle.store.proofs.Rebuilds.{entries_unfit, keys_unfit, both_fit, replayed_entries, replayed_unused, replayed_apart, rebuilding}
use Rattle.store.proofs.rebuild.replay_fit.Goals as goal

pub entries_fit-requires : goal.entries_fit-requires
entries_fit-requires c = omega (arith, (sized c.args.image.now c.requires.0).full)

pub returns-then-not-entries_fit : goal.returns-then-not-entries_fit
returns-then-not-entries_fit c =
    let a = c.args in
    let e = replayed_entries a.image.now a.c _ _ _ _ c.replay-seen.ensures _ c.entries_fit.ensures in
    entries_unfit a.image.now a.c (sym e ∙ c.if-not-entries_fit.true)

pub use_keys-requires : goal.use_keys-requires
use_keys-requires c =
    let a = c.args in
    replayed_unused a.image.now a.c _ _ _ _ c.replay-seen.ensures

pub returns-then-not-use_keys : goal.returns-then-not-use_keys
returns-then-not-use_keys c =
    let a = c.args in
    let t = c.replay-seen.ensures in
    let e = replayed_entries a.image.now a.c _ _ _ _ t _ c.entries_fit.ensures in
    let k = replayed_apart a.image.now a.c _ _ _ _ t _ c.use_keys.ensures.0 in
    keys_unfit a.image.now a.c (sym e ∙ c.if-not-entries_fit.false) (sym k ∙ c.if-not-use_keys.true)

pub returns : goal.returns
returns c =
    let a = c.args in
    let t = c.replay-seen.ensures in
    let e = replayed_entries a.image.now a.c _ _ _ _ t _ c.entries_fit.ensures in
    let u = c.use_keys.ensures in
    let k = replayed_apart a.image.now a.c _ _ _ _ t _ u.0 in
    let f = both_fit a.image.now a.c (sym e ∙ c.if-not-entries_fit.false) (sym k ∙ c.if-not-use_keys.false) in
    rebuilding a.image.now a.c _ _ _ _ t _ f (u.1 c.if-not-use_keys.false)
