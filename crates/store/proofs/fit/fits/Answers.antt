-- `store::fit::fits` meets its contract: the same tests in the same order; the letters go by the table of named positions.
use native.Mathlib.Omega.{arith}
use mathlib.Core.Path.{refl, sym, ◌∙◌}
use Rattle.image.proofs.Looks.{sized}
use Rattle.store.specs.Record.{fits as record_fits}
use Rattle.store.proofs.Names.{letters_by_table}
use Rattle.store.proofs.fit.fits.Goals as goal

pub returns-then-not-numbers_fit : goal.returns-then-not-numbers_fit
unfolding record_fits
returns-then-not-numbers_fit c = rw (sym c.numbers_fit.ensures ∙ c.if-not-numbers_fit.true)

pub blocks_fit-requires : goal.blocks_fit-requires
blocks_fit-requires c = omega (arith, sized c.args.image.now c.requires)

pub returns-then-not-blocks_fit : goal.returns-then-not-blocks_fit
unfolding record_fits
returns-then-not-blocks_fit c =
    rw (sym c.numbers_fit.ensures ∙ c.if-not-numbers_fit.false, sym c.blocks_fit.ensures ∙ c.if-not-blocks_fit.true)

pub places_fit-requires : goal.places_fit-requires
places_fit-requires c = (omega (arith, sized c.args.image.now c.requires), refl)

pub returns-then-not-places_fit : goal.returns-then-not-places_fit
unfolding record_fits
returns-then-not-places_fit c =
    rw (sym c.numbers_fit.ensures ∙ c.if-not-numbers_fit.false, sym c.blocks_fit.ensures ∙ c.if-not-blocks_fit.false, sym c.places_fit.ensures.0 ∙ c.if-not-places_fit.true)

pub returns : goal.returns
unfolding record_fits
returns c =
    let a = c.args in
    let by = c.places_fit in
    let t = c.if-not-places_fit.false in
    rw (sym c.numbers_fit.ensures ∙ c.if-not-numbers_fit.false, sym c.blocks_fit.ensures ∙ c.if-not-blocks_fit.false, sym by.ensures.0 ∙ t)
    (c.letters_fit.ensures ∙ letters_by_table a.lent.map.now a.lent.letters.now by.new.named (by.ensures.1 t))
