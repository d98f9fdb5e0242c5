-- `store::replay::replay_page` meets its contract: a page that begins with another byte than N and D changes nothing; any other does by its form.
use mathlib.Core.Path.{sym, ap, ◌∙◌}
use native.Mathlib.Omega.{arith}
use Rattle.page.specs.Header.{is_event_letter}
use Rattle.store.specs.Replay.{pass}
use Rattle.store.proofs.BlockKinds.{unheaded}
use Rattle.store.proofs.Replays.{page_idle, page_most}
use Rattle.store.proofs.replay.replay_page.Goals as goal

pub returns-then-not-is_event_letter : goal.returns-then-not-is_event_letter
returns-then-not-is_event_letter c =
    let a = c.args in
    let most = page_most a.image.now a.g c.requires.0 c.requires.1 in
    page_idle a.image.now a.covered a.g (pass a.map.now a.letters.now a.scratch.now a.seen.now) (omega (arith, most.0))
    (unheaded a.image.now a.g (ap is_event_letter (sym c.letter_at.ensures) ∙ sym c.is_event_letter.ensures ∙ c.if-not-is_event_letter.true))
