-- `store::replay::replay_form` meets its contract: a page changes the lists by its form.
use mathlib.Core.Path.{sym, ap, ◌∙◌}
use mathlib.Core.Logic.{⊎_elim}
use native.Mathlib.Omega.{arith}
use Rattle.page.specs.declared.Form.TheVariants.{Whole, Torn}
use Rattle.store.specs.Kind.{headed}
use Rattle.store.specs.Replay.{pass}
use Rattle.store.proofs.BlockKinds.{whole_in_range, torn-in_range}
use Rattle.store.proofs.Replays.{page_idle, page_most, whole-passed, torn-passed}
use Rattle.store.proofs.replay.replay_form.Goals as goal
use Rattle.store.proofs.replay.replay_form.Goals.{in-Whole, in-Torn}

pub apply_event-requires : goal.apply_event-requires
apply_event-requires c =
    let a = c.args in
    ((page_most a.image.now a.g c.requires.0 c.requires.1).1, whole_in_range a.image.now a.g _ (sym c.event_form_at.ensures ∙ c.in-Whole.is))

pub returns-in-Empty : goal.returns-in-Empty
returns-in-Empty c =
    let a = c.args in
    let most = page_most a.image.now a.g c.requires.0 c.requires.1 in
    page_idle a.image.now a.covered a.g (pass a.map.now a.letters.now a.scratch.now a.seen.now) (omega (arith, most.0))
    (ap headed (sym c.event_form_at.ensures) ∙ ⊎_elim (λ e. ap headed e) (λ e. ap headed e) c.in-Empty.is)

pub spend_key-requires : goal.spend_key-requires
spend_key-requires c =
    let a = c.args in
    elim c.match-event_form_at.branch [
      | in-Whole w ↦ rw w.f-is (whole_in_range a.image.now a.g _ (sym c.event_form_at.ensures ∙ w.in-Whole.is))
      | in-Torn w ↦ rw w.f-is (torn-in_range a.image.now a.g _ (sym c.event_form_at.ensures ∙ w.in-Torn.is))
    ]

pub returns : goal.returns
returns c =
    let a = c.args in
    let m = c.match-event_form_at in
    let t = pass a.map.now a.letters.now a.scratch.now a.seen.now in
    let most = page_most a.image.now a.g c.requires.0 c.requires.1 in
    elim m.branch [
      | in-Whole w ↦ whole-passed a.image.now a.covered a.g m.f t _ c.requires.2 (omega (arith, most.0)) c.spend_key.ensures c.note.ensures c.max-seen.ensures
          (sym c.event_form_at.ensures ∙ w.in-Whole.is ∙ ap Whole (sym w.f-is)) (rw (w.f-is, w.map-is, w.scratch-is) w.apply_event.ensures)
      | in-Torn w ↦ torn-passed a.image.now a.covered a.g m.f t _ c.requires.2 (omega (arith, most.0)) c.spend_key.ensures c.note.ensures c.max-seen.ensures
          (sym c.event_form_at.ensures ∙ w.in-Torn.is ∙ ap Torn (sym w.f-is)) w.map-is w.scratch-is
    ]

pub note-requires : goal.note-requires
note-requires c = (page_most c.args.image.now c.args.g c.requires.0 c.requires.1).0
