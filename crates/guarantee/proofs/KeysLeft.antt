-- Which keys are on the flash after a commit or wipe that is done, whatever was cut before it: those of payloads, and those that this call brought. So a wipe
-- that was cut needs no more than to be called again.
use Prim.Native.Nat.{ℕ, ◌<◌, ◌≤◌}
use native.Mathlib.Omega.{arith}
use native.Mathlib.Decide.{ℕ_discrete}
use mathlib.Core.Path.{◌≡◌, refl, sym, ap, ◌∙◌}
use mathlib.Core.Logic.{◌⊎◌, inl, inr}
use mathlib.Core.Bool.{Bool, true, false, cond, ◌&&◌}
use mathlib.Core.List.{List, [], ◌∷◌}
use mathlib.Core.Option.{Option, none, some}
use lib.Dec.{T, eqb}
use borrow.Author.Tests.{eq-eqb}
use Rattle.base.specs.Each.{Each}
use Rattle.base.proofs.Choice.{and_intro}
use Rattle.base.proofs.Searches.{any_intro}
use Rattle.page.specs.Plan.{places}
use Rattle.page.specs.Key.{positions}
use Rattle.page.specs.Entry.{free_letter, used_letter, deleted_letter}
use Rattle.store.specs.Mount.{removes, mounted}
use Rattle.store.specs.Reply.{Done}
use Rattle.store.proofs.Fits.{fits_is, used_live}
use Rattle.guarantee.specs.Call.{Call, mount, write, read, cut_off, commit, wipe, gather, Event, is_mount, lent_right, Fate, replied, made_whole}
use Rattle.guarantee.specs.Book.{Book, Holding, is_at_position, held_among, book_removed, book_renewed, book_freed, only_if, keys_done, commit_done, removal_done, book_committed, wipe_commit_at, entered}
use Rattle.guarantee.specs.Origin.{key_byte}
use Rattle.guarantee.specs.Machine.{Machine, step, fate_of, outcome_at, left_at}
use Rattle.guarantee.specs.Statement.{purges}
use Rattle.guarantee.specs.Handover.{Purge, after_purge, KeysUsedOrNew}
use Rattle.guarantee.proofs.Sounds.{Settled}
use Rattle.guarantee.proofs.Events.{calls_next}
use Rattle.guarantee.proofs.UsedKeys.{committed_renewed}
use Rattle.guarantee.proofs.Alterations.{kept_by, held_by}
use Rattle.guarantee.proofs.Histories.{end_of, History, while_on, next, at_end, standing, Mounting, remounted, remounted_book}
use Rattle.guarantee.proofs.InOrOut.{committed_files}
use Rattle.guarantee.proofs.Forgets.{finished_on, finished_book, OfRemovedKey}

-- ---- the book after a commit, or the commit in a wipe, that is done: a position is u, or its key is of this call
committed_mark : (c i p : ℕ) → p < positions → (b : Book) → ((book_committed c i (replied Done) b).mark p ≡ used_letter) ⊎ ((book_committed c i (replied Done) b).bringer p ≡ c)
unfolding book_committed book_freed book_renewed
committed_mark c i p below b = elim (ℕ_discrete (b.mark p) used_letter) [
  | yes u ↦ inl (rw u)
  | no u ↦ inr (committed_renewed p c i below b u)
]

purged-mark : (c p : ℕ) → p < positions → (b : Book) (call : Call) → T (purges call) → ((entered c call (replied Done) b).mark p ≡ used_letter) ⊎ ((entered c call (replied Done) b).bringer p ≡ c)
unfolding entered
purged-mark c p below b (mount map letters scratch) t = absurd t
purged-mark c p below b (write file offset payload) t = absurd t
purged-mark c p below b (read file offset output) t = absurd t
purged-mark c p below b (cut_off file offset) t = absurd t
purged-mark c p below b (commit noise) t = committed_mark c 0 p below b
purged-mark c p below b (wipe noise file offset) t = committed_mark c wipe_commit_at p below (book_removed file offset b)
purged-mark c p below b (gather block) t = absurd t

-- a position that is u is a payload's
pub used_held : (m : Machine) → Settled m → (p : ℕ) → p < positions → m.book.mark p ≡ used_letter → held_among (λ x. true) m.book p ≡ true
used_held m s p below u =
    let r = mounted m.image in
    let fit = fits_is m.image r s.sound.mountable.fit in
    let v = used_live m.image r fit s.sound.mountable.size p below (s.sound.marks p below ∙ u) in
    sym (held_by m s (λ x. true) p) ∙ kept_by m s (λ x. true) p v.0 v.1 refl v.2 v.3

-- ---- a purge
purging-lent : (call : Call) → T (purges call) → T (lent_right call)
purging-lent (mount map letters scratch) t = absurd t
purging-lent (write file offset payload) t = tt
purging-lent (read file offset output) t = tt
purging-lent (cut_off file offset) t = tt
purging-lent (commit noise) t = tt
purging-lent (wipe noise file offset) t = tt
purging-lent (gather block) t = absurd t

module _ (x : Purge) where
  abbrev after : Machine
  after = after_purge x

  pub purge-history : History (after_purge x)
  purge-history = next x.before x.history x.event (while_on x.before x.on (is_mount x.event.call), purging-lent x.event.call x.purging)

  pub purge-on : T (after_purge x).on
  purge-on = finished_on x.before x.event x.done

  pub purge-book : (after_purge x).book ≡ entered x.before.calls x.event.call (replied Done) x.before.book
  purge-book = finished_book x.before x.event x.done

  used_or_new : (p : ℕ) → p < positions → (after.book.mark p ≡ used_letter) ⊎ (after.book.bringer p ≡ x.before.calls)
  used_or_new p below = rw purge-book (purged-mark x.before.calls p below x.before.book x.event.call x.purging)

  -- every byte of a key that is on the flash is of a key that a payload has, or of one that this call brought
  pub keys_used_or_new : KeysUsedOrNew (after_purge x) x.before.calls
  keys_used_or_new a p d i q =
      let s = (at_end after purge-history purge-on).slotted a p d i q in
      go s.0 s.1 (used_or_new p s.0)
    where
      go : p < positions → d ≡ after.book.bringer p → (after.book.mark p ≡ used_letter) ⊎ (after.book.bringer p ≡ x.before.calls)
          → T (eqb d (after.book.bringer p) && held_among (λ x. true) after.book p) ⊎ (d ≡ x.before.calls)
      go below same (inl u) = inl (rw (eq-eqb d (after.book.bringer p) same, used_held after (standing after purge-history).settled p below u) tt)
      go below same (inr n) = inr (same ∙ n)

  -- an older key of a position that is not u is gone
  unused_gone : (a p d i : ℕ) → (after.book.mark p ≡ used_letter → ⊥) → d < x.before.calls → after.origin a ≡ key_byte p d i → ⊥
  unused_gone a p d i free older q =
      let s = (at_end after purge-history purge-on).slotted a p d i q in
      go s.1 (used_or_new p s.0)
    where
      go : d ≡ after.book.bringer p → (after.book.mark p ≡ used_letter) ⊎ (after.book.bringer p ≡ x.before.calls) → ⊥
      go same (inl u) = free u
      go same (inr n) = omega arith

-- ---- what commits and wipes, cut or not, make of a payload: it is there still, or its position is not u
abbrev Unused : ℕ → Book → Type 0
Unused p b = b.mark p ≡ used_letter → ⊥

abbrev ThereOrUnused : ℕ → Holding → Book → Type 0
ThereOrUnused x v b = (b.content x ≡ some v) ⊎ Unused v.position b

only_if_lem : (P : Book → Type 0) (t : Bool) (f : Book → Book) → ((b : Book) → P b → P (f b)) → (b : Book) → P b → P (only_if t f b)
only_if_lem P true f h b p = h b p
only_if_lem P false f h b p = p

renewed_unused : (c q p : ℕ) (b : Book) → Unused p b → Unused p (book_renewed c q b)
unfolding book_renewed
renewed_unused c q p b free = free

freed_unused : (p : ℕ) (b : Book) → Unused p b → Unused p (book_freed b)
unfolding book_freed
freed_unused p b free = go (eqb (b.mark p) deleted_letter)
  where
    go : (t : Bool) → cond t free_letter (b.mark p) ≡ used_letter → ⊥
    go true u = omega arith
    go false u = free u

committed_unused : (c i p : ℕ) (fate : Fate) (b : Book) → Unused p b → Unused p (book_committed c i fate b)
unfolding book_committed
committed_unused c i p fate b free =
    only_if_lem (Unused p) (made_whole fate (commit_done i)) book_freed (freed_unused p) _
    (only_if_lem (Unused p) (made_whole fate (keys_done i 1)) (book_renewed c 1) (renewed_unused c 1 p) _
    (only_if_lem (Unused p) (made_whole fate (keys_done i 0)) (book_renewed c 0) (renewed_unused c 0 p) b free))

module _ (x : ℕ) (v : Holding) where
  committed_there : (c i : ℕ) (fate : Fate) (b : Book) → ThereOrUnused x v b → ThereOrUnused x v (book_committed c i fate b)
  committed_there c i fate b (inl q) = inl (ap (λ (f : ℕ → Option Holding). f x) (committed_files c i fate b) ∙ q)
  committed_there c i fate b (inr free) = inr (committed_unused c i v.position fate b free)

  -- a removed payload's position is d
  removed_there : (file offset : ℕ) → x < places → (b : Book) → ThereOrUnused x v b → ThereOrUnused x v (book_removed file offset b)
  unfolding book_removed held_among
  removed_there file offset below b (inl q) = go (removes file offset x) refl
    where
      go : (t : Bool) → removes file offset x ≡ t → (cond t none (b.content x) ≡ some v)
          ⊎ (cond (held_among (removes file offset) b v.position) deleted_letter (b.mark v.position) ≡ used_letter → ⊥)
      go true r =
          let p = v.position in
          let here : is_at_position p (b.content x) ≡ true = rw q (eq-eqb p p refl) in
          let held = any_intro (λ y. removes file offset y && is_at_position p (b.content y)) places 0 x (omega arith) (omega (arith, below)) (and_intro _ _ r here) in
          inr (rw held (λ u. omega arith))
      go false r = inl q
  removed_there file offset below b (inr free) = inr (go (held_among (removes file offset) b v.position))
    where
      go : (t : Bool) → cond t deleted_letter (b.mark v.position) ≡ used_letter → ⊥
      go true u = omega arith
      go false u = free u

  wiped_there : (c : ℕ) (noise : List ℕ) (file offset : ℕ) (fate : Fate) → x < places → (b : Book) → ThereOrUnused x v b → ThereOrUnused x v (entered c (wipe noise file offset) fate b)
  unfolding entered
  wiped_there c noise file offset fate below b h =
      committed_there c wipe_commit_at fate _ (only_if_lem (ThereOrUnused x v) (made_whole fate removal_done) (book_removed file offset) (removed_there file offset below) b h)

  purged_there : (c : ℕ) (call : Call) → T (purges call) → x < places → (b : Book) → ThereOrUnused x v b → ThereOrUnused x v (entered c call (replied Done) b)
  unfolding entered
  purged_there c (mount map letters scratch) t below b h = absurd t
  purged_there c (write file offset payload) t below b h = absurd t
  purged_there c (read file offset output) t below b h = absurd t
  purged_there c (cut_off file offset) t below b h = absurd t
  purged_there c (commit noise) t below b h = committed_there c 0 (replied Done) b h
  purged_there c (wipe noise file offset) t below b h = wiped_there c noise file offset (replied Done) below b h
  purged_there c (gather block) t below b h = absurd t

-- a wipe that is done leaves nothing of the file from the offset on
pub wiped_none : (m : Machine) (e : Event) (noise : List ℕ) (file offset : ℕ) → e.call ≡ wipe noise file offset → (left_at m e).reply ≡ Done → (x : ℕ) → removes file offset x ≡ true
    → (step m e).book.content x ≡ none
unfolding entered book_removed
wiped_none m e noise file offset call done x r =
    ap (λ (b : Book). b.content x) (finished_book m e done) ∙ ap (λ (t : Call). (entered m.calls t (replied Done) m.book).content x) call
    ∙ ap (λ (f : ℕ → Option Holding). f x) (committed_files m.calls wipe_commit_at (replied Done) (book_removed file offset m.book)) ∙ rw r refl

-- ---- a wipe, cut or not; mounts, however often cut, of which the last finished; and then a commit or wipe that is done
calls_later : (m : Machine) (es : List Event) → m.calls ≤ (end_of m es).calls
calls_later m [] = omega arith
calls_later m (e ∷ es) = omega (arith, calls_next m e, calls_later (step m e) es)

module _ (m : Machine) (h : History m) (on : T m.on) (noise : List ℕ) (file offset n k : ℕ) (ms : List Event) (mounts : Each Mounting ms) where
  abbrev pub cut_wipe : Event
  cut_wipe = record { call = wipe noise file offset; n = n; k = k }

  abbrev pub remade : Machine
  remade = end_of (step m cut_wipe) ms

  remade_history : History remade
  remade_history = remounted (step m cut_wipe) (next m h cut_wipe (while_on m on false, tt)) ms mounts

  older : (p : ℕ) → m.book.bringer p < remade.calls
  older p = omega (arith, (standing m h).settled.sound.begun p, calls_next m cut_wipe, calls_later (step m cut_wipe) ms)

  remade_there : (x : ℕ) (v : Holding) → x < places → m.book.content x ≡ some v → ThereOrUnused x v remade.book
  unfolding step
  remade_there x v below held =
      rw (remounted_book (step m cut_wipe) ms mounts)
      (wiped_there x v m.calls noise file offset (fate_of cut_wipe (outcome_at m cut_wipe) (left_at m cut_wipe)) below m.book (inl held))

  module _ (on' : T remade.on) (e : Event) (purging : T (purges e.call)) (done : (left_at remade e).reply ≡ Done) where
    abbrev last : Purge
    last = record { before = remade; history = remade_history; on = on'; event = e; purging = purging; done = done }

    -- of every payload that there was before: it is there still, or no byte of its key is on the flash
    pub purge-after_cut-wipe : (x : ℕ) (v : Holding) → x < places → m.book.content x ≡ some v
        → ((step remade e).book.content x ≡ some v) ⊎ ((a i : ℕ) → (step remade e).origin a ≡ key_byte v.position (m.book.bringer v.position) i → ⊥)
    purge-after_cut-wipe x v below held = go (rw (purge-book last) (purged_there x v remade.calls e.call purging below remade.book (remade_there x v below held)))
      where
        go : ThereOrUnused x v (step remade e).book → ((step remade e).book.content x ≡ some v) ⊎ ((a i : ℕ) → (step remade e).origin a ≡ key_byte v.position (m.book.bringer v.position) i → ⊥)
        go (inl q) = inl q
        go (inr free) = inr (λ a i. unused_gone last a v.position (m.book.bringer v.position) i free (older v.position))

  -- the same wipe again, and done: no byte of a key of a payload that the first was to remove is on the flash
  pub wipe_again_forgets : T remade.on → (noise' : List ℕ) (n' k' : ℕ) → (left_at remade (record { call = wipe noise' file offset; n = n'; k = k' })).reply ≡ Done
      → (a : ℕ) → OfRemovedKey m file offset ((step remade (record { call = wipe noise' file offset; n = n'; k = k' })).origin a) → ⊥
  wipe_again_forgets on' noise' n' k' done a r = go (purge-after_cut-wipe on' again tt done r.place r.holding r.inside r.held)
    where
      again : Event
      again = record { call = wipe noise' file offset; n = n'; k = k' }

      go : ((step remade again).book.content r.place ≡ some r.holding)
          ⊎ ((a i : ℕ) → (step remade again).origin a ≡ key_byte r.holding.position (m.book.bringer r.holding.position) i → ⊥) → ⊥
      go (inl q) = let gone = wiped_none remade again noise' file offset refl done r.place r.removed in let t : ◌≡◌ {A = ℕ} 0 1 = cc in omega arith
      go (inr none_left) = none_left a r.byte r.origin
