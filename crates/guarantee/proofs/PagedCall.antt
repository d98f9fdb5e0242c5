-- A call that programs one page, as an event: whole or cut. Write and cut_off are such calls.
use Prim.Native.Nat.{ℕ, zero, suc, ◌+◌}
use native.Mathlib.Omega.{arith}
use mathlib.Core.Path.{◌≡◌, refl, sym, ap, ◌∙◌}
use mathlib.Core.Bool.{true}
use mathlib.Core.List.{List, [], ◌∷◌}
use lib.Dec.{T}
use lib.ListN.{length}
use Rattle.base.proofs.Choice.{true-false}
use Rattle.page.specs.Frame.{page_size}
use Rattle.image.specs.Size.{block_size}
use Rattle.image.specs.Step.{program, up_to, whole, play}
use Rattle.image.proofs.Step.{program-up_to-whole}
use Rattle.store.specs.Outcome.{Outcome, left}
use Rattle.store.specs.Mount.{mounted}
use Rattle.guarantee.specs.Call.{Call, Event, outcome_of, Fate, replied, cut}
use Rattle.guarantee.specs.Book.{Book, entered}
use Rattle.guarantee.specs.Origin.{Origin, bringer_in, byte_origin, trace_up_to, trace}
use Rattle.guarantee.specs.Unsettled.{unsettled_after}
use Rattle.guarantee.specs.Machine.{Machine, step}
use Rattle.store.proofs.IdleBlocks.{Idle}
use Rattle.guarantee.proofs.Sounds.{SomeEmpty, Sound, Settled}
use Rattle.guarantee.proofs.Steps.{Written, sound_later, written_sound, written_tight}
use Rattle.guarantee.proofs.Events.{later_noise, calls_next, fate_whole}

module _ (m : Machine) (call : Call) (g : ℕ) (page : List ℕ) (size : length page ≡ page_size) (steps_are : (outcome_of call m.image m.store).steps ≡ program g page ∷ []) where
  abbrev out : Outcome
  out = outcome_of call m.image m.store

  -- the book after the whole call, and after one cut at byte k of its step
  abbrev book_whole : Book
  book_whole = entered m.calls call (replied out.reply) m.book

  abbrev book_cut : ℕ → Book
  book_cut k = entered m.calls call (cut 0 k) m.book

  -- the page programmed up to byte k, and the origins then
  abbrev flash : ℕ → List ℕ
  flash k = up_to k (program g page) m.image

  abbrev origins : ℕ → ℕ → Origin
  origins k = trace_up_to (byte_origin m.book.bringer (bringer_in m.calls call m.book)) k (program g page) m.origin

  abbrev event : ℕ → ℕ → Event
  event n k = record { call = call; n = n; k = k }

  whole-step : whole (program g page) m.image ≡ up_to block_size (program g page) m.image
  whole-step = sym (program-up_to-whole block_size g page m.image size (omega arith))

  -- ---- power for the whole step
  whole-image : (n k : ℕ) → (step m (event (suc n) k)).image ≡ flash block_size
  unfolding step left play
  whole-image n k = rw steps_are whole-step

  whole-origin : (n k : ℕ) → (step m (event (suc n) k)).origin ≡ origins block_size
  unfolding step left play trace
  whole-origin n k = rw steps_are

  whole-book : (n k : ℕ) → (step m (event (suc n) k)).book ≡ book_whole
  unfolding step left
  whole-book n k = ap (λ (t : Fate). entered m.calls call t m.book) (fate_whole (event (suc n) k) out m.image (rw steps_are (omega arith)))

  whole-store : (n k : ℕ) → (step m (event (suc n) k)).store ≡ out.after
  unfolding step left
  whole-store n k = refl

  -- ---- power for k bytes
  cut-image : (k : ℕ) → (step m (event 0 k)).image ≡ flash k
  unfolding step left play
  cut-image k = rw steps_are

  cut-origin : (k : ℕ) → (step m (event 0 k)).origin ≡ origins k
  unfolding step left play trace
  cut-origin k = rw steps_are

  cut-book : (k : ℕ) → (step m (event 0 k)).book ≡ book_cut k
  unfolding step left
  cut-book k = rw steps_are

  cut_off : (k : ℕ) → T (step m (event 0 k)).on → ⊥
  unfolding step left
  cut_off k h = rw steps_are at h

  -- ---- no block is erased
  unsettled-same : (n k : ℕ) → (step m (event n k)).unsettled ≡ m.unsettled
  unfolding step unsettled_after
  unsettled-same zero k = rw steps_are
  unsettled-same (suc n) k = rw steps_are

  -- ---- what holds with the page whole, and with it cut at any byte, holds after the event
  paged : (P : List ℕ → Book → (ℕ → Origin) → Type 0) → P (flash block_size) book_whole (origins block_size) → ((k : ℕ) → P (flash k) (book_cut k) (origins k))
      → (n k : ℕ) → P (step m (event n k)).image (step m (event n k)).book (step m (event n k)).origin
  paged P full torn zero k = rw (cut-image k, cut-book k, cut-origin k) (torn k)
  paged P full torn (suc n) k = rw (whole-image n k, whole-book n k, whole-origin n k) full

  module _ (s : Settled m) (on : T m.on) (p : ℕ) (stored : out.after ≡ mounted (flash block_size)) (some : SomeEmpty (flash block_size))
      (written : Written m.image (flash block_size) m.book book_whole m.origin (origins block_size) m.noise p)
      (torn : (k : ℕ) → Sound (flash k) (book_cut k) (origins k) m.noise m.calls m.calls) where
    paged_sound : (n k : ℕ) → Sound (step m (event n k)).image (step m (event n k)).book (step m (event n k)).origin (step m (event n k)).noise (m.calls + 1) (m.calls + 1)
    paged_sound n k =
        sound_later _ _ _ m.noise (step m (event n k)).noise m.calls (m.calls + 1) m.calls (m.calls + 1) (omega arith) (omega arith) (later_noise m (event n k))
        (paged (λ img b o. Sound img b o m.noise m.calls m.calls) (written_sound _ _ _ _ _ _ m.noise _ m.calls s.sound (s.tight on) written) torn n k)

    unsettled_idle_lem : (n k b : ℕ) → (step m (event n k)).unsettled b ≡ true → Idle (step m (event n k)).image b
    unsettled_idle_lem n k b e = absurd (true-false (rw (unsettled-same n k) at e) (s.all_settled on b))

    pub paged_settled : (n k : ℕ) → Settled (step m (event n k))
    paged_settled zero k = record {
      sound = rw (calls_next m (event 0 k)) (paged_sound 0 k);
      good = λ h. absurd (cut_off k h);
      tight = λ h. absurd (cut_off k h);
      some_empty = λ h. absurd (cut_off k h);
      unsettled_idle = unsettled_idle_lem 0 k;
      all_settled = λ h. absurd (cut_off k h);
    }
    paged_settled (suc n) k =
        record {
          sound = rw (calls_next m (event (suc n) k)) (paged_sound (suc n) k);
          good = λ h. whole-store n k ∙ stored ∙ ap mounted (sym (whole-image n k));
          tight = λ h. rw (whole-image n k, whole-book n k, whole-origin n k) (written_tight _ _ _ _ _ _ m.noise _ m.calls s.sound (s.tight on) written);
          some_empty = λ h. rw (whole-image n k) some;
          unsettled_idle = unsettled_idle_lem (suc n) k;
          all_settled = λ h. rw (unsettled-same (suc n) k) (s.all_settled on);
        }
