-- The record that the pass over the pages leaves, tested and named: what the code finds in it.
use Prim.Native.Nat.{ℕ, ◌<◌}
use native.Mathlib.Omega.{arith}
use native.Mathlib.Nat.{zero-add}
use mathlib.Core.Path.{◌≡◌, refl, sym, ap, ◌∙◌}
use mathlib.Core.Bool.{Bool, true, false, cond, not, ◌||◌}
use mathlib.Core.List.{List}
use lib.Dec.{eqb, leb}
use lib.ListN.{get_or}
use Rattle.base.specs.Search.{all_from}
use Rattle.base.specs.Fold.{list_from}
use Rattle.base.proofs.Choice.{true-false}
use Rattle.base.proofs.Searches.{all_agree}
use Rattle.base.proofs.Folds.{list_from_at, list_from_agree}
use Rattle.page.specs.Plan.{places}
use Rattle.page.specs.Key.{positions}
use Rattle.page.specs.Entry.{free_letter, used_letter, deleted_letter}
use Rattle.store.specs.Record.{place_fits, named_times, keys_apart}
use Rattle.store.specs.Mount.{letter_in, mount_map, entries_fit, is_spent, unused_letter, mount_letter}
use Rattle.store.specs.Replay.{pass, Replayed}
use Rattle.store.specs.Rebuild.{mount_fits, Rebuilding}
use Rattle.std.specs.Prelude.{Option, Some, None, is_some, MatchOption}
use Rattle.store.specs.declared.replay.Seen.{Seen}
use Rattle.store.proofs.Decisions.{mount-sequence}

-- ---- refused with 14, or not
module _ (img : List ℕ) (c : ℕ) where
  pub entries_unfit : entries_fit img c ≡ false → mount_fits img c ≡ false
  entries_unfit e = rw e

  pub keys_unfit : entries_fit img c ≡ true → keys_apart (mount_map img c) ≡ false → mount_fits img c ≡ false
  keys_unfit e k = rw (e, k)

  pub both_fit : entries_fit img c ≡ true → keys_apart (mount_map img c) ≡ true → mount_fits img c ≡ true
  both_fit e k = rw (e, k)

-- where there is none, more is known of it; where there is one, the same
module _ {A : Type 0} (P C : Type 0) (Q R : A → Type 0) where
  pub none-more : (r : Option A) → is_some r ≡ false → MatchOption r P Q → C → MatchOption r (P × C) R
  none-more None e p c = (p, c)
  none-more (Some x) e p c = absurd (true-false refl e)

  pub some_same : (r : Option A) → is_some r ≡ true → MatchOption r P Q → MatchOption r C Q
  some_same None e p = absurd (true-false e refl)
  some_same (Some x) e p = p

-- ---- after the pass over the pages
module _ (img : List ℕ) (c : ℕ) (map letters scratch : List ℕ) (seen : Seen) (t : Replayed img c (pass map letters scratch seen)) where
  -- the scratch tells where the entry decides
  pub replayed_entries : (r : Bool) → r ≡ all_from (λ x. not (eqb (get_or scratch x 0) 0) || place_fits img map x) places 0 → r ≡ entries_fit img c
  unfolding entries_fit
  replayed_entries r e =
      e ∙ all_agree _ _ places 0 (λ x a b. let i : x < places = omega arith in rw (t.scratch, t.map, mount-sequence img c x i))

  -- no letter is u yet
  pub replayed_unused : (p : ℕ) → p < positions → get_or letters p 0 ≡ used_letter → ⊥
  replayed_unused p i e =
      go (not (eqb (letter_in img c p) free_letter) || is_spent img c p) (sym (ap (λ (l : List ℕ). get_or l p 0) t.letters ∙ list_from_at (unused_letter img c) positions 0 p 0 i ∙ ap (unused_letter img c) (zero-add p)) ∙ e)
    where
      go : (b : Bool) → cond b deleted_letter free_letter ≡ used_letter → ⊥
      go true e = omega arith
      go false e = omega arith

  -- u at the named positions gives mount's letters
  pub replayed_letters : list_from (λ p. cond (leb 1 (named_times map p)) used_letter (get_or letters p 0)) positions 0 ≡ list_from (mount_letter img c) positions 0
  unfolding mount_letter
  replayed_letters =
      list_from_agree _ _ positions 0
      (λ p a b. let i : p < positions = omega arith in rw (t.map, t.letters, list_from_at (unused_letter img c) positions 0 p 0 i, zero-add p))

  pub replayed_apart : (r : Bool) → r ≡ keys_apart map → r ≡ keys_apart (mount_map img c)
  replayed_apart r e = e ∙ ap keys_apart t.map

  pub rebuilding : (named : List ℕ) → mount_fits img c ≡ true → named ≡ list_from (λ p. cond (leb 1 (named_times map p)) used_letter (get_or letters p 0)) positions 0 → Rebuilding img c map named scratch seen
  rebuilding named f e =
      record { fit = f; map_made = t.map; letters_made = e ∙ replayed_letters; scratch_made = t.scratch; events_made = t.events; highest_made = t.highest }
