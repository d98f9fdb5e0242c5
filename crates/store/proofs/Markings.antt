-- Letters that become u place by place, where the map names their positions: what they say so far, and of the whole map.
use Prim.Native.Nat.{ℕ, zero, suc, ◌+◌, ◌<◌, ◌≤◌}
use native.Mathlib.Omega.{arith}
use native.Mathlib.Decide.{ℕ_discrete}
use native.Mathlib.Nat.{zero-add}
use mathlib.Core.Path.{◌≡◌, refl, sym, ap, ◌∙◌}
use mathlib.Core.Bool.{Bool, true, false, cond}
use mathlib.Core.List.{List, [], ◌∷◌}
use lib.Dec.{eqb, leb}
use lib.ListN.{length, get_or, set, replicate, length-map, length-replicate, get_or-replicate, get_or-map}
use lib.Seq.{get_or-set_same, get_or-set_other, ext_get_or}
use borrow.Author.Tests.{eqb-true, ne_eqb}
use Rattle.base.specs.Fold.{list_from}
use Rattle.base.proofs.Folds.{length-list_from, list_from_at}
use Rattle.page.specs.Plan.{places}
use Rattle.page.specs.Key.{positions}
use Rattle.page.specs.Entry.{used_letter}
use Rattle.store.specs.Record.{key_of, named_times, keys_apart}
use Rattle.store.specs.Testing.{Tallied}
use Rattle.store.specs.Rebuild.{mark, marks, Marked}
use Rattle.store.proofs.Names.{tallied-none, tallied_next, tallied_twice, tallied_all, tallied-apart}

-- ---- letters as a table: 1 at u, else 0
mark_at : (letters : List ℕ) (p : ℕ) → get_or (marks letters) p 0 ≡ mark (get_or letters p 0)
mark_at letters p = get_or-map mark letters p 0

mark_set : (letters : List ℕ) (k : ℕ) → marks (set letters k used_letter) ≡ set (marks letters) k 1
mark_set [] k = refl
mark_set (l ∷ ls) zero = refl
mark_set (l ∷ ls) (suc k) = ap (λ (r : List ℕ). mark l ∷ r) (mark_set ls k)

-- ---- letters that are their own table
pub marked_start : (map letters : List ℕ) (x : ℕ) → Tallied map (marks letters) x → Marked map letters letters x
marked_start map letters x t = record { tallied = t; kept = λ p h. own (get_or letters p 0) (eqb (get_or letters p 0) used_letter) refl }
  where
    own : (l : ℕ) (b : Bool) → eqb l used_letter ≡ b → l ≡ cond b used_letter l
    own l true e = eqb-true l used_letter e
    own l false e = refl

-- before the first place none is u
pub marked_none : (map letters : List ℕ) → length letters ≡ positions → ((p : ℕ) → p < positions → get_or letters p 0 ≡ used_letter → ⊥) → Marked map letters letters 0
marked_none map letters size none =
    let unused : (p : ℕ) → p < positions → eqb (get_or letters p 0) used_letter ≡ false = λ p h. ne_eqb _ _ (none p h) in
    let length-marks : length (marks letters) ≡ positions = length-map letters mark ∙ size in
    marked_start map letters 0
    (tallied-none map (marks letters)
    (ext_get_or 0 (marks letters) (replicate positions 0) (length-marks ∙ sym (length-replicate {A = ℕ} positions 0))
    (λ p h. let i : p < positions = omega arith in mark_at letters p ∙ rw (unused p i) (sym (get_or-replicate positions p 0 0 i)))))

-- there are as many letters as positions
pub marked_size : (map given letters : List ℕ) (x : ℕ) → Marked map given letters x → length letters ≡ positions
marked_size map given letters x m = sym (length-map letters mark) ∙ m.tallied.size

-- place x, whose key is k
module _ (map given letters : List ℕ) (x : ℕ) (inside : x < places) (marked : Marked map given letters x) (k : ℕ) (key : k ≡ key_of map x) where
  after : eqb (get_or letters k 0) used_letter ≡ false → (p : ℕ) → p < positions → Dec (p ≡ k) → get_or (set letters k used_letter) p 0 ≡ cond (eqb (get_or (set letters k used_letter) p 0) used_letter) used_letter (get_or given p 0)
  after z p h (yes e) =
      let size = marked_size map given letters x marked in
      let now : get_or (set letters k used_letter) p 0 ≡ used_letter = rw e (get_or-set_same letters k used_letter 0 (omega arith)) in
      rw now
  after z p h (no e) = rw (get_or-set_other letters k p used_letter 0 e) (marked.kept p h)

  -- not u before: it is now
  pub marked_next : (next : List ℕ) → eqb (get_or letters k 0) used_letter ≡ false → next ≡ set letters k used_letter → Marked map given next (x + 1)
  marked_next next z e =
      rw e
      (record {
        tallied = tallied_next map (marks letters) x inside marked.tallied (marks (set letters k used_letter)) k key (mark_at letters k ∙ rw z) (mark_set letters k);
        kept = λ p h. after z p h (ℕ_discrete p k);
      })

  -- u before: a key is named twice
  pub marked_twice : eqb (get_or letters k 0) used_letter ≡ true → keys_apart map ≡ false
  marked_twice z = tallied_twice map (marks letters) x inside marked.tallied k key (λ e. let one : get_or (marks letters) k 0 ≡ 1 = mark_at letters k ∙ rw z in omega arith)

-- ---- after the last place: no key is named twice, and u stands at the named positions
module _ (map given letters : List ℕ) (x : ℕ) (last : places ≤ x) (marked : Marked map given letters x) where
  pub marked_apart : keys_apart map ≡ true
  marked_apart = tallied-apart map (marks letters) x last marked.tallied

  pub marked_letters : letters ≡ list_from (λ p. cond (leb 1 (named_times map p)) used_letter (get_or given p 0)) positions 0
  marked_letters =
      let size = marked_size map given letters x marked in
      let letter : ℕ → ℕ = λ p. cond (leb 1 (named_times map p)) used_letter (get_or given p 0) in
      ext_get_or 0 letters (list_from letter positions 0) (size ∙ sym (length-list_from letter positions 0))
      (λ p h.
      let i : p < positions = omega arith in
      let times = tallied_all map (marks letters) x last marked.tallied p i ∙ mark_at letters p in
      marked.kept p i ∙ sym (list_from_at letter positions 0 p 0 i ∙ rw (zero-add, times) (go (eqb (get_or letters p 0) used_letter) (get_or given p 0))))
    where
      go : (u : Bool) (l : ℕ) → cond (leb 1 (cond u 1 0)) used_letter l ≡ cond u used_letter l
      go true l = refl
      go false l = refl
