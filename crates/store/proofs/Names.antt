-- A table of the positions that the places of a map name, filled place by place: what it says so far, and of the whole map.
use Prim.Native.Nat.{ℕ, zero, suc, ◌+◌, ◌<◌, ◌≤◌}
use native.Mathlib.Omega.{arith}
use native.Mathlib.Decide.{ℕ_discrete, dec_lt}
use native.Mathlib.Nat.{zero-add, add-zero}
use native.Mathlib.Numerals.{add-one}
use mathlib.Core.Path.{◌≡◌, refl, sym, ap, ◌∙◌}
use mathlib.Core.Bool.{Bool, true, false, cond, beq, ◌&&◌}
use mathlib.Core.List.{List}
use lib.Dec.{eqb, leb}
use lib.ListN.{length, get_or, set, replicate, length-set, length-replicate, get_or-replicate, get_or-eq_default}
use lib.Seq.{get_or-set_same, get_or-set_other, set_out}
use borrow.Author.Tests.{eqb-true, eq-eqb, ne_eqb, le-leb, lt-leb}
use Rattle.base.specs.Search.{all_from}
use Rattle.base.proofs.Choice.{and-true, true-false}
use Rattle.base.proofs.Searches.{count_next, count_none, all_holds, all_intro, all_agree}
use Rattle.page.specs.Plan.{places}
use Rattle.page.specs.Key.{positions}
use Rattle.page.specs.Entry.{none, is_letter, used_letter}
use Rattle.store.specs.Record.{page_of, key_of, vacant_at, named_times, keys_apart, letters_fit}
use Rattle.store.specs.Testing.{named_from, Tallied}

-- ---- before the first place
zeros : (n : ℕ) (named : List ℕ) → named ≡ replicate n 0 → (length named ≡ n) × ((p : ℕ) → p < n → get_or named p 0 ≡ 0)
zeros n named e = (ap length e ∙ length-replicate n 0, λ p h. rw e (get_or-replicate n p 0 0 h))

pub tallied-none : (map named : List ℕ) → named ≡ replicate positions 0 → Tallied map named 0
unfolding named_times
tallied-none map named e =
    let z = zeros positions named e in
    record {
      size = z.0;
      few = λ p h. omega (arith, z.1 p h);
      times = λ p h. rw (z.1 p h) (sym (zero-add _));
    }

-- ---- place x, whose key is k
module _ (map named : List ℕ) (x : ℕ) (inside : x < places) (tallied : Tallied map named x) where
  marked : (p : ℕ) → p < positions → get_or named (key_of map x) 0 ≡ 0 → Dec (p ≡ key_of map x)
      → (get_or (set named (key_of map x) 1) p 0 ≤ 1) × (named_times map p ≡ get_or (set named (key_of map x) 1) p 0 + named_from map (x + 1) p)
  marked p h z (yes e) =
      let size = tallied.size in
      let now : get_or (set named (key_of map x) 1) p 0 ≡ 1 = rw e (get_or-set_same named (key_of map x) 1 0 (omega arith)) in
      let before : get_or named p 0 ≡ 0 = rw e z in
      let here : ◌≡◌ {A = ℕ} (cond (eqb (key_of map x) p) 1 0) 1 = rw (eq-eqb (key_of map x) p (sym e)) in
      (omega arith, omega (arith, tallied.times p h, count_next (λ y. eqb (key_of map y) p) places x inside))
  marked p h z (no e) =
      let now : get_or (set named (key_of map x) 1) p 0 ≡ get_or named p 0 = get_or-set_other named (key_of map x) p 1 0 e in
      let here : ◌≡◌ {A = ℕ} (cond (eqb (key_of map x) p) 1 0) 0 = rw (ne_eqb (key_of map x) p (λ q. e (sym q))) in
      (omega (arith, tallied.few p h), omega (arith, tallied.times p h, count_next (λ y. eqb (key_of map y) p) places x inside))

  -- not named before: it is marked
  pub tallied_next : (next : List ℕ) (k : ℕ) → k ≡ key_of map x → get_or named k 0 ≡ 0 → next ≡ set named k 1 → Tallied map next (x + 1)
  tallied_next next k a z e =
      rw (e, a)
      (let y : get_or named (key_of map x) 0 ≡ 0 = rw a at z in
      let m : (p : ℕ) → p < positions → (get_or (set named (key_of map x) 1) p 0 ≤ 1) × (named_times map p ≡ get_or (set named (key_of map x) 1) p 0 + named_from map (x + 1) p)
      = λ p h. marked p h y (ℕ_discrete p (key_of map x)) in
      record { size = length-set named (key_of map x) 1 ∙ tallied.size; few = λ p h. (m p h).0; times = λ p h. (m p h).1 })

  -- a key that is none is no position: nothing is marked
  pub tallied_unnamed : key_of map x ≡ none → Tallied map named (x + 1)
  tallied_unnamed e =
      let size = tallied.size in
      tallied_next named (key_of map x) refl (get_or-eq_default named 0 (omega arith)) (sym (set_out named (key_of map x) 1 (omega arith)))

  -- named before: a key is named twice
  pub tallied_twice : (k : ℕ) → k ≡ key_of map x → (get_or named k 0 ≡ 0 → ⊥) → keys_apart map ≡ false
  unfolding keys_apart
  tallied_twice k a z = go (all_from (λ p. leb (named_times map p) 1) positions 0) refl
    where
      position : k < positions
      position =
          elim (dec_lt k positions) [
            | yes h ↦ h
            | no h ↦ absurd (z (get_or-eq_default named 0 (let size = tallied.size in omega arith)))
          ]

      twice : 1 < named_times map k
      twice =
          let here : ◌≡◌ {A = ℕ} (cond (eqb (key_of map x) k) 1 0) 1 = rw (eq-eqb (key_of map x) k (sym a)) in
          omega (arith, z, tallied.times k position, count_next (λ y. eqb (key_of map y) k) places x inside)

      go : (b : Bool) → all_from (λ p. leb (named_times map p) 1) positions 0 ≡ b → b ≡ false
      go true e = absurd (true-false (all_holds (λ p. leb (named_times map p) 1) positions 0 k e (omega arith) (omega (arith, position))) (lt-leb _ _ twice))
      go false e = refl

-- vacant places in a row
pub tallied-run : (map named : List ℕ) (n x : ℕ) → x + n ≤ places → all_from (vacant_at map) n x ≡ true → Tallied map named x → Tallied map named (x + n)
unfolding all_from
tallied-run map named zero x h e t = rw add-zero t
tallied-run map named (suc n) x h e t =
    let a = and-true (vacant_at map x) (all_from (vacant_at map) n (suc x)) e in
    let key = eqb-true _ _ (and-true (eqb (page_of map x) none) (eqb (key_of map x) none) a.0).1 in
    let k : x + suc n ≡ suc x + n = omega arith in
    rw k (tallied-run map named n (suc x) (omega arith) a.1 (rw add-one at (tallied_unnamed map named x (omega arith) t key)))

-- ---- after the last place: no key is named twice, and the table says how often each position is
pub tallied_all : (map named : List ℕ) (x : ℕ) → places ≤ x → Tallied map named x → (p : ℕ) → p < positions → named_times map p ≡ get_or named p 0
tallied_all map named x l t p h =
    t.times p h ∙ rw (count_none (λ y. eqb (key_of map y) p) places x l) (add-zero (get_or named p 0))

pub tallied-apart : (map named : List ℕ) (x : ℕ) → places ≤ x → Tallied map named x → keys_apart map ≡ true
unfolding keys_apart
tallied-apart map named x l t =
    all_intro (λ p. leb (named_times map p) 1) positions 0
    (λ p a b.
    let h : p < positions = omega arith in
    le-leb (named_times map p) 1 (omega (arith, tallied_all map named x l t p h, t.few p h)))

-- ---- letters by such a table
pub letters_by_table : (map letters named : List ℕ) → ((p : ℕ) → p < positions → named_times map p ≡ get_or named p 0)
    → all_from (λ p. is_letter (get_or letters p 0) && beq (eqb (get_or letters p 0) used_letter) (leb 1 (get_or named p 0))) positions 0 ≡ letters_fit map letters
unfolding letters_fit
letters_by_table map letters named t =
    all_agree _ _ positions 0 (λ p a b. let h : p < positions = omega arith in rw (t p h))
