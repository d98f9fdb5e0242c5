-- A list whose elements are again and again its first n.
use Prim.Native.Nat.{ℕ, zero, suc, ◌+◌, ◌*◌, ◌<◌, ◌≤◌}
use native.Mathlib.Omega.{arith}
use native.Mathlib.Nat.{mul-zero, mul-suc, mul-le-mul_left, zero-add}
use mathlib.Core.Path.{◌≡◌, sym, ap, ◌∙◌}
use mathlib.Core.Bool.{Bool, true, ◌&&◌}
use mathlib.Core.List.{List, ◌++◌}
use Rattle.base.specs.Part.{part}
use Rattle.base.specs.Each.{same}
use Rattle.base.specs.Search.{all_from}
use Rattle.base.proofs.Choice.{and-true, and_intro, both_ways}
use Rattle.base.proofs.Parts.{part-part}
use Rattle.base.proofs.Eachs.{same_true, same_refl}
use Rattle.base.proofs.Searches.{all_holds, all_intro}
use Rattle.page.proofs.WordLaws.{part_join}

module _ (xs : List ℕ) (n : ℕ) where
  -- each of m elements is as the one n before it
  pub repeats : (m : ℕ) → part xs n m ≡ part xs 0 m → (j : ℕ) → n * j ≤ m → part xs (n * j) n ≡ part xs 0 n
  repeats m e zero h = rw mul-zero
  repeats m e (suc j) h =
      let k : n * suc j ≡ n + n * j = omega (arith, mul-suc n j) in
      rw k
      (sym (part-part xs n m (n * j) n (omega arith))
      ∙ ap (λ (l : List ℕ). part l (n * j) n) e
      ∙ part-part xs 0 m (n * j) n (omega arith)
      ∙ rw zero-add (repeats m e j (omega arith)))

  -- and so it is where every n elements are the same
  pub repeated : (v : List ℕ) (k : ℕ) → ((j : ℕ) → j < suc k → part xs (n * j) n ≡ v) → part xs n (n * k) ≡ part xs 0 (n * k)
  unfolding part
  repeated v zero f = rw mul-zero
  repeated v (suc k) f =
      let e : n * suc k ≡ n * k + n = omega (arith, mul-suc n k) in
      let g : n + n * k ≡ n * suc k = omega (arith, mul-suc n k) in
      let p : part xs (n + n * k) n ≡ part xs (n * k) n = ap (λ (a : ℕ). part xs a n) g ∙ f (suc k) (omega arith) ∙ sym (f k (omega arith)) in
      rw e
      (sym (part_join xs n (n * k) n)
      ∙ (λ i. repeated v k (λ j h. f j (omega arith)) i ++ p i)
      ∙ ap (λ (a : ℕ). part xs 0 (n * k) ++ part xs a n) (sym (zero-add (n * k)))
      ∙ part_join xs 0 (n * k) n)

  -- the same, as tests
  pub repeats_decide : (v : List ℕ) (k : ℕ) → same (part xs n (n * k)) (part xs 0 (n * k)) && same (part xs 0 n) v ≡ all_from (λ j. same (part xs (n * j) n) v) (suc k) 0
  repeats_decide v k = both_ways _ _ there back
    where
      p : ℕ → Bool
      p j = same (part xs (n * j) n) v

      there : same (part xs n (n * k)) (part xs 0 (n * k)) && same (part xs 0 n) v ≡ true → all_from p (suc k) 0 ≡ true
      there t =
          let a = and-true (same (part xs n (n * k)) (part xs 0 (n * k))) (same (part xs 0 n) v) t in
          let e = same_true (part xs n (n * k)) (part xs 0 (n * k)) a.0 in
          all_intro p (suc k) 0 (λ j g h. rw (repeats (n * k) e j (mul-le-mul_left n (omega arith))) a.1)

      back : all_from p (suc k) 0 ≡ true → same (part xs n (n * k)) (part xs 0 (n * k)) && same (part xs 0 n) v ≡ true
      back t =
          let f : (j : ℕ) → j < suc k → part xs (n * j) n ≡ v = λ j h. same_true (part xs (n * j) n) v (all_holds p (suc k) 0 j t (omega arith) (omega arith)) in
          let first : part xs 0 n ≡ v = rw mul-zero at (f 0 (omega arith)) in
          and_intro (same (part xs n (n * k)) (part xs 0 (n * k))) (same (part xs 0 n) v) (rw (repeated v k f) (same_refl (part xs 0 (n * k)))) (rw first (same_refl v))
