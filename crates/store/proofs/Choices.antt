-- The blocks that mount chooses: of highest epoch, on a tie the lower block; and that this determines them.
use Prim.Native.Nat.{ℕ, suc, ◌<◌, ◌≤◌}
use native.Mathlib.Omega.{arith}
use native.Mathlib.Decide.{dec_lt}
use native.Mathlib.Nat.{zero-add}
use mathlib.Core.Path.{◌≡◌, refl, sym, ap, subst, ◌∙◌}
use mathlib.Core.Bool.{Bool, true, false, cond}
use mathlib.Core.List.{List}
use lib.Dec.{eqb, ltb}
use borrow.Author.Tests.{ltb-true, ltb-false, eqb-true, eq-eqb}
use Rattle.base.specs.Fold.{fold_from}
use Rattle.base.proofs.Searches.{below_suc}
use Rattle.base.proofs.Folds.{fold_up, fold_last}
use Rattle.image.specs.Size.{blocks}
use Rattle.store.specs.Kind.{kind_of, keys_epoch, commit_epoch}
use Rattle.store.specs.Mount.{rank_of, foremost, chosen_commit, chosen_keys}
use Rattle.store.specs.declared.Kind.{Kind}
use Rattle.store.specs.declared.Kind.TheVariants.{Keys, Commit, Other}
use Rattle.std.specs.Prelude.{Option, Some, None}
use Rattle.store.proofs.BlockKinds.{keys_range, commit_range}

-- ---- the foremost of some numbers, over any rank
-- b is the number below n of highest rank, the lowest of those
pub record Foremost (rank : ℕ → ℕ) (n b : ℕ) : Type 0 where
  pub below : b < n
  pub ranked : 0 < rank b
  pub highest : (a : ℕ) → a < n → rank a ≤ rank b
  pub lowest : (a : ℕ) → a < b → rank a < rank b

-- what an answer says: the foremost number, or that all ranks are 0
abbrev pub Answers : (ℕ → ℕ) → ℕ → Option ℕ → Type 0
Answers rank n (Some b) = Foremost rank n b
Answers rank n None = (a : ℕ) → a < n → rank a ≡ 0

-- one more number
abbrev pub better : (ℕ → ℕ) → ℕ → Option ℕ → Option ℕ
better rank b best = cond (ltb (rank_of rank best) (rank b)) (Some b) best

module _ (rank : ℕ → ℕ) where
  answers_next : (n : ℕ) (best : Option ℕ) → Answers rank n best → Answers rank (suc n) (better rank n best)
  answers_next n (Some b) f = go (ltb (rank b) (rank n)) refl
    where
      go : (t : Bool) → ltb (rank b) (rank n) ≡ t → Answers rank (suc n) (cond t (Some n) (Some b))
      go true e =
          let l : rank b < rank n = ltb-true _ _ e in
          record {
            below = omega arith;
            ranked = omega arith;
            highest = below_suc (λ a. rank a ≤ rank n) n (λ a h. omega (arith, f.highest a h)) (omega arith);
            lowest = λ a h. omega (arith, f.highest a h);
          }
      go false e =
          record {
            below = omega (arith, f.below);
            ranked = f.ranked;
            highest = below_suc (λ a. rank a ≤ rank b) n f.highest (ltb-false _ _ e);
            lowest = f.lowest;
          }
  answers_next n None f = go (ltb 0 (rank n)) refl
    where
      go : (t : Bool) → ltb 0 (rank n) ≡ t → Answers rank (suc n) (cond t (Some n) None)
      go true e =
          let l : 0 < rank n = ltb-true _ _ e in
          record {
            below = omega arith;
            ranked = l;
            highest = below_suc (λ a. rank a ≤ rank n) n (λ a h. omega (arith, f a h)) (omega arith);
            lowest = λ a h. omega (arith, f a h);
          }
      go false e = below_suc (λ a. rank a ≡ 0) n f (omega (arith, ltb-false 0 (rank n) e))

  pub foremost_answers : (n : ℕ) → Answers rank n (foremost rank n)
  unfolding foremost
  foremost_answers n =
      fold_up (Answers rank) (better rank) n None (λ j best h p. answers_next j best p) (λ a h. absurd (omega arith))

  pub foremost_at : (n b : ℕ) → foremost rank n ≡ Some b → Foremost rank n b
  foremost_at n b e = subst (Answers rank n) e (foremost_answers n)

  pub foremost_nothing : (n : ℕ) → foremost rank n ≡ None → (a : ℕ) → a < n → rank a ≡ 0
  foremost_nothing n e = subst (Answers rank n) e (foremost_answers n)

  -- there is one answer
  answers_unique : (n : ℕ) (x y : Option ℕ) → Answers rank n x → Answers rank n y → x ≡ y
  answers_unique n (Some a) (Some b) f g =
      let p : a ≡ b = elim (dec_lt a b) [
        | yes k ↦ absurd (omega (arith, g.lowest a k, f.highest b g.below))
        | no k ↦ elim (dec_lt b a) [
          | yes l ↦ absurd (omega (arith, f.lowest b l, g.highest a f.below))
          | no l ↦ omega arith
        ]
      ] in
      ap Some p
  answers_unique n (Some a) None f g = absurd (omega (arith, f.ranked, g a f.below))
  answers_unique n None (Some b) f g = absurd (omega (arith, g.ranked, f b g.below))
  answers_unique n None None f g = refl

  pub at_foremost : (n b : ℕ) → Foremost rank n b → foremost rank n ≡ Some b
  at_foremost n b f = answers_unique n (foremost rank n) (Some b) (foremost_answers n) f

  pub nothing_foremost : (n : ℕ) → ((a : ℕ) → a < n → rank a ≡ 0) → foremost rank n ≡ None
  nothing_foremost n f = answers_unique n (foremost rank n) None (foremost_answers n) f

  -- a loop's first state and its step, as code that passes number n has them
  pub foremost-none : foremost rank 0 ≡ None
  unfolding foremost fold_from
  foremost-none = refl

  pub foremost_next : (n : ℕ) → foremost rank (suc n) ≡ better rank n (foremost rank n)
  unfolding foremost
  foremost_next n = fold_last (better rank) n 0 None ∙ rw zero-add

-- ranks that agree
pub foremost_agree : (rank rank' : ℕ → ℕ) (n : ℕ) → ((b : ℕ) → b < n → rank b ≡ rank' b) → foremost rank n ≡ foremost rank' n
foremost_agree rank rank' n same = answers_unique rank' n (foremost rank n) (foremost rank' n) (go (foremost rank n) (foremost_answers rank n)) (foremost_answers rank' n)
  where
    go : (x : Option ℕ) → Answers rank n x → Answers rank' n x
    go (Some b) f =
        let e = same b f.below in
        record {
          below = f.below;
          ranked = omega (arith, f.ranked);
          highest = λ a h. omega (arith, same a h, f.highest a h);
          lowest = λ a h. omega (arith, same a (omega (arith, f.below)), f.lowest a h);
        }
    go None f = λ a h. omega (arith, same a h, f a h)

-- ranks of which none is higher than before, and the foremost's as it was
pub foremost_lowered : (rank rank' : ℕ → ℕ) (n b : ℕ) → rank' b ≡ rank b → ((a : ℕ) → a < n → rank' a ≤ rank a) → foremost rank n ≡ Some b → foremost rank' n ≡ Some b
foremost_lowered rank rank' n b same low e =
    let f = foremost_at rank n b e in
    at_foremost rank' n b
    (record {
      below = f.below;
      ranked = omega (arith, f.ranked);
      highest = λ a h. omega (arith, low a h, f.highest a h);
      lowest = λ a h. omega (arith, low a (omega (arith, f.below)), f.lowest a h);
    })

-- ---- the chosen blocks, by an epoch of their kinds: commit_epoch for the commit, keys_epoch q for key block q
abbrev pub chosen_by : (Kind → ℕ) → List ℕ → Option ℕ
chosen_by epoch img = foremost (λ b. epoch (kind_of img b)) (blocks img)

pub commit_by_epoch : (img : List ℕ) → chosen_commit img ≡ chosen_by commit_epoch img
unfolding chosen_commit
commit_by_epoch img = refl

pub keys_by_epoch : (img : List ℕ) (q : ℕ) → chosen_keys img q ≡ chosen_by (keys_epoch q) img
unfolding chosen_keys
keys_by_epoch img q = refl

module _ (epoch : Kind → ℕ) (img : List ℕ) (b : ℕ) (chosen : chosen_by epoch img ≡ Some b) where
  pub chosen_is_inside : b < blocks img
  chosen_is_inside = (foremost_at _ (blocks img) b chosen).below

  pub chosen_is_whole : 0 < epoch (kind_of img b)
  chosen_is_whole = (foremost_at _ (blocks img) b chosen).ranked

  -- highest epoch is chosen
  pub chosen_is_highest : (a : ℕ) → a < blocks img → epoch (kind_of img a) ≤ epoch (kind_of img b)
  chosen_is_highest = (foremost_at _ (blocks img) b chosen).highest

  -- on a tie the lower block
  pub chosen_is_lowest : (a : ℕ) → a < b → epoch (kind_of img a) < epoch (kind_of img b)
  chosen_is_lowest = (foremost_at _ (blocks img) b chosen).lowest

pub chosen_agree : (epoch : Kind → ℕ) (img img' : List ℕ) → blocks img ≡ blocks img' → ((b : ℕ) → b < blocks img → kind_of img b ≡ kind_of img' b)
    → chosen_by epoch img ≡ chosen_by epoch img'
chosen_agree epoch img img' n same = rw (← n) (foremost_agree _ _ (blocks img) (λ b h. ap epoch (same b h)))

-- ---- what an epoch above 0 says of a kind
pub commit_epoch_lem : (k : Kind) → 0 < commit_epoch k → (e : ℕ) × (s : ℕ) × (k ≡ Commit e s)
commit_epoch_lem (Keys q e) h = absurd (omega arith)
commit_epoch_lem (Commit e s) h = (e, s, refl)
commit_epoch_lem Other h = absurd (omega arith)

pub keys_epoch_lem : (q : ℕ) (k : Kind) → 0 < keys_epoch q k → (e : ℕ) × (k ≡ Keys q e)
keys_epoch_lem q (Keys r e) h = go (eqb r q) refl h
  where
    go : (t : Bool) → eqb r q ≡ t → 0 < cond t e 0 → (e' : ℕ) × (Keys r e ≡ Keys q e')
    go true p h = (e, ap (λ (x : ℕ). Keys x e) (eqb-true r q p))
    go false p h = absurd (omega arith)
keys_epoch_lem q (Commit e s) h = absurd (omega arith)
keys_epoch_lem q Other h = absurd (omega arith)

-- what holds of 0 and of the epoch of each such kind
pub of_commit_epoch : (P : ℕ → Type 0) (k : Kind) → P 0 → ((e s : ℕ) → k ≡ Commit e s → P e) → P (commit_epoch k)
of_commit_epoch P (Keys q e) z f = z
of_commit_epoch P (Commit e s) z f = f e s refl
of_commit_epoch P Other z f = z

pub of_keys_epoch : (P : ℕ → Type 0) (q : ℕ) (k : Kind) → P 0 → ((e : ℕ) → k ≡ Keys q e → P e) → P (keys_epoch q k)
of_keys_epoch P q (Keys r e) z f = go (eqb r q) refl
  where
    go : (t : Bool) → eqb r q ≡ t → P (cond t e 0)
    go true p = f e (ap (λ (x : ℕ). Keys x e) (eqb-true r q p))
    go false p = z
of_keys_epoch P q (Commit e s) z f = z
of_keys_epoch P q Other z f = z

pub keys_own_epoch : (q e : ℕ) → keys_epoch q (Keys q e) ≡ e
keys_own_epoch q e = rw (eq-eqb q q refl)

-- ---- the chosen commit block
-- block b is a whole commit block; none has a higher epoch, and none below b one as high
pub record ChosenCommit (img : List ℕ) (b : ℕ) : Type 0 where
  pub inside : b < blocks img
  pub epoch : ℕ
  pub covered : ℕ
  pub whole : kind_of img b ≡ Commit epoch covered
  pub highest : (a e s : ℕ) → a < blocks img → kind_of img a ≡ Commit e s → e ≤ epoch
  pub lowest : (a e s : ℕ) → a < b → kind_of img a ≡ Commit e s → e < epoch

module _ (img : List ℕ) where
  pub commit_chosen : (b : ℕ) → chosen_commit img ≡ Some b → ChosenCommit img b
  commit_chosen b e =
      let c : chosen_by commit_epoch img ≡ Some b = sym (commit_by_epoch img) ∙ e in
      let w = commit_epoch_lem (kind_of img b) (chosen_is_whole commit_epoch img b c) in
      record {
        inside = chosen_is_inside commit_epoch img b c;
        epoch = w.0;
        covered = w.1;
        whole = w.2;
        highest = λ a e s h k. rw (k, w.2) at (chosen_is_highest commit_epoch img b c a h);
        lowest = λ a e s h k. rw (k, w.2) at (chosen_is_lowest commit_epoch img b c a h);
      }

  pub chosen_commit_lem : (b : ℕ) → ChosenCommit img b → chosen_commit img ≡ Some b
  chosen_commit_lem b c =
      let m : commit_epoch (kind_of img b) ≡ c.epoch = ap commit_epoch c.whole in
      let l : 1 ≤ c.epoch = (commit_range img b c.epoch c.covered c.whole).0 in
      commit_by_epoch img
      ∙ at_foremost (λ a. commit_epoch (kind_of img a)) (blocks img) b
      (record {
        below = c.inside;
        ranked = omega arith;
        highest = λ a h. rw m (of_commit_epoch (λ e. e ≤ c.epoch) (kind_of img a) (omega arith) (λ e s k. c.highest a e s h k));
        lowest = λ a h. rw m (of_commit_epoch (λ e. e < c.epoch) (kind_of img a) l (λ e s k. c.lowest a e s h k));
      })

  -- none is chosen exactly where there is no whole commit block
  pub no_commit : chosen_commit img ≡ None → (b e s : ℕ) → b < blocks img → kind_of img b ≡ Commit e s → ⊥
  no_commit n b e s h k =
      let z : commit_epoch (kind_of img b) ≡ 0 = foremost_nothing (λ a. commit_epoch (kind_of img a)) (blocks img) (sym (commit_by_epoch img) ∙ n) b h in
      omega (arith, rw k at z, (commit_range img b e s k).0)

  pub commit-none : ((b e s : ℕ) → b < blocks img → kind_of img b ≡ Commit e s → ⊥) → chosen_commit img ≡ None
  commit-none f =
      commit_by_epoch img
      ∙ nothing_foremost (λ a. commit_epoch (kind_of img a)) (blocks img) (λ b h. of_commit_epoch (λ e. e ≡ 0) (kind_of img b) refl (λ e s k. absurd (f b e s h k)))

-- ---- the chosen key block q
-- block b is a whole key block q; none has a higher epoch, and none below b one as high
pub record ChosenKeys (img : List ℕ) (q b : ℕ) : Type 0 where
  pub inside : b < blocks img
  pub epoch : ℕ
  pub whole : kind_of img b ≡ Keys q epoch
  pub highest : (a e : ℕ) → a < blocks img → kind_of img a ≡ Keys q e → e ≤ epoch
  pub lowest : (a e : ℕ) → a < b → kind_of img a ≡ Keys q e → e < epoch

module _ (img : List ℕ) (q : ℕ) where
  pub keys_chosen : (b : ℕ) → chosen_keys img q ≡ Some b → ChosenKeys img q b
  keys_chosen b e =
      let c : chosen_by (keys_epoch q) img ≡ Some b = sym (keys_by_epoch img q) ∙ e in
      let w = keys_epoch_lem q (kind_of img b) (chosen_is_whole (keys_epoch q) img b c) in
      record {
        inside = chosen_is_inside (keys_epoch q) img b c;
        epoch = w.0;
        whole = w.1;
        highest = λ a e h k. rw (k, w.1, keys_own_epoch q e, keys_own_epoch q w.0) at (chosen_is_highest (keys_epoch q) img b c a h);
        lowest = λ a e h k. rw (k, w.1, keys_own_epoch q e, keys_own_epoch q w.0) at (chosen_is_lowest (keys_epoch q) img b c a h);
      }

  pub chosen_keys_lem : (b : ℕ) → ChosenKeys img q b → chosen_keys img q ≡ Some b
  chosen_keys_lem b c =
      let m : keys_epoch q (kind_of img b) ≡ c.epoch = ap (keys_epoch q) c.whole ∙ keys_own_epoch q c.epoch in
      let l : 1 ≤ c.epoch = (keys_range img b q c.epoch c.whole).1 in
      keys_by_epoch img q
      ∙ at_foremost (λ a. keys_epoch q (kind_of img a)) (blocks img) b
      (record {
        below = c.inside;
        ranked = omega arith;
        highest = λ a h. rw m (of_keys_epoch (λ e. e ≤ c.epoch) q (kind_of img a) (omega arith) (λ e k. c.highest a e h k));
        lowest = λ a h. rw m (of_keys_epoch (λ e. e < c.epoch) q (kind_of img a) l (λ e k. c.lowest a e h k));
      })

  -- none is chosen exactly where there is no whole key block q
  pub no_keys : chosen_keys img q ≡ None → (b e : ℕ) → b < blocks img → kind_of img b ≡ Keys q e → ⊥
  no_keys n b e h k =
      let z : keys_epoch q (kind_of img b) ≡ 0 = foremost_nothing (λ a. keys_epoch q (kind_of img a)) (blocks img) (sym (keys_by_epoch img q) ∙ n) b h in
      omega (arith, sym (ap (keys_epoch q) k ∙ keys_own_epoch q e), (keys_range img b q e k).1)

  pub keys_none : ((b e : ℕ) → b < blocks img → kind_of img b ≡ Keys q e → ⊥) → chosen_keys img q ≡ None
  keys_none f =
      keys_by_epoch img q
      ∙ nothing_foremost (λ a. keys_epoch q (kind_of img a)) (blocks img) (λ b h. of_keys_epoch (λ e. e ≡ 0) q (kind_of img b) refl (λ e k. absurd (f b e h k)))

-- ---- the choice goes by the kinds
module _ (img img' : List ℕ) (count : blocks img ≡ blocks img') (same : (b : ℕ) → b < blocks img → kind_of img b ≡ kind_of img' b) where
  pub chosen_commit_agree : chosen_commit img ≡ chosen_commit img'
  chosen_commit_agree = commit_by_epoch img ∙ chosen_agree commit_epoch img img' count same ∙ sym (commit_by_epoch img')

  pub chosen_keys_agree : (q : ℕ) → chosen_keys img q ≡ chosen_keys img' q
  chosen_keys_agree q = keys_by_epoch img q ∙ chosen_agree (keys_epoch q) img img' count same ∙ sym (keys_by_epoch img' q)
