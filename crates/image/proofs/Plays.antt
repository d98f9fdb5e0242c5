-- Steps in a row: all of them, or as far as n steps and k bytes go.
use Prim.Native.Nat.{ℕ, zero, suc, ◌-◌, ◌<◌, ◌≤◌}
use native.Mathlib.Omega.{arith}
use native.Mathlib.Nat.{sub-zero}
use mathlib.Core.Path.{◌≡◌, refl, sym, subst, ◌∙◌}
use mathlib.Core.List.{List, [], ◌∷◌, ◌++◌}
use lib.ListN.{length, get_or, take}
use Rattle.base.specs.Each.{Each}
use Rattle.image.specs.Look.{block_at}
use Rattle.image.specs.Step.{Step, Inside, AllLegal, up_to, whole, play, play_all}
use Rattle.image.proofs.Step.{block_of, up_to-length, whole_length, block_up_to_other, block_whole_other}

-- ---- the definitions' clauses, for those who do not open them
pub play_nil : (n k : ℕ) (img : List ℕ) → play n k [] img ≡ img
unfolding play
play_nil n k img = refl

pub play-zero : (k : ℕ) (s : Step) (ss : List Step) (img : List ℕ) → play 0 k (s ∷ ss) img ≡ up_to k s img
unfolding play
play-zero k s ss img = refl

pub play-suc : (n k : ℕ) (s : Step) (ss : List Step) (img : List ℕ) → play (suc n) k (s ∷ ss) img ≡ play n k ss (whole s img)
unfolding play
play-suc n k s ss img = refl

pub play_all_nil : (img : List ℕ) → play_all [] img ≡ img
unfolding play_all
play_all_nil img = refl

pub play_all_cons : (s : Step) (ss : List Step) (img : List ℕ) → play_all (s ∷ ss) img ≡ play_all ss (whole s img)
unfolding play_all
play_all_cons s ss img = refl

-- ---- as many steps as there are is no limit
pub play_all_lem : (n k : ℕ) (ss : List Step) (img : List ℕ) → length ss ≤ n → play n k ss img ≡ play_all ss img
unfolding play play_all
play_all_lem n k [] img h = refl
play_all_lem zero k (s ∷ ss) img h = absurd (omega arith)
play_all_lem (suc n) k (s ∷ ss) img h = play_all_lem n k ss (whole s img) (omega arith)

-- ---- one list after another
pub play_all-append : (xs ys : List Step) (img : List ℕ) → play_all (xs ++ ys) img ≡ play_all ys (play_all xs img)
unfolding play_all
play_all-append [] ys img = refl
play_all-append (x ∷ xs) ys img = play_all-append xs ys (whole x img)

pub legal-append : (xs ys : List Step) (img : List ℕ) → AllLegal img xs → AllLegal (play_all xs img) ys → AllLegal img (xs ++ ys)
unfolding play_all
legal-append [] ys img p q = q
legal-append (x ∷ xs) ys img p q = (p.0, legal-append xs ys (whole x img) p.1 q)

-- the power fails in the first list, or after it
pub play_append_first : (n k : ℕ) (xs ys : List Step) (img : List ℕ) → n < length xs → play n k (xs ++ ys) img ≡ play n k xs img
unfolding play
play_append_first n k [] ys img h = absurd (omega arith)
play_append_first zero k (x ∷ xs) ys img h = refl
play_append_first (suc n) k (x ∷ xs) ys img h = play_append_first n k xs ys (whole x img) (omega arith)

pub play-append-second : (n k : ℕ) (xs ys : List Step) (img : List ℕ) → length xs ≤ n
    → play n k (xs ++ ys) img ≡ play (n - length xs) k ys (play_all xs img)
unfolding play play_all
play-append-second n k [] ys img h = rw sub-zero
play-append-second zero k (x ∷ xs) ys img h = absurd (omega arith)
play-append-second (suc n) k (x ∷ xs) ys img h =
    let e : suc n - suc (length xs) ≡ n - length xs = omega arith in
    play-append-second n k xs ys (whole x img) (omega arith) ∙ rw e

-- the step in which the power fails, after the whole ones
pub play_split : (n k : ℕ) (ss : List Step) (img : List ℕ) (d : Step) → n < length ss
    → play n k ss img ≡ up_to k (get_or ss n d) (play_all (take n ss) img)
unfolding play play_all
play_split n k [] img d h = absurd (omega arith)
play_split zero k (s ∷ ss) img d h = refl
play_split (suc n) k (s ∷ ss) img d h = play_split n k ss (whole s img) d (omega arith)

-- ---- steps inside the image keep its length
inside_more : (n m : ℕ) (ss : List Step) → n ≡ m → Each (Inside n) ss → Each (Inside m) ss
inside_more n m ss e i = subst (λ (t : ℕ). Each (Inside t) ss) e i

pub play_all-length : (ss : List Step) (img : List ℕ) → Each (Inside (length img)) ss → length (play_all ss img) ≡ length img
unfolding play_all
play_all-length [] img i = refl
play_all-length (s ∷ ss) img i =
    let l = whole_length s img i.0 in
    play_all-length ss (whole s img) (inside_more _ _ ss (sym l) i.1) ∙ l

pub play-length : (n k : ℕ) (ss : List Step) (img : List ℕ) → Each (Inside (length img)) ss → length (play n k ss img) ≡ length img
unfolding play
play-length n k [] img i = refl
play-length zero k (s ∷ ss) img i = up_to-length k s img i.0
play-length (suc n) k (s ∷ ss) img i =
    let l = whole_length s img i.0 in
    play-length n k ss (whole s img) (inside_more _ _ ss (sym l) i.1) ∙ l

-- ---- a block that no step works in stays
pub block_play_all_other : (ss : List Step) (img : List ℕ) (b : ℕ) → Each (Inside (length img)) ss → Each (λ (s : Step). block_of s ≡ b → ⊥) ss
    → block_at (play_all ss img) b ≡ block_at img b
unfolding play_all
block_play_all_other [] img b i o = refl
block_play_all_other (s ∷ ss) img b i o =
    block_play_all_other ss (whole s img) b (inside_more _ _ ss (sym (whole_length s img i.0)) i.1) o.1
    ∙ block_whole_other s img i.0 b o.0

pub block_play_other : (n k : ℕ) (ss : List Step) (img : List ℕ) (b : ℕ) → Each (Inside (length img)) ss → Each (λ (s : Step). block_of s ≡ b → ⊥) ss
    → block_at (play n k ss img) b ≡ block_at img b
unfolding play
block_play_other n k [] img b i o = refl
block_play_other zero k (s ∷ ss) img b i o = block_up_to_other k s img i.0 b o.0
block_play_other (suc n) k (s ∷ ss) img b i o =
    block_play_other n k ss (whole s img) b (inside_more _ _ ss (sym (whole_length s img i.0)) i.1) o.1
    ∙ block_whole_other s img i.0 b o.0
