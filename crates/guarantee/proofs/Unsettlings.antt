-- Unsettled blocks: those in which an erase was cut are idle, so that mount erases them; and where none is unsettled, steps done whole leave none.
use Prim.Native.Nat.{ℕ, zero, suc, ◌+◌, ◌-◌, ◌<◌, ◌≤◌}
use native.Mathlib.Omega.{arith}
use mathlib.Core.Path.{◌≡◌, refl, sym, subst}
use mathlib.Core.Logic.{◌⊎◌, inl, inr}
use mathlib.Core.Bool.{Bool, true, false, not, ◌&&◌, ◌||◌}
use mathlib.Core.List.{List, [], ◌∷◌, ◌++◌, map}
use lib.Dec.{eqb}
use lib.ListN.{length}
use borrow.Author.Tests.{eq-eqb, eqb-true, eqb-false, not-true}
use Rattle.base.specs.Each.{Each}
use Rattle.base.specs.Fold.{list_from}
use Rattle.base.proofs.Choice.{and-true, true-false}
use Rattle.image.specs.Size.{block_size}
use Rattle.image.specs.Step.{Step, program, erase, up_to, play}
use Rattle.image.proofs.Rows.{row_steps}
use Rattle.store.proofs.Quiets.{Mountable, quiet_still}
use Rattle.store.proofs.IdleBlocks.{Idle, erase_quiet, idle_stays, whole-erase}
use Rattle.guarantee.specs.Unsettled.{after_whole, unsettled_after, AllOnSettled}
use Rattle.guarantee.specs.Statement.{AllErases}
use Rattle.guarantee.proofs.Loosenings.{In}

-- ---- none unsettled before
abbrev pub NoneUnsettled : (ℕ → Bool) → Type 0
NoneUnsettled u = (b : ℕ) → u b ≡ false

whole-none : (s : Step) (u : ℕ → Bool) → NoneUnsettled u → NoneUnsettled (after_whole s u)
whole-none (program g page) u none b = none b
whole-none (erase d) u none b = rw (none b) (go (not (eqb b d)))
  where
    go : (t : Bool) → t && false ≡ false
    go true = refl
    go false = refl

-- steps done whole leave none
pub none_after : (n : ℕ) (ss : List Step) (u : ℕ → Bool) → NoneUnsettled u → length ss ≤ n → NoneUnsettled (unsettled_after n ss u)
unfolding unsettled_after
none_after n [] u none h = none
none_after zero (s ∷ ss) u none h = absurd (omega arith)
none_after (suc n) (s ∷ ss) u none h = none_after n ss (after_whole s u) (whole-none s u none) (omega arith)

-- and every step is one that the flash may do
pub none-on_settled : (ss : List Step) (u : ℕ → Bool) → NoneUnsettled u → AllOnSettled u ss
none-on_settled [] u none = tt
none-on_settled (program g page ∷ ss) u none = (none _, none-on_settled ss (after_whole (program g page) u) (whole-none (program g page) u none))
none-on_settled (erase b ∷ ss) u none = (tt, none-on_settled ss (after_whole (erase b) u) (whole-none (erase b) u none))

-- so are erases alone, whatever is unsettled
pub erases_alone : (bs : List ℕ) → AllErases (map erase bs)
erases_alone [] = tt
erases_alone (b ∷ bs) = erases_alone bs

pub erases-on_settled : (ss : List Step) (u : ℕ → Bool) → AllErases ss → AllOnSettled u ss
erases-on_settled [] u e = tt
erases-on_settled (program g page ∷ ss) u e = absurd e
erases-on_settled (erase b ∷ ss) u e = (tt, erases-on_settled ss (after_whole (erase b) u) e)

-- ---- step n of the steps is an erase of block d: the one that a cut leaves unsettled
abbrev pub CutErase : ℕ → List Step → ℕ → Type 0
CutErase n [] d = ⊥
CutErase zero (program g page ∷ ss) d = ⊥
CutErase zero (erase b ∷ ss) d = b ≡ d
CutErase (suc n) (s ∷ ss) d = CutErase n ss d

pub cut-erase : (n : ℕ) (ss : List Step) (u : ℕ → Bool) → NoneUnsettled u → (d : ℕ) → unsettled_after n ss u d ≡ true → CutErase n ss d
unfolding unsettled_after
cut-erase n [] u none d e = true-false e (none d)
cut-erase zero (program g page ∷ ss) u none d e = true-false e (none d)
cut-erase zero (erase b ∷ ss) u none d e = go (eqb d b) refl (rw (none d) at e)
  where
    go : (t : Bool) → eqb d b ≡ t → t || false ≡ true → b ≡ d
    go true q h = sym (eqb-true d b q)
    go false q h = absurd (true-false h refl)
cut-erase (suc n) (s ∷ ss) u none d e = cut-erase n ss (after_whole s u) (whole-none s u none) d e

-- in a row of steps after another
pub cut_first : (n : ℕ) (xs ys : List Step) (d : ℕ) → n < length xs → CutErase n (xs ++ ys) d → CutErase n xs d
cut_first n [] ys d h e = absurd (omega arith)
cut_first zero (program g page ∷ xs) ys d h e = e
cut_first zero (erase b ∷ xs) ys d h e = e
cut_first (suc n) (x ∷ xs) ys d h e = cut_first n xs ys d (omega arith) e

pub cut-second : (n : ℕ) (xs ys : List Step) (d : ℕ) → length xs ≤ n → CutErase n (xs ++ ys) d → CutErase (n - length xs) ys d
cut-second n [] ys d h e = let z : n - 0 ≡ n = omega arith in rw z e
cut-second zero (x ∷ xs) ys d h e = absurd (omega arith)
cut-second (suc n) (x ∷ xs) ys d h e = let z : suc n - length (x ∷ xs) ≡ n - length xs = omega arith in rw z (cut-second n xs ys d (omega arith) e)

-- none in a row of pages
pub row_uncut : (b : ℕ) (page : ℕ → List ℕ) (n m j d : ℕ) → CutErase n (row_steps b page m j) d → ⊥
unfolding list_from
row_uncut b page n zero j d e = e
row_uncut b page zero (suc m) j d e = e
row_uncut b page (suc n) (suc m) j d e = row_uncut b page n m (suc j) d e

-- ---- an idle block stays idle while it is erased, and while another is
module _ (img : List ℕ) (ok : Mountable img) (b : ℕ) (idle : Idle img b) (k : ℕ) where
  pub erase_idle : (d : ℕ) → Idle img d → Idle (up_to k (erase b) img) d
  erase_idle d other = idle_stays img (up_to k (erase b) img) b d ok (erase_quiet img b idle k) other

each_idle : (img : List ℕ) (ok : Mountable img) (b : ℕ) (idle : Idle img b) (cs : List ℕ) → Each (Idle img) cs → Each (Idle (up_to block_size (erase b) img)) cs
each_idle img ok b idle [] e = tt
each_idle img ok b idle (a ∷ cs) e = (erase_idle img ok b idle block_size a e.0, each_idle img ok b idle cs e.1)

-- ---- idle blocks erased in a row, some of them perhaps unsettled: what is unsettled then is idle
pub erases-unsettled : (bs : List ℕ) (img : List ℕ) (n k : ℕ) (u : ℕ → Bool) → Mountable img → Each (Idle img) bs → ((d : ℕ) → u d ≡ true → Idle img d)
    → (d : ℕ) → unsettled_after n (map erase bs) u d ≡ true → Idle (play n k (map erase bs) img) d
unfolding play unsettled_after
erases-unsettled [] img n k u ok each before d e = before d e
erases-unsettled (b ∷ bs) img zero k u ok each before d e = erase_idle img ok b each.0 k d (go (eqb d b) refl e)
  where
    go : (t : Bool) → eqb d b ≡ t → t || u d ≡ true → Idle img d
    go true q h = rw (eqb-true d b q) each.0
    go false q h = before d h
erases-unsettled (b ∷ bs) img (suc n) k u ok each before d e =
    let q = erase_quiet img b each.0 block_size in
    subst (λ (i : List ℕ). Idle (play n k (map erase bs) i) d) (sym (whole-erase img b each.0))
    (erases-unsettled bs (up_to block_size (erase b) img) n k (after_whole (erase b) u) (quiet_still img (up_to block_size (erase b) img) b ok q).mountable
    (each_idle img ok b each.0 bs each.1)
    (λ a h. erase_idle img ok b each.0 block_size a (before a (and-true (not (eqb a b)) (u a) h).1)) d e)

-- all of them done: a block among them is settled
pub erases_settle : (bs : List ℕ) (n : ℕ) (u : ℕ → Bool) (d : ℕ) → length bs ≤ n → (u d ≡ true → In d bs) → unsettled_after n (map erase bs) u d ≡ false
unfolding unsettled_after
erases_settle [] n u d h among = go (u d) refl
  where
    go : (t : Bool) → u d ≡ t → t ≡ false
    go true q = absurd (among q)
    go false q = refl
erases_settle (b ∷ bs) zero u d h among = absurd (omega arith)
erases_settle (b ∷ bs) (suc n) u d h among = erases_settle bs n (after_whole (erase b) u) d (omega arith)
    (λ e. go (and-true (not (eqb d b)) (u d) e).0 (among (and-true (not (eqb d b)) (u d) e).1))
  where
    go : not (eqb d b) ≡ true → (b ≡ d) ⊎ In d bs → In d bs
    go q (inl z) = absurd (let t : not (eqb d b) ≡ false = rw (eq-eqb d b (sym z)) in true-false q t)
    go q (inr z) = z

-- the same where none was unsettled before
pub sweep_idle : (bs : List ℕ) (img : List ℕ) (n k : ℕ) → Mountable img → Each (Idle img) bs → (d : ℕ) → CutErase n (map erase bs) d
    → Idle (play n k (map erase bs) img) d
unfolding play
sweep_idle [] img n k ok each d e = absurd e
sweep_idle (b ∷ bs) img zero k ok each d e = erase_idle img ok b each.0 k d (rw (← e) each.0)
sweep_idle (b ∷ bs) img (suc n) k ok each d e =
    let q = erase_quiet img b each.0 block_size in
    subst (λ (i : List ℕ). Idle (play n k (map erase bs) i) d) (sym (whole-erase img b each.0))
    (sweep_idle bs (up_to block_size (erase b) img) n k (quiet_still img (up_to block_size (erase b) img) b ok q).mountable
    (each_idle img ok b each.0 bs each.1) d e)

-- ---- blocks erased from b on, as a format does: what was unsettled among them is settled
pub listed_settle : (m b : ℕ) (u : ℕ → Bool) → ((d : ℕ) → u d ≡ true → (b ≤ d) × (d < b + m))
    → NoneUnsettled (unsettled_after (length (list_from erase m b)) (list_from erase m b) u)
unfolding unsettled_after list_from
listed_settle zero b u among d = go (u d) refl
  where
    go : (t : Bool) → u d ≡ t → t ≡ false
    go true q = let z = among d q in absurd (omega (arith, z.0, z.1))
    go false q = refl
listed_settle (suc m) b u among d =
    listed_settle m (suc b) (after_whole (erase b) u) (λ a e.
    let two = and-true (not (eqb a b)) (u a) e in
    let z = among a two.1 in
    let n = eqb-false a b (not-true (eqb a b) two.0) in
    (omega (arith, z.0, n), omega (arith, z.1))) d

pub listed-on_settled : (m b : ℕ) (u : ℕ → Bool) → AllOnSettled u (list_from erase m b)
unfolding list_from
listed-on_settled zero b u = tt
listed-on_settled (suc m) b u = (tt, listed-on_settled m (suc b) (after_whole (erase b) u))

-- and steps after them
pub none_behind : (xs ys : List Step) (u : ℕ → Bool) → NoneUnsettled (unsettled_after (length xs) xs u)
    → NoneUnsettled (unsettled_after (length (xs ++ ys)) (xs ++ ys) u)
unfolding unsettled_after
none_behind [] ys u none = none_after (length ys) ys u none (omega arith)
none_behind (x ∷ xs) ys u none = none_behind xs ys (after_whole x u) none

pub on_settled_behind : (xs ys : List Step) (u : ℕ → Bool) → NoneUnsettled (unsettled_after (length xs) xs u) → AllOnSettled u xs → AllOnSettled u (xs ++ ys)
unfolding unsettled_after
on_settled_behind [] ys u none on = none-on_settled ys u none
on_settled_behind (x ∷ xs) ys u none on = (on.0, on_settled_behind xs ys (after_whole x u) none on.1)
