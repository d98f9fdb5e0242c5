-- Tests as the code makes them, and what they hand on.
use Prim.Native.Nat.{ℕ}
use mathlib.Core.Path.{◌≡◌, refl, sym, ap, ◌∙◌}
use mathlib.Core.Bool.{Bool, true, false, cond, not}
use mathlib.Core.List.{List, [], ◌∷◌, ◌++◌}
use native.Mathlib.Omega.{arith}
use lib.Dec.{leb, ltb}
use borrow.Author.Tests.{le-leb, leb-true, ltb-true, ltb-false, not-true, not-false}
use Rattle.base.specs.Each.{Each}
use Rattle.base.proofs.Choice.{true-false}
use Rattle.base.proofs.Searches.{first_bounds}
use Rattle.image.specs.Size.{blocks}
use Rattle.image.specs.Look.{block_empty, lowest_empty, empty_blocks}
use Rattle.image.proofs.Looks.{lowest_some, lowest_counted, lowest_most}
use Rattle.store.specs.Reply.{Reply, Done, Test, ◌else◌, handed, verdict, is_done}
use Rattle.std.specs.Prelude.{Ok, Err, Some, None}
use Rattle.std.specs.Option.{ok_or}
use Rattle.base.specs.Search.{found}
use Rattle.store.specs.declared.Error.TheVariants.{NoRoom}
use Rattle.store.specs.declared.Error.{Error}
use Rattle.store.proofs.Verdicts.{Passes, verdict-pass, verdict-done, done-true}

-- ---- a test that the code made by a call, and left or took the branch of the refusal
pub passed : {t u : Bool} → t ≡ u → not t ≡ false → u ≡ true
passed e h = sym e ∙ not-false _ h

pub failed : {t u : Bool} → t ≡ u → not t ≡ true → u ≡ false
failed e h = sym e ∙ not-true _ h

-- ---- tests that begin with others
-- refused by those, they are refused
begin-refused : (ts us : List Test) → is_done (verdict ts) ≡ false → verdict (ts ++ us) ≡ verdict ts
begin-refused [] us e = absurd (true-false refl e)
begin-refused (t ∷ ts) us e = go t.holds (begin-refused ts us) e
  where
    go : (b : Bool) → (is_done (verdict ts) ≡ false → verdict (ts ++ us) ≡ verdict ts) → is_done (cond b (verdict ts) (Err t.otherwise)) ≡ false
        → cond b (verdict (ts ++ us)) (Err t.otherwise) ≡ cond b (verdict ts) (Err t.otherwise)
    go true r e = r e
    go false r e = refl

-- passed by those, the others decide
begin-passed : (ts us : List Test) → Each Passes ts → verdict (ts ++ us) ≡ verdict us
begin-passed [] us p = refl
begin-passed (t ∷ ts) us p = verdict-pass t (ts ++ us) p.0 ∙ begin-passed ts us p.1

pub refuses_first : (ts us : List Test) {v : Reply} → v ≡ verdict ts → is_done v ≡ false → verdict (ts ++ us) ≡ v
refuses_first ts us e d = begin-refused ts us (ap is_done (sym e) ∙ d) ∙ sym e

pub passes_first : (ts us : List Test) {v : Reply} → v ≡ verdict ts → is_done v ≡ true → verdict (ts ++ us) ≡ verdict us
passes_first ts us e d = begin-passed ts us (verdict-done ts (sym e ∙ done-true _ d))

-- ---- what the tests of a call hand on, by what they reply
pub handed_done : {A : Type 0} (v : Reply) (x y : A) → handed v x ≡ Ok y → (v ≡ Done) × (y ≡ x)
handed_done (Ok done) x y e = (refl, cc)
handed_done (Err error) x y e = absurd (let z : ◌≡◌ {A = ℕ} 0 1 = cc in omega arith)

pub handed_refused : {A : Type 0} (v : Reply) (x : A) (error : Error) → handed v x ≡ Err error → v ≡ Err error
handed_refused (Ok done) x error e = absurd (let z : ◌≡◌ {A = ℕ} 0 1 = cc in omega arith)
handed_refused (Err other) x error e = cc

-- ---- what the search for an empty block hands on
-- there is no empty block exactly if the search ends at the number of blocks
pub no_room : (img : List ℕ) → lowest_empty img ≡ blocks img → leb 1 (empty_blocks img) ≡ false
no_room img e = go (leb 1 (empty_blocks img)) refl
  where
    go : (b : Bool) → leb 1 (empty_blocks img) ≡ b → b ≡ false
    go true h = absurd (omega (arith, lowest_some img (leb-true 1 (empty_blocks img) h)))
    go false h = refl

pub some-room : (img : List ℕ) → (lowest_empty img ≡ blocks img → ⊥) → leb 1 (empty_blocks img) ≡ true
unfolding lowest_empty
some-room img e = le-leb 1 (empty_blocks img) (lowest_counted img (omega (arith, e, (first_bounds (block_empty img) (blocks img) 0).1)))

-- what the last of those tests hands on
pub room_handed : (img : List ℕ) → ok_or (found (blocks img) (lowest_empty img)) NoRoom ≡ handed (verdict ((leb 1 (empty_blocks img) else NoRoom) ∷ [])) (lowest_empty img)
room_handed img = go (ltb (lowest_empty img) (blocks img)) refl
  where
    go : (b : Bool) → ltb (lowest_empty img) (blocks img) ≡ b → ok_or (cond b (Some (lowest_empty img)) None) NoRoom ≡ handed (verdict ((leb 1 (empty_blocks img) else NoRoom) ∷ [])) (lowest_empty img)
    go true e = rw (some-room img (λ z. omega (arith, z, ltb-true _ _ e)))
    go false e = rw (no_room img (omega (arith, ltb-false _ _ e, lowest_most img)))
