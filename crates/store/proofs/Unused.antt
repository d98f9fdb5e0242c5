-- Data blocks without a live page: a table of the blocks that the places of a map are in, filled place by place, and the blocks that it leaves out.
use Prim.Native.Nat.{ℕ, ◌+◌, ◌-◌, ◌/◌, ◌<◌, ◌≤◌}
use native.Mathlib.Omega.{arith}
use native.Mathlib.Decide.{ℕ_discrete}
use mathlib.Core.Path.{◌≡◌, refl, ap, ◌∙◌}
use mathlib.Core.Bool.{Bool, true, false, not, ◌&&◌, ◌||◌}
use mathlib.Core.List.{List}
use lib.Dec.{eqb}
use lib.ListN.{get_or, set, replicate, length-set, length-replicate, get_or-replicate}
use lib.Seq.{get_or-set_same, get_or-set_other}
use borrow.Author.Tests.{eqb-true, eq-eqb, ne_eqb, lt-ltb, le-ltb}
use Rattle.base.specs.Search.{any_from, all_from, which_from}
use Rattle.base.proofs.Choice.{and-true}
use Rattle.base.proofs.Searches.{all_holds, any_here, any_next, any_none, any_join, any_all_fail, which_agree}
use Rattle.page.specs.Plan.{places}
use Rattle.page.specs.Entry.{none}
use Rattle.image.specs.Size.{pages_in_block, most_blocks, blocks, size_right}
use Rattle.image.proofs.Looks.{sized}
use Rattle.store.specs.Kind.{is_data}
use Rattle.store.specs.Record.{page_of, key_of, live, vacant_at}
use Rattle.store.specs.Stages.{live_in, has_live, LiveMarked, is_unused, erases, unused_erases}
use Rattle.store.specs.declared.Numbers.{Numbers}

-- ---- the table: a block is marked, or a place from x on is live in it
pub marked_none : (map : List ℕ) (marked : List Bool) → marked ≡ replicate most_blocks false → LiveMarked map marked 0
unfolding has_live
marked_none map marked e =
    record {
      size = rw e (length-replicate {A = Bool} most_blocks false);
      told = λ b h. let z : get_or marked b false ≡ false = rw e (get_or-replicate most_blocks b false false h) in rw z;
    }

or-true : (a : Bool) → a || true ≡ true
or-true true = refl
or-true false = refl

or-false : (a : Bool) → a || false ≡ a
or-false true = refl
or-false false = refl

left_out : (a b : Bool) → not (a || not b) ≡ b && not a
left_out true true = refl
left_out true false = refl
left_out false true = refl
left_out false false = refl

and-false : (a : Bool) → a && false ≡ false
and-false true = refl
and-false false = refl

-- the block of place x's page is marked
pub marked_next : (map : List ℕ) (marked next : List Bool) (x g : ℕ) → LiveMarked map marked x → x < places → g ≡ page_of map x
    → next ≡ set marked (g / pages_in_block) true → LiveMarked map next (x + 1)
marked_next map marked next x g m h at e =
    record {
      size = rw e (length-set marked (g / pages_in_block) true ∙ m.size);
      told = λ b k. rw e (go b k (ℕ_discrete b (g / pages_in_block)));
    }
  where
    go : (b : ℕ) → b < most_blocks → Dec (b ≡ g / pages_in_block)
        → has_live map b ≡ get_or (set marked (g / pages_in_block) true) b false || any_from (live_in map b) (places - (x + 1)) (x + 1)
    go b k (yes d) =
        let one : get_or (set marked (g / pages_in_block) true) b false ≡ true = rw d (get_or-set_same marked (g / pages_in_block) true false (omega (arith, m.size))) in
        let l : live map x ≡ true = lt-ltb (page_of map x) none (omega arith) in
        let i : eqb (page_of map x / pages_in_block) b ≡ true = eq-eqb (page_of map x / pages_in_block) b (omega arith) in
        let here : live_in map b x ≡ true = rw (l, i) in
        m.told b k ∙ rw (any_here (live_in map b) places x h here, or-true (get_or marked b false), one)
    go b k (no d) =
        let same : get_or (set marked (g / pages_in_block) true) b false ≡ get_or marked b false = get_or-set_other marked (g / pages_in_block) b true false d in
        let i : eqb (page_of map x / pages_in_block) b ≡ false = ne_eqb (page_of map x / pages_in_block) b (λ z. d (omega arith)) in
        let not-here : live_in map b x ≡ false = rw i (and-false (live map x)) in
        m.told b k ∙ rw (any_next (live_in map b) places x h not-here, same)

-- vacant places in a row have no live page
pub marked_run : (map : List ℕ) (marked : List Bool) (n x : ℕ) → x + n ≤ places → all_from (vacant_at map) n x ≡ true → LiveMarked map marked x → LiveMarked map marked (x + n)
marked_run map marked n x h v m =
    record { size = m.size; told = λ b k. m.told b k ∙ ap (λ (t : Bool). get_or marked b false || t) (passed b) }
  where
    dead : (b y : ℕ) → vacant_at map y ≡ true → live_in map b y ≡ false
    dead b y e =
        let z = eqb-true (page_of map y) none (and-true (eqb (page_of map y) none) (eqb (key_of map y) none) e).0 in
        rw (le-ltb (page_of map y) none (omega arith))

    passed : (b : ℕ) → any_from (live_in map b) (places - x) x ≡ any_from (live_in map b) (places - (x + n)) (x + n)
    passed b =
        let l : places - x ≡ n + (places - (x + n)) = omega arith in
        rw (l, any_join (live_in map b) n (places - (x + n)) x, any_all_fail (live_in map b) n x (λ y g k. dead b y (all_holds (vacant_at map) n x y v g k)))

pub marked_all : (map : List ℕ) (marked : List Bool) (x : ℕ) → LiveMarked map marked x → places ≤ x → (b : ℕ) → b < most_blocks → has_live map b ≡ get_or marked b false
marked_all map marked x m h b k = m.told b k ∙ rw (any_none (live_in map b) places x h) (or-false (get_or marked b false))

-- ---- the blocks that are not marked
pub unmarked_unused : (img map : List ℕ) (lives marked : List Bool) (r : Numbers) → size_right img ≡ true → ((b : ℕ) → b < most_blocks → has_live map b ≡ get_or lives b false)
    → ((b : ℕ) → b < blocks img → get_or marked b false ≡ get_or lives b false || not (is_data img r b))
    → erases (which_from (λ b. not (get_or marked b false)) (blocks img) 0) ≡ unused_erases map r img
unfolding unused_erases
unmarked_unused img map lives marked r size told marks =
    ap erases (which_agree (λ b. not (get_or marked b false)) (is_unused img map r) (blocks img) 0
    (λ b l h. rw (told b (omega (arith, (sized img size).most)), marks b (omega arith)) (left_out (get_or lives b false) (is_data img r b))))
