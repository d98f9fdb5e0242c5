-- The map and the letters as the code reads and changes them.
use Prim.Native.Nat.{ℕ, zero, suc, ◌+◌, ◌-◌, ◌^◌, ◌<◌, ◌≤◌}
use native.Mathlib.Omega.{arith}
use native.Mathlib.Decide.{ℕ_discrete}
use mathlib.Core.Path.{◌≡◌, refl, sym, ap, ◌∙◌}
use mathlib.Core.Bool.{true, false, ◌||◌}
use mathlib.Core.List.{List, ◌++◌, map, append-nil}
use lib.ListN.{length, get_or, set, take, drop, length-set, length-take, length-map, get_or-map, drop_of_length-le}
use lib.Dec.{ltb}
use lib.Seq.{take_all, drop-cons, get_or-drop, get_or-append-add, get_or-set_same, get_or-set_other}
use borrow.Author.Tests.{lt-ltb, le-ltb, ltb-true}
use Rattle.std.specs.List.{list_any}
use Rattle.base.specs.Fold.{fold_from}
use Rattle.base.specs.Search.{any_from}
use Rattle.base.proofs.Folds.{fold_next, fold_none}
use Rattle.base.proofs.Parts.{copy_more}
use Rattle.page.specs.Plan.{file_plan, last_file, places, count_of, start_of}
use Rattle.page.specs.Key.{positions}
use Rattle.page.specs.Entry.{none}
use Rattle.page.proofs.Plans.{plan_length, plan_sum, start-after}
use Rattle.page.proofs.Slices.{get_d_there}
use Rattle.store.specs.Record.{Record, record_of, map_size, page_of, key_of, live}
use Rattle.store.specs.Write.{place_at, released}
use Rattle.store.specs.CutOff.{any_live, emptied, removed}
use Rattle.store.specs.Commit.{clean_letter}
use Rattle.store.specs.declared.Numbers.{Numbers}
use Rattle.store.proofs.Outcomes.{released-length}

-- a place in the map, read with any default
module _ (map : List ℕ) (x : ℕ) where
  pub page-read : x < length map → get_or map x 0 ≡ page_of map x
  page-read h = get_d_there map x 0 none h

  pub key-read : places + x < length map → get_or map (places + x) 0 ≡ key_of map x
  key-read h = get_d_there map (places + x) 0 none h

  -- a number of 16 bits that is not none stands for a node
  pub read-vacant : x < length map → get_or map x 0 ≡ none → live map x ≡ false
  read-vacant h e = le-ltb (page_of map x) none (omega (arith, page-read h))

  pub read_live : x < length map → get_or map x 0 < 2 ^ 16 → (get_or map x 0 ≡ none → ⊥) → live map x ≡ true
  read_live h b e = lt-ltb (page_of map x) none (omega (arith, page-read h))

-- ---- the places of a file end where the next file's begin
pub file-end : (file : ℕ) → file ≤ last_file → start_of file_plan file + count_of file_plan file ≤ places
file-end file h =
    let f : file < length file_plan = omega (arith, plan_length) in
    omega (arith, start-after file_plan file (length file_plan) f, plan_sum)

-- ---- a map with page g and key p at place x
abbrev pub put : List ℕ → ℕ → ℕ → ℕ → List ℕ
put map x g p = set (set map x g) (places + x) p

module _ (map : List ℕ) (x g p : ℕ) (full : length map ≡ map_size) (below : x < places) where
  pub put_page : page_of (put map x g p) x ≡ g
  put_page = get_or-set_other (set map x g) (places + x) x p none (λ z. omega arith) ∙ get_or-set_same map x g none (omega arith)

  pub put_key : key_of (put map x g p) x ≡ p
  put_key = get_or-set_same (set map x g) (places + x) p none (rw length-set (omega arith))

  -- the other places keep page and key
  pub page_stays : (y : ℕ) → y < places → (y ≡ x → ⊥) → page_of (put map x g p) y ≡ page_of map y
  page_stays y h o = get_or-set_other (set map x g) (places + x) y p none (λ z. omega arith) ∙ get_or-set_other map x y g none o

  pub key_stays : (y : ℕ) → (y ≡ x → ⊥) → key_of (put map x g p) y ≡ key_of map y
  key_stays y o = get_or-set_other (set map x g) (places + x) (places + y) p none (λ z. o (omega arith)) ∙ get_or-set_other map x (places + y) g none (λ z. omega arith)

-- ---- places made vacant one after the other
-- the keys of live places are positions
abbrev pub KeysBelow : List ℕ → Type 0
KeysBelow map = (x : ℕ) → x < places → live map x ≡ true → key_of map x < positions

-- so it stays where place x becomes vacant: it is live no more, and the others keep page and key
vacated_keys : (map : List ℕ) (x : ℕ) → length map ≡ map_size → x < places → KeysBelow map → KeysBelow (put map x none none)
vacated_keys map x full h keys y k l =
    elim (ℕ_discrete y x) [
      | yes e ↦ let p : page_of (put map x none none) y ≡ none = rw e (put_page map x none none full h) in absurd (omega (arith, ltb-true (page_of (put map x none none) y) none l))
      | no e ↦
          let p = page_stays map x none none full h y k e in
          let m : live map y ≡ true = lt-ltb (page_of map y) none (omega (arith, ltb-true (page_of (put map x none none) y) none l)) in
          omega (arith, key_stays map x none none full h y e, keys y k m)
    ]

-- ---- the places of a file from an offset on, as the code goes through them: x goes up to the file's end
module _ (file offset end x : ℕ) (last : end ≡ start_of file_plan file + count_of file_plan file) (first : x ≡ place_at file offset) where
  from_here : end - x ≡ count_of file_plan file - offset
  from_here = omega arith

  pub removed_from : (r : Record) → removed r file offset ≡ fold_from emptied (end - x) x r
  unfolding removed
  removed_from r = rw (from_here, first)

  pub live_from : (map : List ℕ) → any_live map file offset ≡ any_from (live map) (end - x) x
  unfolding any_live
  live_from map = rw (from_here, first)

-- a part of the map has a node where one of its places has
pub part_live : (map : List ℕ) (n x : ℕ) → x + n ≤ length map → list_any (λ page. ltb page none) (take n (drop x map)) ≡ any_from (live map) n x
unfolding any_from
part_live map zero x h = refl
part_live map (suc n) x h =
    let i : x < length map = omega arith in
    rw (drop-cons map x none) (ap (λ b. live map x || b) (part_live map n (suc x) (omega arith)))

-- the places before x are vacant, those from x on still to be
pub record Removing (file offset end : ℕ) (map₀ letters₀ map letters : List ℕ) (x : ℕ) : Type 0 where
  pub bound : x ≤ end
  pub map_full : length map ≡ map_size
  pub letters_full : length letters ≡ positions
  pub keys : KeysBelow map
  pub rest : (n : Numbers) → removed (record_of map₀ letters₀ n) file offset ≡ fold_from emptied (end - x) x (record_of map letters n)

module _ (file offset end : ℕ) (map₀ letters₀ map letters : List ℕ) (x : ℕ) where
  pub removing_next : (map' letters' : List ℕ) → Removing file offset end map₀ letters₀ map letters x → x < end → end ≤ places
      → map' ≡ set (set map x none) (places + x) none → letters' ≡ released map letters x
      → Removing file offset end map₀ letters₀ map' letters' (x + 1)
  removing_next map' letters' r h l a b =
      record {
        bound = omega arith;
        map_full = rw a (length-set (set map x none) (places + x) none ∙ length-set map x none ∙ r.map_full);
        letters_full = rw b (released-length map letters x ∙ r.letters_full);
        keys = rw a (vacated_keys map x r.map_full (omega arith) r.keys);
        rest = λ n. r.rest n ∙ fold_next emptied end x (record_of map letters n) (record_of map' letters' n) h (rw (a, b));
      }

  pub removing_done : Removing file offset end map₀ letters₀ map letters x → end ≤ x → (n : Numbers) → record_of map letters n ≡ removed (record_of map₀ letters₀ n) file offset
  removing_done r h n = sym (r.rest n ∙ fold_none emptied end x (record_of map letters n) h)

-- ---- letters made clean one after the other: those before p are
pub cleaned_next : (letters₀ letters : List ℕ) (p l : ℕ) → p < length letters₀ → letters ≡ take p (map clean_letter letters₀) ++ drop p letters₀ → l ≡ clean_letter (get_or letters p 0)
    → set letters p l ≡ take (p + 1) (map clean_letter letters₀) ++ drop (p + 1) letters₀
cleaned_next letters₀ letters p l h e f =
    let clean = map clean_letter letters₀ in
    let size : length clean ≡ length letters₀ = length-map letters₀ clean_letter in
    let front : length (take p clean) ≡ p = rw length-take (omega arith) in
    let end : p ≡ length (take p clean) + 0 = omega arith in
    let there : p + 0 ≡ p = omega arith in
    let old : get_or letters p 0 ≡ get_or letters₀ p 0
    = rw e (ap (λ (n : ℕ). get_or (take p clean ++ drop p letters₀) n 0) end ∙ get_or-append-add (take p clean) (drop p letters₀) 0 0 ∙ get_or-drop p letters₀ 0 0 ∙ ap (λ (n : ℕ). get_or letters₀ n 0) there) in
    let new : l ≡ get_or clean p 0 = f ∙ ap clean_letter old ∙ sym (get_or-map clean_letter letters₀ p 0) in
    rw (e, new) (copy_more clean letters₀ p 0 (omega arith) h)

pub cleaned_all : (letters₀ letters : List ℕ) (p : ℕ) → length letters₀ ≤ p → letters ≡ take p (map clean_letter letters₀) ++ drop p letters₀ → letters ≡ map clean_letter letters₀
cleaned_all letters₀ letters p h e =
    e ∙ rw (drop_of_length-le letters₀ h, append-nil, take_all p (map clean_letter letters₀) (rw length-map h))
