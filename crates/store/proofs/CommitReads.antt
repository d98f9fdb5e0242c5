-- What a mount reads of its commit: the entries of the places, and the letters that the positions start with, part by part.
use Prim.Native.Nat.{ℕ, ◌+◌, ◌-◌, ◌*◌, ◌/◌, ◌%◌, ◌<◌, ◌≤◌}
use native.Mathlib.Omega.{arith}
use native.Mathlib.Decide.{dec_lt}
use mathlib.Core.Path.{◌≡◌, sym, ap, ◌∙◌}
use mathlib.Core.Bool.{true, cond}
use mathlib.Core.List.{List, ◌++◌}
use lib.Dec.{eqb}
use lib.ListN.{length, get_or, get_or-append}
use lib.Seq.{get_or-append-add}
use borrow.Author.Tests.{le-leb, lt-leb, lt-ltb, le-ltb}
use Rattle.base.specs.Part.{part}
use Rattle.base.specs.Search.{all_from}
use Rattle.base.specs.Each.{same}
use Rattle.base.proofs.Parts.{part_length}
use Rattle.base.proofs.Searches.{all_holds}
use Rattle.page.specs.Frame.{payload_size}
use Rattle.page.specs.Plan.{places}
use Rattle.page.specs.Entry.{none, free_letter, deleted_letter, entry_size, entries_in_part, first_entry_part, parts, vacant_entry, entry_part, entry_at, entry_of}
use Rattle.page.specs.Page.{payload_of}
use Rattle.page.specs.declared.Entry.{Entry}
use Rattle.page.specs.declared.Entry.TheVariants.{At as EntryAt, Vacant, Misspelt}
use Rattle.page.proofs.Commits.{entry_is}
use Rattle.image.specs.Size.{pages_in_block}
use Rattle.image.specs.Look.{page_at}
use Rattle.store.specs.Kind.{page_in}
use Rattle.store.specs.Mount.{letter_in, entry_in, by_entry}
use Rattle.store.specs.Replay.{held_at, EachPlace, EachLetter, part_read, LettersRead}

-- ---- one entry
-- what it gives fits a map
entry_most : (xs : List ℕ) (e : Entry) → length xs ≡ entry_size → entry_of xs ≡ e → ((by_entry e).page ≤ none) × ((by_entry e).key ≤ none)
entry_most xs (EntryAt page key) l q = let r = entry_is xs page key l q in (omega (arith, r.1), omega (arith, r.2))
entry_most xs Vacant l q = (omega arith, omega arith)
entry_most xs Misspelt l q = (omega arith, omega arith)

pub entry_at_most : (payload : List ℕ) (at : ℕ) (e : Entry) → at + entry_size ≤ length payload → e ≡ entry_of (part payload at entry_size)
    → ((by_entry e).page ≤ none) × ((by_entry e).key ≤ none)
entry_at_most payload at e h q = entry_most (part payload at entry_size) e (part_length payload at entry_size h) (sym q)

-- ---- the parts, as a loop has them: the places of those before part i hold their entries, the others none
pub record PartsRead (img : List ℕ) (c i : ℕ) (map scratch : List ℕ) : Type 0 where
  pub passed : (y : ℕ) → y < entries_in_part * (i - first_entry_part) → held_at map scratch y ≡ by_entry (entry_in img c y)
  pub ahead : (y : ℕ) → entries_in_part * (i - first_entry_part) ≤ y → y < places → held_at map scratch y ≡ by_entry Vacant

-- an entry of a part that is vacant throughout
vacant_entry_lem : (payload : List ℕ) (j : ℕ) → j < entries_in_part
    → all_from (λ i. same (part payload (entry_size * i) entry_size) vacant_entry) entries_in_part 0 ≡ true
    → entry_of (part payload (entry_size * j) entry_size) ≡ Vacant
unfolding entry_of
vacant_entry_lem payload j h t =
    rw (all_holds (λ i. same (part payload (entry_size * i) entry_size) vacant_entry) entries_in_part 0 j t (omega arith) (omega arith))

module _ (img : List ℕ) (c : ℕ) (payload : List ℕ) (i : ℕ) (after : first_entry_part ≤ i) (inside : i < parts)
    (here : payload ≡ payload_of (page_at img (page_in c i))) (map scratch : List ℕ) (so_far : PartsRead img c i map scratch) where
  -- the entry of a place of part i
  part-entry : (y : ℕ) → entries_in_part * (i - first_entry_part) ≤ y → y < entries_in_part * (i + 1 - first_entry_part)
      → entry_of (part payload (entry_size * (y - entries_in_part * (i - first_entry_part))) entry_size) ≡ entry_in img c y
  unfolding entry_in
  part-entry y h k =
      let q : entry_part y ≡ i = omega arith in
      let r : entry_at y ≡ entry_size * (y - entries_in_part * (i - first_entry_part)) = omega arith in
      rw (here, q, r)

  -- one more is read
  pub parts_next : (map' scratch' : List ℕ)
      → EachPlace (part_read payload (entries_in_part * (i - first_entry_part)) (entries_in_part * (i - first_entry_part) + entries_in_part)) map scratch map' scratch'
      → PartsRead img c (i + 1) map' scratch'
  parts_next map' scratch' read =
      let first = entries_in_part * (i - first_entry_part) in
      record {
        passed = λ y k.
            elim (dec_lt y first) [
              | yes m ↦ read y (omega arith) ∙ rw (lt-leb first y m) (so_far.passed y m)
              | no m ↦
                  read y (omega arith)
                  ∙ rw (le-leb first y (omega arith), lt-ltb y (first + entries_in_part) (omega arith)) (ap by_entry (part-entry y (omega arith) k))
            ];
        ahead = λ y k h.
            read y h
            ∙ rw (le-leb first y (omega arith), le-ltb y (first + entries_in_part) (omega arith)) (so_far.ahead y (omega arith) h);
      }

  -- one more is vacant throughout: its places hold none as they are
  pub parts-vacant : all_from (λ j. same (part payload (entry_size * j) entry_size) vacant_entry) entries_in_part 0 ≡ true
      → PartsRead img c (i + 1) map scratch
  parts-vacant vacant =
      let first = entries_in_part * (i - first_entry_part) in
      record {
        passed = λ y k.
            elim (dec_lt y first) [
              | yes m ↦ so_far.passed y m
              | no m ↦
                  so_far.ahead y (omega arith) (omega arith)
                  ∙ ap by_entry (sym (vacant_entry_lem payload (y - first) (omega arith) vacant) ∙ part-entry y (omega arith) k)
            ];
        ahead = λ y k h. so_far.ahead y (omega arith) h;
      }

-- ---- the letters of both parts
pub letters-read : (img : List ℕ) (c : ℕ) (first second xs ys letters letters' : List ℕ) → length xs ≡ payload_size
    → first ≡ payload_of (page_at img (c * pages_in_block)) → second ≡ payload_of (page_at img (c * pages_in_block + 1))
    → LettersRead first xs → LettersRead second ys → letters' ≡ xs ++ ys
    → EachLetter (λ p l. cond (eqb (letter_in img c p) free_letter) free_letter deleted_letter) letters letters'
unfolding letter_in
letters-read img c first second xs ys letters letters' l f s p q e i h =
    elim (dec_lt i payload_size) [
      | yes m ↦
          let a : page_in c (i / payload_size) ≡ c * pages_in_block = omega arith in
          let b : i % payload_size ≡ i = omega arith in
          rw (e, a, b, ← f) (get_or-append xs ys 0 i (omega arith) ∙ p i m)
      | no m ↦
          let a : page_in c (i / payload_size) ≡ c * pages_in_block + 1 = omega arith in
          let b : i % payload_size ≡ i - payload_size = omega arith in
          let k : i ≡ length xs + (i - payload_size) = omega arith in
          rw (e, a, b, ← s) (ap (λ (n : ℕ). get_or (xs ++ ys) n 0) k ∙ get_or-append-add xs ys (i - payload_size) 0 ∙ q (i - payload_size) (omega arith))
    ]
