-- The laws of a commit's payloads: an entry has one spelling and reads back, and so do the letters and the entries of a map.
use Prim.Native.Nat.{ℕ, zero, suc, ◌+◌, ◌*◌, ◌-◌, ◌/◌, ◌%◌, ◌<◌, ◌≤◌}
use native.Mathlib.Omega.{arith}
use native.Mathlib.Nat.{add-zero, zero-add}
use native.Mathlib.Decide.{dec_lt}
use mathlib.Core.Path.{◌≡◌, refl, sym, ap, ◌∙◌}
use mathlib.Core.Logic.{◌⊎◌, ⊎_elim}
use mathlib.Core.Bool.{Bool, true, false, cond, ◌&&◌}
use mathlib.Core.List.{List, ◌++◌, append_assoc, append-nil}
use lib.ListN.{length, take, drop, get_or, length-append}
use lib.Seq.{drop-drop}
use lib.Dec.{eqb, leb}
use borrow.Author.Tests.{ne_eqb, lt-ltb, le-ltb, le-leb, leb-true}
use Rattle.base.specs.Part.{part}
use Rattle.base.specs.Each.{same}
use Rattle.base.specs.Search.{all_from}
use Rattle.base.proofs.Choice.{and-true}
use Rattle.base.proofs.Eachs.{same_true, same_false}
use Rattle.base.proofs.Parts.{part_length, part_at, put_next}
use Rattle.base.proofs.Searches.{all_holds, all_intro}
use Rattle.page.specs.Frame.{payload_size}
use Rattle.page.specs.Plan.{places}
use Rattle.page.specs.Key.{positions}
use Rattle.page.specs.Header.{last_position}
use Rattle.page.specs.Column.{spell, columns, number_in, number_then, pair_in}
use Rattle.page.specs.Entry.{is_letter, entry_size, entries_in_part, last_page, first_entry_part, parts, none, vacant_entry, entry_bytes, entry_of, is_entry, entry_part, entry_at, entries_from, commit_payload, valid_payload}
use Rattle.std.specs.Prelude.{Option, Some, None}
use Rattle.page.specs.declared.Entry.{Entry}
use Rattle.page.specs.declared.Entry.TheVariants.{At, Vacant, Misspelt}
use Rattle.page.proofs.Slices.{part_front, part_past, part_back, part_halves}
use Rattle.page.proofs.Column.{length-spell, number_spell, number_part, pair_then, pair_then_lem}

-- ---- one entry
pub entry_length : (page key : ℕ) → length (entry_bytes page key) ≡ entry_size
unfolding entry_bytes
entry_length page key = go (eqb page none)
  where
    go : (b : Bool) → length (cond b vacant_entry (spell 4 page ++ spell 4 key)) ≡ entry_size
    go true = refl
    go false =
        omega (arith, length-append (spell 4 page) (spell 4 key), length-spell 4 page (omega arith), length-spell 4 key (omega arith))

-- the last column of a page is a digit, and no hyphen
not-vacant : (page : ℕ) (ys : List ℕ) → spell 4 page ++ ys ≡ vacant_entry → ⊥
unfolding spell columns
not-vacant page ys e = let k : 0x30 + page % 10 ≡ 0x2d = ap (λ (l : List ℕ). get_or l 3 0) e in omega arith

-- what is written is what is read
pub entry_at_lem : (page key : ℕ) → page ≤ last_page → key ≤ last_position → entry_of (entry_bytes page key) ≡ At page key
unfolding entry_bytes entry_of
entry_at_lem page key h k =
    let p : length (spell 4 page) ≡ 4 = length-spell 4 page (omega arith) in
    let q : length (spell 4 key) ≡ 4 = length-spell 4 key (omega arith) in
    rw (ne_eqb page none (λ e. omega arith))
    (rw (
      same_false (spell 4 page ++ spell 4 key) vacant_entry (not-vacant page (spell 4 key)),
      part_front (spell 4 page) (spell 4 key) 4 p,
      part_back (spell 4 page) (spell 4 key) 4 4 p q,
      number_spell 4 page (omega arith) (omega arith),
      number_spell 4 key (omega arith) (omega arith),
      le-leb page last_page h,
      le-leb key last_position k,
    ))

pub entry-none : (key : ℕ) → entry_of (entry_bytes none key) ≡ Vacant
unfolding entry_bytes entry_of same
entry-none key = refl

-- the numbers of an entry that is not vacant are read as a pair
abbrev entry_with : ℕ → ℕ → Entry
entry_with page key = cond (leb page last_page && leb key last_position) (At page key) Misspelt

pub entry_by_pair : (xs : List ℕ) → same xs vacant_entry ≡ false → entry_of xs ≡ pair_then (pair_in (part xs 0 4) (part xs 4 4)) Misspelt entry_with
unfolding entry_of
entry_by_pair xs e = rw e (pair_then_lem (part xs 0 4) (part xs 4 4) Misspelt entry_with)

-- one spelling: what is read as an entry is that entry's bytes, and no others
abbrev read : Bool → Option ℕ → Option ℕ → Entry
read b m n = cond b Vacant (number_then m Misspelt λ page. number_then n Misspelt λ key. entry_with page key)

module _ (xs : List ℕ) where
  pub entry_is : (page key : ℕ) → length xs ≡ entry_size → entry_of xs ≡ At page key
      → (xs ≡ entry_bytes page key) × (page ≤ last_page) × (key ≤ last_position)
  unfolding entry_of entry_bytes
  entry_is page key l = go (same xs vacant_entry) (number_in (part xs 0 4)) (number_in (part xs 4 4)) refl refl
    where
      within : (m n : ℕ) (t : Bool) → leb m last_page && leb n last_position ≡ t → number_in (part xs 0 4) ≡ Some m → number_in (part xs 4 4) ≡ Some n
          → cond t (At m n) Misspelt ≡ At page key → (xs ≡ entry_bytes page key) × (page ≤ last_page) × (key ≤ last_position)
      within m n false t p q e = absurd (let z : ◌≡◌ {A = ℕ} 0 1 = cc in omega arith)
      within m n true t p q e =
          let a : m ≡ page = cc in
          let b : n ≡ key = cc in
          let r = and-true (leb m last_page) (leb n last_position) t in
          let f : page ≤ last_page = rw (← a) (leb-true m last_page r.0) in (
            rw (ne_eqb page none (λ z. omega arith))
                (sym (part_halves xs 4 4 l) ∙ rw (number_part xs 0 4 m (omega arith) p, number_part xs 4 4 n (omega arith) q, a, b)),
            f,
            rw (← b) (leb-true n last_position r.1),
          )

      go : (b : Bool) (m n : Option ℕ) → number_in (part xs 0 4) ≡ m → number_in (part xs 4 4) ≡ n
          → read b m n ≡ At page key → (xs ≡ entry_bytes page key) × (page ≤ last_page) × (key ≤ last_position)
      go true m n p q e = absurd (let z : ◌≡◌ {A = ℕ} 0 1 = cc in omega arith)
      go false None n p q e = absurd (let z : ◌≡◌ {A = ℕ} 0 1 = cc in omega arith)
      go false (Some m) None p q e = absurd (let z : ◌≡◌ {A = ℕ} 0 1 = cc in omega arith)
      go false (Some m) (Some n) p q e = within m n (leb m last_page && leb n last_position) refl p q e

  pub entry_vacant : entry_of xs ≡ Vacant → xs ≡ vacant_entry
  unfolding entry_of
  entry_vacant = go (same xs vacant_entry) (number_in (part xs 0 4)) (number_in (part xs 4 4)) refl
    where
      within : (m n : ℕ) (t : Bool) → cond t (At m n) Misspelt ≡ Vacant → xs ≡ vacant_entry
      within m n true e = absurd (let z : ◌≡◌ {A = ℕ} 0 1 = cc in omega arith)
      within m n false e = absurd (let z : ◌≡◌ {A = ℕ} 0 1 = cc in omega arith)

      go : (b : Bool) (m n : Option ℕ) → same xs vacant_entry ≡ b → read b m n ≡ Vacant → xs ≡ vacant_entry
      go true m n s e = same_true xs vacant_entry s
      go false None n s e = absurd (let z : ◌≡◌ {A = ℕ} 0 1 = cc in omega arith)
      go false (Some m) None s e = absurd (let z : ◌≡◌ {A = ℕ} 0 1 = cc in omega arith)
      go false (Some m) (Some n) s e = within m n (leb m last_page && leb n last_position) e

-- ---- vacant entries
pub vacant-entries : (payload : List ℕ) → all_from (λ j. same (part payload (entry_size * j) entry_size) vacant_entry) entries_in_part 0 ≡ true
    → all_from (λ j. is_entry (entry_of (part payload (entry_size * j) entry_size))) entries_in_part 0 ≡ true
unfolding entry_of
vacant-entries payload t =
    all_intro (λ j. is_entry (entry_of (part payload (entry_size * j) entry_size))) entries_in_part 0
    (λ j g h. rw (all_holds (λ j. same (part payload (entry_size * j) entry_size) vacant_entry) entries_in_part 0 j t g h))

-- ---- the entries of a map
-- a map's entry of place x
abbrev pub entry_for : List ℕ → ℕ → List ℕ
entry_for map x = entry_bytes (get_or map x none) (get_or map (places + x) none)

module _ (map : List ℕ) where
  pub entries-length : (n x : ℕ) → length (entries_from map n x) ≡ entry_size * n
  unfolding entries_from
  entries-length zero x = refl
  entries-length (suc n) x =
      omega (arith, length-append (entry_for map x) (entries_from map n (suc x)), entry_length (get_or map x none) (get_or map (places + x) none), entries-length n (suc x))

  -- one more entry, at the end
  pub entries_one : (x : ℕ) → entries_from map 1 x ≡ entry_for map x
  unfolding entries_from
  entries_one x = append-nil (entry_for map x)

  entries_join : (n k x : ℕ) → entries_from map (n + k) x ≡ entries_from map n x ++ entries_from map k (x + n)
  unfolding entries_from
  entries_join zero k x = rw (zero-add, add-zero)
  entries_join (suc n) k x =
      let e : suc n + k ≡ suc (n + k) = omega arith in
      let m : suc x + n ≡ x + suc n = omega arith in
      rw e
      (ap (λ (t : List ℕ). entry_for map x ++ t) (entries_join n k (suc x) ∙ ap (λ (y : ℕ). entries_from map n (suc x) ++ entries_from map k y) m)
      ∙ sym (append_assoc (entry_for map x) (entries_from map n (suc x)) (entries_from map k (x + suc n))))

  pub part-entries : (n x j : ℕ) → j < n → part (entries_from map n x) (entry_size * j) entry_size ≡ entry_for map (x + j)
  unfolding entries_from
  part-entries zero x j h = absurd (omega arith)
  part-entries (suc n) x zero h =
      rw add-zero (part_front (entry_for map x) (entries_from map n (suc x)) entry_size (entry_length (get_or map x none) (get_or map (places + x) none)))
  part-entries (suc n) x (suc j) h =
      let k : entry_size * suc j ≡ entry_size + entry_size * j = omega arith in
      let m : suc x + j ≡ x + suc j = omega arith in
      rw k
      (part_past (entry_for map x) (entries_from map n (suc x)) entry_size (entry_size * j) entry_size (entry_length (get_or map x none) (get_or map (places + x) none))
      ∙ part-entries n (suc x) j (omega arith) ∙ ap (entry_for map) m)

-- n entries more are written
pub write_next : (map dst dst₀ front rest ys : List ℕ) (n j x : ℕ) → dst ≡ entries_from map j x ++ drop (entry_size * j) dst₀
    → front ≡ take (entry_size * j) dst → rest ≡ drop (entry_size * j) dst → ys ≡ entries_from map n (x + j)
    → front ++ (ys ++ drop (entry_size * n) rest) ≡ entries_from map (j + n) x ++ drop (entry_size * (j + n)) dst₀
write_next map dst dst₀ front rest ys n j x d f r e =
    let m : entry_size * (j + n) ≡ entry_size * j + entry_size * n = omega arith in
    rw (f, r, d, e, m, entries_join map j n x)
    (put_next (entries_from map j x) (drop (entry_size * j) dst₀) (entries_from map n (x + j)) (entry_size * j) (entry_size * n) (entries-length map j x)
    ∙ ap (λ (t : List ℕ). (entries_from map j x ++ entries_from map n (x + j)) ++ t) (drop-drop (entry_size * n) (entry_size * j) dst₀))

-- ---- the payload of a commit's part
pub payload-length : (map letters : List ℕ) (i : ℕ) → length letters ≡ positions → length (commit_payload map letters i) ≡ payload_size
unfolding commit_payload
payload-length map letters i h =
    elim (dec_lt i first_entry_part) [
      | yes l ↦ rw (lt-ltb i first_entry_part l) (part_length letters (payload_size * i) payload_size (omega arith))
      | no l ↦ rw (le-ltb i first_entry_part (omega arith)) (entries-length map entries_in_part (entries_in_part * (i - first_entry_part)))
    ]

-- a position's letter, in parts 0 and 1
pub letter_back : (map letters : List ℕ) (p : ℕ) → p < positions → get_or (commit_payload map letters (p / payload_size)) (p % payload_size) 0 ≡ get_or letters p 0
unfolding commit_payload
letter_back map letters p h =
    let k : payload_size * (p / payload_size) + p % payload_size ≡ p = omega arith in
    rw (lt-ltb (p / payload_size) first_entry_part (omega arith))
    (part_at letters (payload_size * (p / payload_size)) payload_size (p % payload_size) 0 (omega arith) ∙ rw k)

pub letters_back : (map letters : List ℕ) → length letters ≡ positions → commit_payload map letters 0 ++ commit_payload map letters 1 ≡ letters
unfolding commit_payload
letters_back map letters h = part_halves letters payload_size payload_size h

-- a place's entry, in its part
pub entry_back : (map letters : List ℕ) (x : ℕ) → part (commit_payload map letters (entry_part x)) (entry_at x) entry_size ≡ entry_for map x
unfolding commit_payload
entry_back map letters x =
    let k : entries_in_part * (first_entry_part + x / entries_in_part - first_entry_part) ≡ entries_in_part * (x / entries_in_part) = omega arith in
    let m : entries_in_part * (x / entries_in_part) + x % entries_in_part ≡ x = omega arith in
    rw (le-ltb (first_entry_part + x / entries_in_part) first_entry_part (omega arith), k)
    (part-entries map entries_in_part (entries_in_part * (x / entries_in_part)) (x % entries_in_part) (omega arith) ∙ ap (entry_for map) m)

-- ---- valid payloads
pub valid-letter : (i : ℕ) (payload : List ℕ) (j : ℕ) → i < first_entry_part → valid_payload i payload ≡ true → j < payload_size → is_letter (get_or payload j 0) ≡ true
unfolding valid_payload
valid-letter i payload j l e h =
    all_holds (λ j. is_letter (get_or payload j 0)) payload_size 0 j (rw (lt-ltb i first_entry_part l) at e) (omega arith) (omega arith)

pub valid-entry : (i : ℕ) (payload : List ℕ) (j : ℕ) → first_entry_part ≤ i → valid_payload i payload ≡ true → j < entries_in_part
    → is_entry (entry_of (part payload (entry_size * j) entry_size)) ≡ true
unfolding valid_payload
valid-entry i payload j l e h =
    all_holds (λ j. is_entry (entry_of (part payload (entry_size * j) entry_size))) entries_in_part 0 j (rw (le-ltb i first_entry_part l) at e) (omega arith) (omega arith)

-- what a map has for a place: none, or a page and a key in their ranges
abbrev pub InRange : ℕ → ℕ → Type 0
InRange page key = (page ≡ none) ⊎ ((page ≤ last_page) × (key ≤ last_position))

pub entry-valid : (page key : ℕ) → InRange page key → is_entry (entry_of (entry_bytes page key)) ≡ true
entry-valid page key =
    ⊎_elim (λ e. rw (e, entry-none)) (λ w. rw (entry_at_lem page key w.0 w.1))

-- what is written from letters and entries is valid
pub payload-valid : (map letters : List ℕ) (i : ℕ) → i < parts
    → ((p : ℕ) → p < positions → is_letter (get_or letters p 0) ≡ true)
    → ((x : ℕ) → x < places → InRange (get_or map x none) (get_or map (places + x) none))
    → valid_payload i (commit_payload map letters i) ≡ true
unfolding commit_payload valid_payload
payload-valid map letters i h ls es =
    elim (dec_lt i first_entry_part) [
      | yes l ↦ rw (lt-ltb i first_entry_part l)
          (all_intro (λ j. is_letter (get_or (part letters (payload_size * i) payload_size) j 0)) payload_size 0
          (λ j a b. rw (part_at letters (payload_size * i) payload_size j 0 (omega arith)) (ls (payload_size * i + j) (omega arith))))
      | no l ↦ rw (le-ltb i first_entry_part (omega arith))
          (all_intro (λ j. is_entry (entry_of (part (entries_from map entries_in_part (entries_in_part * (i - first_entry_part))) (entry_size * j) entry_size))) entries_in_part 0
          (λ j a b. rw (part-entries map entries_in_part (entries_in_part * (i - first_entry_part)) j (omega arith))
          (entry-valid _ _ (es (entries_in_part * (i - first_entry_part) + j) (omega arith)))))
    ]
