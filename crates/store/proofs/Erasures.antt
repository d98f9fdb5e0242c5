-- Blocks that a test picks, erased in order as code does it, on the image as it then is. What a mount erases are such blocks.
use Prim.Native.Nat.{ℕ, suc, ◌+◌, ◌-◌, ◌<◌, ◌≤◌, ◌*◌}
use native.Mathlib.Omega.{arith}
use native.Mathlib.Nat.{sub-zero}
use native.Mathlib.Numerals.{add-one}
use mathlib.Core.Path.{◌≡◌, refl, sym, ap, ◌∙◌}
use mathlib.Core.Bool.{Bool, true, false, not, ◌&&◌, ◌||◌}
use mathlib.Core.List.{List, [], map}
use lib.Dec.{ltb}
use lib.ListN.{length, get_or}
use borrow.Author.Tests.{le-ltb}
use Rattle.base.specs.Search.{which_from}
use Rattle.base.proofs.Choice.{true-false}
use Rattle.base.proofs.Searches.{any_fails, any_all_fail, which_agree, which_here, which_none}
use Rattle.image.specs.Size.{block_size, pages_in_block, most_blocks, blocks}
use Rattle.image.specs.Look.{block_at}
use Rattle.image.specs.Step.{erase}
use Rattle.image.specs.Power.{Device, device, act, run}
use Rattle.image.specs.declared.Power.{Power}
use Rattle.image.proofs.Runs.{run_nil, run_cons, act-length, block_done_other}
use Rattle.page.specs.declared.Form.{Form}
use Rattle.page.specs.declared.Form.TheVariants.{Empty, Whole, Torn, Spoilt}
use Rattle.image.specs.Look.{form_at}
use Rattle.store.specs.Kind.{page_in, headed, is_chosen, has_events, is_data}
use Rattle.store.specs.Record.{Record, record_of, is_dead, has_live}
use Rattle.store.specs.Mount.{covered_in, sequence_of, is_stray, has_above, is_covered_dead, is_swept}
use Rattle.store.specs.Rebuild.{Sweeping, is_unmarked}
use Rattle.store.specs.declared.Numbers.{Numbers}

-- ---- one that is not picked is not in the list
which_next : (p : ℕ → Bool) (n i : ℕ) → i < n → p i ≡ false → which_from p (n - i) i ≡ which_from p (n - (i + 1)) (i + 1)
unfolding which_from
which_next p n i h e = let k : n - i ≡ suc (n - (i + 1)) = omega arith in rw (k, e, add-one)

-- ---- a test picks blocks of the n of an image
module _ (picked : ℕ → Bool) (n : ℕ) (img₀ : List ℕ) (p₀ : Power) where
  -- those before b are done
  pub record Erasing (img : List ℕ) (p : Power) (b : ℕ) : Type 0 where
    pub size : length img ≡ length img₀
    pub later : (a : ℕ) → b ≤ a → block_at img a ≡ block_at img₀ a
    pub rest : run (map erase (which_from picked n 0)) (device p₀ img₀) ≡ run (map erase (which_from picked (n - b) b)) (device p img)

  pub erasing_first : Erasing img₀ p₀ 0
  erasing_first = record { size = refl; later = λ a h. refl; rest = rw sub-zero }

  -- block b is passed
  pub erasing_past : (img : List ℕ) (p : Power) (b : ℕ) → Erasing img p b → b < n → picked b ≡ false → Erasing img p (b + 1)
  erasing_past img p b so_far h e =
      record {
        size = so_far.size;
        later = λ a l. so_far.later a (omega arith);
        rest = so_far.rest ∙ rw (which_next picked n b h e);
      }

  -- block b is erased
  pub erasing_next : (img img' : List ℕ) (p q : Power) (b : ℕ) → Erasing img p b → b < n → n * block_size ≤ length img₀ → picked b ≡ true
      → device q img' ≡ act (erase b) (device p img) → Erasing img' q (b + 1)
  erasing_next img img' p q b so_far h inside e done =
      record {
        size = ap (λ (d : Device). length d.image) done ∙ act-length (erase b) (device p img) (omega (arith, so_far.size)) ∙ so_far.size;
        later = λ a l. block_done_other (erase b) p q img img' a done (omega (arith, so_far.size)) (λ i. omega arith) ∙ so_far.later a (omega arith);
        rest =
            so_far.rest
            ∙ rw (which_here picked n b h e, done) (run_cons (erase b) (map erase (which_from picked (n - (b + 1)) (b + 1))) (device p img));
      }

  pub erasing_last : (img : List ℕ) (p : Power) (b : ℕ) → Erasing img p b → n ≤ b → device p img ≡ run (map erase (which_from picked n 0)) (device p₀ img₀)
  erasing_last img p b e h = sym (e.rest ∙ rw (which_none picked n b h) (run_nil (device p img)))

-- ---- what a mount erases
-- what mount erases is not chosen, and has no event or no live page and nothing above the covered sequence
pub swept_is : (img : List ℕ) (r : Record) (b : ℕ)
    → is_swept img r b ≡ not (is_chosen r.numbers b) && (not (has_events img b) || not (has_live r.map b) && not
    (has_above img (covered_in img r.numbers.commit) b))
unfolding is_swept is_covered_dead is_dead is_stray is_data
swept_is img r b = go (is_chosen r.numbers b) (has_events img b) (has_live r.map b) (has_above img (covered_in img r.numbers.commit) b)
  where
    go : (c h l a : Bool) → not c && not (h && not c) || h && not c && not l && not a ≡ not c && (not h || not l && not a)
    go true true l a = refl
    go true false l a = refl
    go false true true a = refl
    go false true false true = refl
    go false true false false = refl
    go false false l a = refl

-- a block without an event has none above any sequence
unheaded_sequence : (m : Form) → headed m ≡ false → sequence_of m ≡ 0
unheaded_sequence Empty h = refl
unheaded_sequence (Whole f) h = rw h
unheaded_sequence (Torn f) h = rw h
unheaded_sequence Spoilt h = refl

none_above : (img : List ℕ) (s b : ℕ) → has_events img b ≡ false → has_above img s b ≡ false
none_above img s b e =
    any_all_fail (λ i. ltb s (sequence_of (form_at img (page_in b i)))) pages_in_block 0
    (λ i h l. rw (unheaded_sequence (form_at img (page_in b i)) (any_fails (λ i. headed (form_at img (page_in b i))) pages_in_block 0 i e h l))
    (le-ltb s 0 (omega arith)))

-- so two tables and what is chosen tell it
pub unmarked_swept : (img map' : List ℕ) (events lives : List Bool) (r : Numbers) → Sweeping img map' events r
    → ((b : ℕ) → b < most_blocks → has_live map' b ≡ get_or lives b false)
    → map erase (which_from (is_unmarked events lives r) (blocks img) 0) ≡ map erase (which_from (is_swept img (record_of map' [] r)) (blocks img) 0)
unmarked_swept img map' events lives r s live =
    ap (map erase) (which_agree (is_unmarked events lives r) (is_swept img (record_of map' [] r)) (blocks img) 0
    (λ b h l.
    let k : b < blocks img = omega arith in
    let covered = covered_in img r.commit in
    rw (s.told b k, ← live b (omega (arith, s.few)))
    (go (is_chosen r b) (has_events img b) (has_live map' b) (has_above img covered b) (s.headed b) (none_above img covered b)) ∙ sym
    (swept_is img (record_of map' [] r) b)))
  where
    go : (c h l a : Bool) → (l ≡ true → h ≡ true) → (h ≡ false → a ≡ false) → not (c || a || l) ≡ not c && (not h || not l && not a)
    go true h l a f g = refl
    go false true true true f g = refl
    go false true true false f g = refl
    go false true false true f g = refl
    go false true false false f g = refl
    go false false true a f g = absurd (true-false (f refl) refl)
    go false false false true f g = absurd (true-false refl (g refl))
    go false false false false f g = refl

-- and the code may go by one table of the three
pub kept_swept : (img map' : List ℕ) (events lives kept : List Bool) (r : Numbers) → Sweeping img map' events r
    → ((b : ℕ) → b < most_blocks → has_live map' b ≡ get_or lives b false)
    → ((b : ℕ) → b < blocks img → get_or kept b false ≡ is_chosen r b || get_or events b false || get_or lives b false)
    → map erase (which_from (λ b. not (get_or kept b false)) (blocks img) 0) ≡ map erase (which_from (is_swept img (record_of map' [] r)) (blocks img) 0)
kept_swept img map' events lives kept r s live told =
    ap (map erase) (which_agree (λ b. not (get_or kept b false)) (is_unmarked events lives r) (blocks img) 0 (λ b h l. rw (told b (omega arith))))
    ∙ unmarked_swept img map' events lives r s live
