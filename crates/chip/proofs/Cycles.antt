-- The cycles of a step, one by one.
use Prim.Native.Nat.{ℕ, zero, suc, ◌+◌, ◌-◌, ◌*◌, ◌%◌, ◌<◌, ◌≤◌}
use native.Mathlib.Omega.{arith}
use mathlib.Core.Path.{◌≡◌, refl, sym, ap, ◌∙◌}
use mathlib.Core.List.{List, [], ◌∷◌, ◌++◌, map}
use lib.ListN.{length, get_or}
use Rattle.chip.specs.declared.Cycle.{Cycle}
use Rattle.chip.specs.Cycle.{command, address, data_byte, program_second, read_status}
use Rattle.chip.specs.Driver.{row_cycle, program_cycles, erase_cycles, cycle_at}

-- ---- the cycles behind the address of a program
module _ (z : Cycle) where
  data_at : (page : List ℕ) (cs : List Cycle) (j : ℕ) → j < length page → get_or (map data_byte page ++ cs) j z ≡ data_byte (get_or page j 0)
  data_at [] cs j h = absurd (omega arith)
  data_at (x ∷ page) cs zero h = refl
  data_at (x ∷ page) cs (suc j) h = data_at page cs j (omega arith)

  data_past : (page : List ℕ) (cs : List Cycle) (j k : ℕ) → k ≡ length page + j → get_or (map data_byte page ++ cs) k z ≡ get_or cs j z
  data_past [] cs j k e = let f : k ≡ j = omega arith in ap (λ (m : ℕ). get_or cs m z) f
  data_past (x ∷ page) cs j zero e = absurd (omega arith)
  data_past (x ∷ page) cs j (suc k) e = data_past page cs j k (omega arith)

past_end : (c z : Cycle) (j : ℕ) → 0 < j → get_or (c ∷ z ∷ []) j z ≡ z
past_end c z zero h = absurd (omega arith)
past_end c z (suc zero) h = refl
past_end c z (suc (suc j)) h = refl

module _ (g : ℕ) (page : List ℕ) where
  pub program-column : (i : ℕ) → 2 ≤ i → i < 4 → address 0 ≡ cycle_at (program_cycles g page) i
  unfolding program_cycles
  program-column zero h k = absurd (omega arith)
  program-column (suc zero) h k = absurd (omega arith)
  program-column (suc (suc zero)) h k = refl
  program-column (suc (suc (suc zero))) h k = refl
  program-column (suc (suc (suc (suc i)))) h k = absurd (omega arith)

  pub program-row : (i : ℕ) → 4 ≤ i → i < 7 → row_cycle g (i - 4) ≡ cycle_at (program_cycles g page) i
  unfolding program_cycles
  program-row zero h k = absurd (omega arith)
  program-row (suc zero) h k = absurd (omega arith)
  program-row (suc (suc zero)) h k = absurd (omega arith)
  program-row (suc (suc (suc zero))) h k = absurd (omega arith)
  program-row (suc (suc (suc (suc zero)))) h k = refl
  program-row (suc (suc (suc (suc (suc zero))))) h k = refl
  program-row (suc (suc (suc (suc (suc (suc zero)))))) h k = refl
  program-row (suc (suc (suc (suc (suc (suc (suc i))))))) h k = absurd (omega arith)

  abbrev tail : List Cycle
  tail = command program_second ∷ command read_status ∷ []

  behind : (i : ℕ) → 7 ≤ i → cycle_at (program_cycles g page) i ≡ cycle_at (map data_byte page ++ tail) (i - 7)
  unfolding program_cycles
  behind i h = go (i - 7) (omega arith)
    where
      go : (j : ℕ) → i ≡ suc (suc (suc (suc (suc (suc (suc j)))))) → cycle_at (program_cycles g page) i ≡ cycle_at (map data_byte page ++ tail) j
      go j e = rw e

  pub program_data : (i : ℕ) → 7 ≤ i → i - 7 < length page → data_byte (get_or page (i - 7) 0) ≡ cycle_at (program_cycles g page) i
  program_data i h k = sym (behind i h ∙ data_at (command read_status) page tail (i - 7) k)

  pub program_second_lem : (i : ℕ) → 7 ≤ i → i - 7 ≡ length page → command program_second ≡ cycle_at (program_cycles g page) i
  program_second_lem i h k = sym (behind i h ∙ data_past (command read_status) page tail 0 (i - 7) (omega arith))

  pub program_status : (i : ℕ) → 7 ≤ i → length page < i - 7 → command read_status ≡ cycle_at (program_cycles g page) i
  program_status i h k =
      sym
      (behind i h ∙ data_past (command read_status) page tail (i - 7 - length page) (i - 7) (omega arith)
      ∙ past_end (command program_second) (command read_status) (i - 7 - length page) (omega arith))

  pub program-length : length (program_cycles g page) ≡ length page + 9
  unfolding program_cycles
  program-length = ap (λ (k : ℕ). suc (suc (suc (suc (suc (suc (suc k))))))) (go page) ∙ omega arith
    where
      go : (page : List ℕ) → length (map data_byte page ++ tail) ≡ length page + 2
      go [] = refl
      go (x ∷ page) = ap suc (go page) ∙ omega arith

-- ---- an erase: the row is the block's first page
module _ (b : ℕ) where
  abbrev short : ℕ
  short = b % 1048576 * 16

  pub erase-row : (i : ℕ) → 2 ≤ i → i < 5 → row_cycle short (i - 2) ≡ cycle_at (erase_cycles b) i
  unfolding erase_cycles
  erase-row zero h k = absurd (omega arith)
  erase-row (suc zero) h k = absurd (omega arith)
  erase-row (suc (suc zero)) h k = ap address (omega arith)
  erase-row (suc (suc (suc zero))) h k = ap address (omega arith)
  erase-row (suc (suc (suc (suc zero)))) h k = ap address (omega arith)
  erase-row (suc (suc (suc (suc (suc i))))) h k = absurd (omega arith)

  pub erase-length : length (erase_cycles b) ≡ 7
  unfolding erase_cycles
  erase-length = refl

  pub erase_status : (i : ℕ) → 6 ≤ i → command read_status ≡ cycle_at (erase_cycles b) i
  unfolding erase_cycles
  erase_status zero h = absurd (omega arith)
  erase_status (suc zero) h = absurd (omega arith)
  erase_status (suc (suc zero)) h = absurd (omega arith)
  erase_status (suc (suc (suc zero))) h = absurd (omega arith)
  erase_status (suc (suc (suc (suc zero)))) h = absurd (omega arith)
  erase_status (suc (suc (suc (suc (suc zero))))) h = absurd (omega arith)
  erase_status (suc (suc (suc (suc (suc (suc zero)))))) h = refl
  erase_status (suc (suc (suc (suc (suc (suc (suc i))))))) h = refl
