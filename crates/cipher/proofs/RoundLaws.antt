-- Laws of a round: the entries of the tables; a mixed column, row by row; the rounds that are left.
use mathlib.Core.Path.{◌≡◌, ap, ap₂, sym, ◌∙◌}
use mathlib.Core.List.{List, ◌++◌}
use Prim.Native.Nat.{ℕ, zero, suc, ◌+◌, ◌-◌, ◌*◌, ◌<◌, ◌≤◌}
use native.Mathlib.Numerals.{add-one}
use native.Mathlib.Omega.{arith}
use lib.ListN.{get_or}
use Rattle.base.specs.Part.{part}
use Rattle.base.proofs.Parts.{part-part, part_at}
use Rattle.cipher.specs.Field.{◌⊕◌}
use Rattle.cipher.specs.SBox.{s_box}
use Rattle.cipher.specs.Words.{little_endian, xor_bytes}
use Rattle.cipher.specs.Table.{row0, row1, row2, row3, row, s_box_table, round_table}
use Rattle.cipher.specs.Cipher.{Nr, sub_bytes, shift_rows, mix_bytes, mix_columns, add_round_key, rounds, cipher}
use Rattle.cipher.proofs.TableRules.{s_box_rule, round_table_rule}
use Rattle.cipher.proofs.WordLaws.{word_xor}

-- ---- what stands in a table that was passed on
pub s_box-entry : {t : List ℕ} → t ≡ s_box_table → (k : ℕ) → k < 256 → get_or t k 0 ≡ s_box k
s_box-entry e k h = ap (λ (l : List ℕ). get_or l k 0) e ∙ s_box_rule k h

-- an entry of the round table
module _ {t : List ℕ} (e : t ≡ round_table) (k : ℕ) (h : k < 256) where
  round_entry : part t (8 * k) 8 ≡ row0 (s_box k) ++ row0 (s_box k)
  round_entry = ap (λ (l : List ℕ). part l (8 * k) 8) e ∙ round_table_rule k h

  -- four bytes of it from byte b on
  round_word : (b : ℕ) → b ≤ 4 → part t (8 * k + b) 4 ≡ part (row0 (s_box k) ++ row0 (s_box k)) b 4
  round_word b g = sym (part-part t (8 * k) 8 b 4 (omega arith)) ∙ ap (λ (l : List ℕ). part l b 4) round_entry

  -- from byte 4 - r on they are what MixColumns makes of the S-box byte in row r
  pub round_row : (r : ℕ) → r < 4 → part t (8 * k + (4 - r)) 4 ≡ row r (s_box k)
  unfolding part
  round_row zero g = round_word 4 (omega arith)
  round_row (suc zero) g = round_word 3 (omega arith)
  round_row (suc (suc zero)) g = round_word 2 (omega arith)
  round_row (suc (suc (suc zero))) g = round_word 1 (omega arith)
  round_row (suc (suc (suc (suc r)))) g = absurd (omega arith)

  -- and byte 1 is the S-box byte
  pub s_box-byte : get_or t (8 * k + 1) 0 ≡ s_box k
  s_box-byte = sym (part_at t (8 * k) 8 1 0 (omega arith)) ∙ ap (λ (l : List ℕ). get_or l 1 0) round_entry

-- ---- a mixed column
-- what MixColumns makes of the bytes of four rows, added, is what it makes of the column
pub mixed : {a b c d : ℕ} (t0 t1 t2 t3 : ℕ)
    → little_endian t0 ≡ row0 a → little_endian t1 ≡ row1 b → little_endian t2 ≡ row2 c → little_endian t3 ≡ row3 d
    → little_endian (t0 ⊕ t1 ⊕ t2 ⊕ t3) ≡ mix_bytes a b c d
unfolding mix_bytes
mixed t0 t1 t2 t3 e0 e1 e2 e3 =
    word_xor (t0 ⊕ t1 ⊕ t2) t3
    ∙ ap₂ xor_bytes (word_xor (t0 ⊕ t1) t2 ∙ ap₂ xor_bytes (word_xor t0 t1 ∙ ap₂ xor_bytes e0 e1) e2) e3

-- ---- the rounds that are left
-- the block whose state after `done` rounds is s, whichever it is, has the state t after i rounds
abbrev pub Leads : List ℕ → List ℕ → ℕ → List ℕ → ℕ → Type 0
Leads w s done t i = (input : List ℕ) → s ≡ rounds w done (add_round_key w 0 input) → t ≡ rounds w i (add_round_key w 0 input)

module _ (w s : List ℕ) (done : ℕ) (t u : List ℕ) (i : ℕ) (l : Leads w s done t i) where
  -- one round more
  pub round_more : u ≡ add_round_key w (i + 1) (mix_columns (shift_rows (sub_bytes t))) → Leads w s done u (i + 1)
  unfolding rounds
  round_more e input h =
      e ∙ ap (λ (x : List ℕ). add_round_key w (i + 1) (mix_columns (shift_rows (sub_bytes x)))) (l input h) ∙ simp add-one

  -- the last round
  pub round_last : i ≡ Nr - 1 → u ≡ add_round_key w Nr (shift_rows (sub_bytes t))
      → (input : List ℕ) → s ≡ rounds w done (add_round_key w 0 input) → u ≡ cipher w input
  unfolding cipher
  round_last n e input h =
      e
      ∙ ap (λ (x : List ℕ). add_round_key w Nr (shift_rows (sub_bytes x)))
      (l input h ∙ ap (λ (r : ℕ). rounds w r (add_round_key w 0 input)) n)
