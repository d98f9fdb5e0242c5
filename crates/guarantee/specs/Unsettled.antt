-- Document 02, #106: blocks that are unsettled since an erase of them was cut, whatever they read, and that nothing is programmed there.
use Rattle.std.specs.Prelude.{ℕ, zero, suc, ◌/◌, ◌≡◌, Bool, false, not, ◌&&◌, ◌||◌, List, [], ◌∷◌, eqb, ltb}
use Rattle.image.specs.Size.{pages_in_block, blocks}
use Rattle.image.specs.Step.{Step, program, erase}

-- ---- which blocks are unsettled; u says which were before
-- before a format any block of the image may be
abbrev pub any_block : List ℕ → ℕ → Bool
any_block img b = ltb b (blocks img)

-- after a step that was done whole
abbrev pub after_whole : Step → (ℕ → Bool) → ℕ → Bool
after_whole (program g page) u b = u b
after_whole (erase d) u b = not (eqb b d) && u b

-- after one at which the power ended, at whatever byte: before its first and behind its last too
abbrev pub after_cut : Step → (ℕ → Bool) → ℕ → Bool
after_cut (program g page) u b = u b
after_cut (erase d) u b = eqb b d || u b

-- over n steps and the one behind them, as `play`
unfoldable pub unsettled_after : ℕ → List Step → (ℕ → Bool) → ℕ → Bool
unsettled_after n [] u = u
unsettled_after zero (s ∷ ss) u = after_cut s u
unsettled_after (suc n) (s ∷ ss) u = unsettled_after n ss (after_whole s u)

-- ---- no step programs a page of an unsettled block
abbrev pub OnSettled : (ℕ → Bool) → Step → Type 0
OnSettled u (program g page) = u (g / pages_in_block) ≡ false
OnSettled u (erase b) = Unit {0}

abbrev pub AllOnSettled : (ℕ → Bool) → List Step → Type 0
AllOnSettled u [] = Unit {0}
AllOnSettled u (s ∷ ss) = OnSettled u s × AllOnSettled (after_whole s u) ss
