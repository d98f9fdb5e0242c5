-- The laws of key positions: a position has one key block, page and slot, and these have one position.
use Prim.Native.Nat.{ℕ, ◌+◌, ◌*◌, ◌<◌, ◌≤◌}
use native.Mathlib.Omega.{arith}
use mathlib.Core.Path.{◌≡◌}
use Rattle.page.specs.Key.{keys_in_page, keys_in_block, positions, key_block, key_page, key_slot}
use Rattle.page.specs.Header.{last_key_block, last_key_page}

module _ (p : ℕ) where
  pub position_back : keys_in_block * key_block p + keys_in_page * key_page p + key_slot p ≡ p
  position_back = omega arith

  pub slot_below : key_slot p < keys_in_page
  slot_below = omega arith

  pub page-within : key_page p ≤ last_key_page
  page-within = omega arith

  pub block_within : p < positions → key_block p ≤ last_key_block
  block_within h = omega arith

-- the position of a slot of a page of a key block
module _ (block page slot : ℕ) (h : page ≤ last_key_page) (k : slot < keys_in_page) where
  pub block_of_position : key_block (keys_in_block * block + keys_in_page * page + slot) ≡ block
  block_of_position = omega arith

  pub page_of-position : key_page (keys_in_block * block + keys_in_page * page + slot) ≡ page
  page_of-position = omega arith

  pub slot_of_position : key_slot (keys_in_block * block + keys_in_page * page + slot) ≡ slot
  slot_of_position = omega arith

  pub position_below : block ≤ last_key_block → keys_in_block * block + keys_in_page * page + slot < positions
  position_below b = omega arith
