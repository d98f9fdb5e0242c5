-- Document 01, "Page forms": where key position p, 0 to 447, stands.
use Rattle.std.specs.Prelude.{ℕ, ◌+◌, ◌*◌, ◌/◌, ◌%◌, List}
use Rattle.base.specs.Part.{part}
use Rattle.page.specs.Frame.{header_size}

-- a key has 16 bytes; a key page holds 14 of them, a key block 16 pages
abbrev pub key_size : ℕ
key_size = 16

abbrev pub keys_in_page : ℕ
keys_in_page = 14

abbrev pub keys_in_block : ℕ
keys_in_block = 224

-- there are 448 key positions
abbrev pub positions : ℕ
positions = 448

-- the position's key block, page of that block, and slot of that page
abbrev pub key_block : ℕ → ℕ
key_block p = p / keys_in_block

abbrev pub key_page : ℕ → ℕ
key_page p = p % keys_in_block / keys_in_page

abbrev pub key_slot : ℕ → ℕ
key_slot p = p % keys_in_page

-- the key in a slot of a key page's 256 bytes
unfoldable pub key_in_page : List ℕ → ℕ → List ℕ
key_in_page page slot = part page (header_size + key_size * slot) key_size

-- a key's worth of noise for each position: 7,168 bytes
abbrev pub noise_size : ℕ
noise_size = key_size * positions

-- position p's 16 bytes of noise
unfoldable pub key_in_noise : List ℕ → ℕ → List ℕ
key_in_noise noise p = part noise (key_size * p) key_size
