-- Document 01, "Calls and their refusals": what is known where a call passed all its tests, by name.
use Rattle.std.specs.Prelude.{ℕ, ◌+◌, ◌<◌, ◌≤◌, ◌≡◌, true, List, length}
use Rattle.page.specs.Frame.{payload_size}
use Rattle.page.specs.Plan.{file_plan, last_file, places, count_of}
use Rattle.page.specs.Header.{last_number}
use Rattle.page.specs.Key.{positions}
use Rattle.page.specs.Entry.{none}
use Rattle.image.specs.Size.{size_right}
use Rattle.image.specs.Look.{empty_blocks}
use Rattle.store.specs.Kind.{is_data}
use Rattle.store.specs.Record.{Record, map_size, page_of, keys_apart, fits}
use Rattle.store.specs.Find.{lowest_free, new_page, is_found, found_at}
use Rattle.store.specs.Format.{noise_size}
use Rattle.store.specs.Mount.{chosen_commit, chosen_keys, mount_map, entries_fit}
use Rattle.store.specs.Write.{place_at}
use Rattle.store.specs.CutOff.{any_live}
use Rattle.store.specs.Gather.{live_pages, room_for_all}

-- ---- what several calls test
-- map and letters of the right length
pub record Buffers (map letters : List ℕ) : Type 0 where
  pub map_full : length map ≡ map_size
  pub letters_full : length letters ≡ positions

-- an image of a right size, and a record on it that fits
pub record Ready (img : List ℕ) (r : Record) : Type 0 where
  pub size : size_right img ≡ true
  pub buffers : Buffers r.map r.letters
  pub fit : fits img r ≡ true

-- a file and an offset below its count
pub record Planned (file offset : ℕ) : Type 0 where
  pub file_right : file ≤ last_file
  pub offset_right : offset < count_of file_plan file

-- ---- the calls
pub record FormatTaken (img map letters noise : List ℕ) : Type 0 where
  pub size : size_right img ≡ true
  pub buffers : Buffers map letters
  pub noise_full : length noise ≡ noise_size

-- a mount that has chosen its blocks
pub record MountChosen (img map letters scratch : List ℕ) : Type 0 where
  pub size : size_right img ≡ true
  pub buffers : Buffers map letters
  pub scratch_full : length scratch ≡ places
  pub commit_there : is_found (chosen_commit img) ≡ true
  pub keys0_there : is_found (chosen_keys img 0) ≡ true
  pub keys1_there : is_found (chosen_keys img 1) ≡ true

pub record MountTaken (img map letters scratch : List ℕ) : Type 0 where
  pub size : size_right img ≡ true
  pub buffers : Buffers map letters
  pub scratch_full : length scratch ≡ places
  pub commit_there : is_found (chosen_commit img) ≡ true
  pub keys0_there : is_found (chosen_keys img 0) ≡ true
  pub keys1_there : is_found (chosen_keys img 1) ≡ true
  pub entries : entries_fit img (found_at (chosen_commit img)) ≡ true
  pub apart : keys_apart (mount_map img (found_at (chosen_commit img))) ≡ true

-- a second number and the bytes of a node's page
pub record Filling (second : ℕ) (bytes : List ℕ) : Type 0 where
  pub second_most : second ≤ payload_size
  pub bytes_full : length bytes ≡ payload_size

-- a node appended. A write's second number is its payload's length, its bytes are the padded payload
pub record WriteTaken (img : List ℕ) (r : Record) (file offset second : ℕ) (bytes : List ℕ) : Type 0 where
  pub ready : Ready img r
  pub planned : Planned file offset
  pub filling : Filling second bytes
  pub numbers_left : r.numbers.sequence ≤ last_number
  pub key_free : is_found (lowest_free r.letters) ≡ true
  pub room : is_found (new_page img r.numbers) ≡ true

pub record ReadTaken (img : List ℕ) (r : Record) (file offset : ℕ) (output : List ℕ) : Type 0 where
  pub ready : Ready img r
  pub planned : Planned file offset
  pub output_full : length output ≡ payload_size
  pub node_there : page_of r.map (place_at file offset) < none

pub record CutOffTaken (img : List ℕ) (r : Record) (file offset : ℕ) : Type 0 where
  pub ready : Ready img r
  pub planned : Planned file offset
  pub some_live : any_live r.map file offset ≡ true
  pub numbers_left : r.numbers.sequence ≤ last_number
  pub room : is_found (new_page img r.numbers) ≡ true

pub record CommitTaken (img : List ℕ) (r : Record) (noise : List ℕ) : Type 0 where
  pub ready : Ready img r
  pub noise_full : length noise ≡ noise_size
  pub numbers_left : r.numbers.epoch ≤ last_number
  pub room : 1 ≤ empty_blocks img

pub record WipeTaken (img : List ℕ) (r : Record) (noise : List ℕ) (file offset : ℕ) : Type 0 where
  pub ready : Ready img r
  pub planned : Planned file offset
  pub noise_full : length noise ≡ noise_size
  pub numbers_left : r.numbers.epoch + 1 ≤ last_number
  pub room : 1 ≤ empty_blocks img

pub record GatherTaken (img : List ℕ) (r : Record) (block : ℕ) : Type 0 where
  pub ready : Ready img r
  pub data_block : is_data img r.numbers block ≡ true
  pub some_live : 1 ≤ length (live_pages r.map block)
  pub numbers_left : r.numbers.sequence + length (live_pages r.map block) ≤ last_number + 1
  pub room : room_for_all block (live_pages r.map block) img r ≡ true
