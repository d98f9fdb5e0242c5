-- Document 01, "Cases", Listing: the text that the program prints for the bytes that it reads.
--   file_of, offset_of   the file and the offset of a place
--   row, rows_from      a line for each place with a node
--   totals             the line of the letters' counts
--   refusal            the line of a refused mount
--   listing_of, listed  the text for an image, and for any input
use Rattle.std.specs.Prelude.{ℕ, zero, suc, ◌+◌, ◌*◌, ◌-◌, cond, List, [], ◌∷◌, ◌++◌, length, get_or, replicate, eqb, ltb, Err}
use Rattle.base.specs.Search.{first_from, count_from}
use Rattle.page.specs.Column.{spell}
use Rattle.page.specs.Plan.{file_plan, last_file, places, count_of, start_of}
use Rattle.page.specs.Key.{positions}
use Rattle.page.specs.Entry.{free_letter, used_letter, deleted_letter}
use Rattle.store.specs.Reply.{number_of}
use Rattle.store.specs.Record.{map_size, page_of, key_of, live}
use Rattle.store.specs.Outcome.{Left, left_whole}
use Rattle.store.specs.Mount.{mount_of}
use Rattle.store.specs.declared.Error.TheVariants.{ImageSize}

-- a line ends in 0Ah
abbrev pub line_end : List ℕ
line_end = 0x0a ∷ []

-- ---- a place's file and offset
-- the first file whose places end after x
unfoldable pub file_of : ℕ → ℕ
file_of x = first_from (λ file. ltb x (start_of file_plan file + count_of file_plan file)) last_file 0

unfoldable pub offset_of : ℕ → ℕ
offset_of x = x - start_of file_plan (file_of x)

-- ---- rows: file and offset in 4 columns, page and key in 6
unfoldable pub row : ℕ → ℕ → ℕ → ℕ → List ℕ
row file offset page key = spell 4 file ++ (spell 4 offset ++ (spell 6 page ++ (spell 6 key ++ line_end)))

-- the row of place x; nothing where it has no node
unfoldable pub row_of : List ℕ → ℕ → List ℕ
row_of map x = cond (live map x) (row (file_of x) (offset_of x) (page_of map x) (key_of map x)) []

-- the rows of n places from x on
unfoldable pub rows_from : List ℕ → ℕ → ℕ → List ℕ
rows_from map zero x = []
rows_from map (suc n) x = row_of map x ++ rows_from map n (suc x)

-- ---- totals: the letters u, f and d, in 6 columns
-- at how many positions letter l stands
unfoldable pub total : ℕ → List ℕ → ℕ
total l letters = count_from (λ p. eqb (get_or letters p 0) l) positions 0

unfoldable pub totals : List ℕ → List ℕ
totals letters =
    spell 6 (total used_letter letters) ++ (spell 6 (total free_letter letters) ++ (spell 6 (total deleted_letter letters) ++ line_end))

-- ---- a refusal: its number, in 6 columns
unfoldable pub refusal : ℕ → List ℕ
refusal n = spell 6 n ++ line_end

-- ---- the text
-- by the number of mount's reply, and the map and the letters that mount leaves
unfoldable pub text_of : ℕ → List ℕ → List ℕ → List ℕ
text_of n map letters = cond (eqb n 0) (rows_from map places 0 ++ totals letters) (refusal n)

-- what a mount of the image leaves in a record and a scratch of zeros
unfoldable pub mounted_copy : List ℕ → Left
mounted_copy img = left_whole (mount_of img (replicate map_size 0) (replicate positions 0) (replicate places 0)) img

unfoldable pub listing_of : List ℕ → List ℕ
listing_of img = let m = mounted_copy img in text_of (number_of m.reply) m.after.map m.after.letters

-- the most bytes that are taken as an image; longer input gets the number of an image of wrong size
abbrev pub longest : ℕ
longest = 65536

unfoldable pub listed : List ℕ → List ℕ
listed input = cond (ltb longest (length input)) (refusal (number_of (Err ImageSize))) (listing_of input)

-- ---- sizes: of a row, of the line of totals, and of the longest text, which has a row for each place
abbrev pub row_size : ℕ
row_size = 21

abbrev pub totals_size : ℕ
totals_size = 19

abbrev pub text_size : ℕ
text_size = row_size * places + totals_size
