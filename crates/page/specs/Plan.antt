-- Document 01, "File plan": how many nodes each file holds, and a node's place.
use Rattle.std.specs.Prelude.{ℕ, zero, suc, ◌+◌, cond, List, [], ◌∷◌, get_or, ltb, Option, Some, None}

-- the counts of files 0 to 13
abbrev pub file_plan : List ℕ
file_plan = 32 ∷ 32 ∷ 24 ∷ 24 ∷ 16 ∷ 16 ∷ 16 ∷ 16 ∷ 8 ∷ 8 ∷ 8 ∷ 8 ∷ 8 ∷ 8 ∷ []

abbrev pub last_file : ℕ
last_file = 13

-- there are 224 places
abbrev pub places : ℕ
places = 224

-- the count of a file, 0 for what is no file
unfoldable pub count_of : List ℕ → ℕ → ℕ
count_of plan file = get_or plan file 0

-- the sum of the counts of the files before one
unfoldable pub start_of : List ℕ → ℕ → ℕ
start_of plan zero = 0
start_of [] (suc file) = 0
start_of (n ∷ plan) (suc file) = n + start_of plan file

-- a node's place: its offset after all earlier files; none where its file has no such offset
unfoldable pub place_of : List ℕ → ℕ → ℕ → Option ℕ
place_of plan file offset = cond (ltb offset (count_of plan file)) (Some (start_of plan file + offset)) None
