-- Document 01, "The flash image" and "Page forms": the sizes and the fixed byte strings of a page.
use Rattle.std.specs.Prelude.{ℕ, List, [], ◌∷◌}

-- header, payload and closing make up a page
abbrev pub header_size : ℕ
header_size = 30

abbrev pub payload_size : ℕ
payload_size = 224

abbrev pub closing_size : ℕ
closing_size = 2

abbrev pub page_size : ℕ
page_size = 256

-- where the closing starts
abbrev pub closing_at : ℕ
closing_at = 254

-- an erased byte is FFh
abbrev pub erased : ℕ
erased = 0xff

-- the closing, and the end of a header: colon and space
abbrev pub closing : List ℕ
closing = 0x0d ∷ 0x0a ∷ []

abbrev pub colon_space : List ℕ
colon_space = 0x3a ∷ 0x20 ∷ []

abbrev pub space : ℕ
space = 0x20
