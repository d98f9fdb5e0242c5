-- Document 01, "Page forms": whole, torn (a header without its closing), empty, or spoilt.
use Rattle.std.specs.Prelude.{ℕ, Bool, false, cond, List, Option, Some, None}
use Rattle.base.specs.Part.{part}
use Rattle.base.specs.Each.{same, all_are}
use Rattle.page.specs.Frame.{header_size, closing_at, closing_size, closing, erased}
use Rattle.page.specs.Header.{header_of, header_with, node_with, with_part}
use Rattle.page.specs.declared.Frame.{Frame}
use Rattle.page.specs.declared.Form.{Form}
use Rattle.page.specs.declared.Form.TheVariants.{Empty, Whole, Torn, Spoilt}

-- all bytes are FFh
unfoldable pub is_empty : List ℕ → Bool
is_empty xs = all_are erased xs

-- the last two bytes are the closing
unfoldable pub closed : List ℕ → Bool
closed page = same (part page closing_at closing_size) closing

-- the form, by the header that the page starts with
abbrev pub form_by : Option Frame → List ℕ → Form
form_by (Some f) page = cond (closed page) (Whole f) (Torn f)
form_by None page = cond (is_empty page) Empty Spoilt

-- the form of a page
unfoldable pub form_of : List ℕ → Form
form_of page = form_by (header_of (part page 0 header_size)) page

-- the second number in the header of a form, 0 where it has none
abbrev pub second_of : Form → ℕ
second_of Empty = 0
second_of (Whole f) = f.second
second_of (Torn f) = f.second
second_of Spoilt = 0

-- ---- tests of a form
-- a whole page with a given header
abbrev pub whole_with : Frame → Form → Bool
whole_with h Empty = false
whole_with h (Whole f) = header_with h (Some f)
whole_with h (Torn f) = false
whole_with h Spoilt = false

-- a whole node of a file, an offset and a key position, of any sequence
abbrev pub whole_node : ℕ → ℕ → ℕ → Form → Bool
whole_node file offset p Empty = false
whole_node file offset p (Whole f) = node_with file offset p (Some f)
whole_node file offset p (Torn f) = false
whole_node file offset p Spoilt = false

-- a whole page with the header of another whole page, but for the part
abbrev pub whole_like : Form → ℕ → Form → Bool
whole_like Empty n m = false
whole_like (Whole f) n m = whole_with (with_part n f) m
whole_like (Torn f) n m = false
whole_like Spoilt n m = false
