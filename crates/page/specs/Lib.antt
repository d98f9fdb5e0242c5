-- Document 01, "Page forms", "File plan" and the bytes of each kind of page, in the document's order.
--   Frame    the sizes and the fixed byte strings of a page
--   Column   decimal columns: how a number is spelt, and which number columns spell
--   Plan     the file plan: how many nodes a file has, and a node's place
--   Header   a header's fields, their ranges, its bytes, and the header that bytes are
--   Form     empty, whole, torn, spoilt
--   Key      where a key position stands
--   Entry    a commit's letters and entries, and the payload of each of its parts
--   Word     bytes taken together as one number, for code that looks at several at once
--   Page     the 256 bytes of a node, a cut-off, a key page and a commit page, and a page cut at byte k
-- Letters used throughout: p a key position, x a place, i a part or a page of a block, k a number of bytes.
pub mod Frame
pub mod Column
pub mod Plan
pub mod Header
pub mod Form
pub mod Key
pub mod Entry
pub mod Word
pub mod Page
