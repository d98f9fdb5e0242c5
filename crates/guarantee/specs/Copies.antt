-- Document 02, #102: a gather copies pages under the keys that they have, so several pages may stand under one key. What it means that they are all of one
-- node. `in_payloads`, `one_node_on_flash` and `pages_of_one_node` (NodesOnFlash) of proofs/ prove it of every list, after a call that was cut too.
-- Each point names, in brackets, wrong stores that it rules out.
use Rattle.std.specs.Prelude.{ℕ, ◌+◌, ◌*◌, ◌<◌, ◌≡◌, List, get_or, Option, Some}
use Rattle.std.proofs.Math.Option.{some}
use Rattle.base.specs.Part.{part}
use Rattle.page.specs.Frame.{header_size, payload_size, page_size, erased}
use Rattle.page.specs.Header.{node_letter, with_number, header_of}
use Rattle.page.specs.Key.{key_in_noise}
use Rattle.page.specs.Page.{enciphered}
use Rattle.page.specs.declared.Frame.{Frame}
use Rattle.image.specs.Look.{page_at}
use Rattle.guarantee.specs.Origin.{cipher}
use Rattle.guarantee.specs.Machine.{Machine, Node}

-- where byte j of page g's payload stands, and the header that page g begins with
abbrev pub payload_byte : ℕ → ℕ → ℕ
payload_byte g j = g * page_size + header_size + j

abbrev pub header_at : List ℕ → ℕ → Option Frame
header_at img g = header_of (part (page_at img g) 0 header_size)

-- the header is an N page's and names the node, under key position p
pub record Names (f : Frame) (p : ℕ) (v : Node) : Type 0 where
  pub kind : f.kind ≡ node_letter
  pub file : f.unit ≡ v.file
  pub offset : f.part ≡ v.offset
  pub key : f.key ≡ p
  pub second : f.second ≡ v.second

-- byte j of page g's payload, which is under the key that call c brought to position p, is the node's that the key has
pub record OfItsNode (m : Machine) (g j p c : ℕ) : Type 0 where
  -- there is one [a write that enciphers and is not noted]
  pub node : Node
  pub noted : m.nodes p c ≡ some node
  -- the byte is that of the node's 224, enciphered under that key [a copy that pads anew, or holds other bytes]
  pub byte : get_or m.image (payload_byte g j) erased ≡ get_or (enciphered (key_in_noise (m.noise c) p) node.bytes) j erased
  -- and the page's header, where it has one, is that node's [a copy that drops the second number, or goes to another offset]
  pub header : (f : Frame) → header_at m.image g ≡ Some f → Names f p node

-- every enciphered byte on the flash is one of a payload
abbrev pub InPayloads : Machine → Type 0
InPayloads m = (a p c : ℕ) → m.origin a ≡ cipher p c → (g j : ℕ) × (j < payload_size) × (a ≡ payload_byte g j)

-- and the one that its key's node has there
abbrev pub OneNodeOnFlash : Machine → Type 0
OneNodeOnFlash m = (g j p c : ℕ) → j < payload_size → m.origin (payload_byte g j) ≡ cipher p c → OfItsNode m g j p c

-- two pages of one node: headers that differ in their sequence alone, and the same bytes wherever both are under its key
pub record SameNode (m : Machine) (g h p c : ℕ) : Type 0 where
  pub headers : (f f' : Frame) → header_at m.image g ≡ Some f → header_at m.image h ≡ Some f' → f' ≡ with_number f'.number f
  pub bytes : (j : ℕ) → j < payload_size → m.origin (payload_byte g j) ≡ cipher p c → m.origin (payload_byte h j) ≡ cipher p c
      → get_or m.image (payload_byte g j) erased ≡ get_or m.image (payload_byte h j) erased
