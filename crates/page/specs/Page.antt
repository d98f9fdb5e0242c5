-- The 256 bytes of each kind of page (document 01, "Page forms" and "Cipher"), and what a program that is cut leaves of them.
use Rattle.std.specs.Prelude.{ℕ, ◌-◌, List, ◌++◌, length, take, replicate}
use Rattle.base.specs.Part.{part, splice}
use Rattle.cipher.specs.KeyExpansion.{key_expansion}
use Rattle.cipher.specs.CounterMode.{counter_mode}
use Rattle.page.specs.Frame.{header_size, payload_size, page_size, closing, erased, space}
use Rattle.page.specs.Column.{spell}
use Rattle.page.specs.Header.{part_at, part_width, header_bytes, length_of, node_frame, cut_off_frame, keys_frame, commit_frame}
use Rattle.page.specs.Form.{second_of, form_of}
use Rattle.page.specs.declared.Frame.{Frame}

-- header, payload, closing
unfoldable pub page_bytes : Frame → List ℕ → List ℕ
page_bytes f payload = header_bytes f ++ (payload ++ closing)

-- the same of a header's 30 bytes with another part
unfoldable pub page_like : List ℕ → ℕ → List ℕ → List ℕ
page_like header n payload = splice header part_at (spell part_width n) ++ (payload ++ closing)

-- "Cipher": AES-128 in counter mode from zero, under a key of 16 bytes; the same both ways
unfoldable pub enciphered : List ℕ → List ℕ → List ℕ
enciphered key payload = counter_mode (key_expansion key) payload

-- a payload of at most 224 bytes, with spaces after it
unfoldable pub padded : List ℕ → List ℕ
padded payload = payload ++ replicate (payload_size - length payload) space

-- N: a node of a sequence, file, offset, key position and second number, its 224 bytes enciphered under a key
unfoldable pub node_page : ℕ → ℕ → ℕ → ℕ → ℕ → List ℕ → List ℕ → List ℕ
node_page sequence file offset position second key bytes = page_bytes (node_frame sequence file offset position second) (enciphered key bytes)

-- D: a cut-off of a sequence, file and first offset removed; its payload is spaces
unfoldable pub cut_off_page : ℕ → ℕ → ℕ → List ℕ
cut_off_page sequence file offset = page_bytes (cut_off_frame sequence file offset) (replicate payload_size space)

-- K: page i of key block 0 or 1, of an epoch, with its 14 keys
unfoldable pub keys_page : ℕ → ℕ → ℕ → List ℕ → List ℕ
keys_page epoch block i keys = page_bytes (keys_frame epoch block i) keys

-- C: part i of a commit, of an epoch and a covered sequence
unfoldable pub commit_page : ℕ → ℕ → ℕ → List ℕ → List ℕ
commit_page epoch i covered payload = page_bytes (commit_frame epoch i covered) payload

-- the payload of a page's 256 bytes
unfoldable pub payload_of : List ℕ → List ℕ
payload_of page = part page header_size payload_size

-- the payload of a node's page, deciphered under a key: as many bytes as its header says
unfoldable pub deciphered : List ℕ → List ℕ → List ℕ
deciphered key page = take (length_of (second_of (form_of page))) (enciphered key (payload_of page))

-- what a program leaves that was cut at byte k
unfoldable pub cut_page : ℕ → List ℕ → List ℕ
cut_page k page = take k page ++ replicate (page_size - k) erased
