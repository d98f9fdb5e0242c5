-- The laws of a page's 256 bytes: their length, what reads back from them, and what a program that is cut leaves.
use Prim.Native.Nat.{ℕ, ◌+◌, ◌*◌, ◌-◌, ◌<◌, ◌≤◌}
use native.Mathlib.Omega.{arith}
use native.Mathlib.Decide.{dec_le}
use mathlib.Core.Path.{◌≡◌, refl, sym, ap, ◌∙◌}
use mathlib.Core.List.{List, ◌++◌, append_assoc, append-nil}
use lib.ListN.{length, take, drop, replicate, length-append, length-replicate, length-take, length-drop, drop_of_length-le}
use lib.Seq.{take_at, take_all}
use borrow.Author.Tests.{ne_eqb}
use borrow.Rule.Slice.PartMut.{put_mid}
use Rattle.base.specs.Part.{part, splice}
use Rattle.base.proofs.Parts.{part-part, splice-length, part-splice-before, put_next}
use Rattle.cipher.specs.CounterMode.{counter_mode}
use Rattle.cipher.specs.KeyExpansion.{key_expansion}
use Rattle.cipher.proofs.Laws.{length-counter_mode, counter_mode_twice, counter_mode-take}
use Rattle.page.specs.Frame.{header_size, payload_size, closing_size, page_size, closing_at, erased, closing, space}
use Rattle.page.specs.Column.{spell}
use Rattle.page.specs.Form.{second_of, form_of}
use Rattle.page.specs.Header.{part_at, part_width, header_bytes, length_of, node_frame, cut_off_frame, keys_frame, commit_frame}
use Rattle.page.specs.Key.{key_size, keys_in_page, key_in_page}
use Rattle.page.specs.Page.{page_bytes, page_like, enciphered, padded, deciphered, node_page, cut_off_page, keys_page, commit_page, payload_of, cut_page}
use Rattle.page.specs.declared.Frame.{Frame}
use Rattle.page.proofs.Column.{length-spell}
use Rattle.page.proofs.HeaderLaws.{length-header}
use Rattle.page.proofs.Slices.{part_front, part_past, part_middle, part_back, part-replicate, splice_middle}

-- ---- enciphering
pub enciphered-length : (key payload : List ℕ) → length (enciphered key payload) ≡ length payload
unfolding enciphered
enciphered-length key payload = length-counter_mode (key_expansion key) payload

-- what the cipher leaves under the round keys of a key
pub stream_enciphered : (key w s zs : List ℕ) → zs ≡ counter_mode w s → w ≡ key_expansion key → zs ≡ enciphered key s
unfolding enciphered
stream_enciphered key w s zs e h = e ∙ ap (λ (v : List ℕ). counter_mode v s) h

-- the same both ways
pub enciphered_twice : (key payload : List ℕ) → enciphered key (enciphered key payload) ≡ payload
unfolding enciphered
enciphered_twice key payload = counter_mode_twice (key_expansion key) payload

-- ---- header, payload, closing
-- a closing that is lent and written
pub put_closing : (page : List ℕ) → length page ≡ page_size → put_mid closing_at closing_size page closing ≡ take closing_at page ++ closing
put_closing page l =
    rw (drop_of_length-le (drop closing_at page) {i = closing_size} (simp length-drop (omega arith))) (ap (λ (xs : List ℕ). take closing_at page ++ xs) (append-nil closing))

-- the three parts, written one after the other
pub closed_parts : (head payload rest : List ℕ) → length head ≡ header_size → length payload ≡ payload_size
    → take closing_at (head ++ (payload ++ rest)) ++ closing ≡ head ++ (payload ++ closing)
closed_parts head payload rest l h =
    rw (← append_assoc, take_at (head ++ payload) rest closing_at (simp length-append (omega arith)))
    (append_assoc head payload closing)

module _ (f : Frame) (payload : List ℕ) (h : length payload ≡ payload_size) where
  pub page-length : length (page_bytes f payload) ≡ page_size
  unfolding page_bytes
  page-length = let l = length-header f in simp length-append (omega arith)

  pub header_back : part (page_bytes f payload) 0 header_size ≡ header_bytes f
  unfolding page_bytes
  header_back = part_front (header_bytes f) (payload ++ closing) header_size (length-header f)

  pub payload_back : payload_of (page_bytes f payload) ≡ payload
  unfolding page_bytes payload_of
  payload_back = part_middle (header_bytes f) payload closing header_size payload_size (length-header f) h

  pub closing_back : part (page_bytes f payload) closing_at closing_size ≡ closing
  unfolding page_bytes
  closing_back =
      rw (← append_assoc)
      (part_back (header_bytes f ++ payload) closing closing_at closing_size (let l = length-header f in simp length-append (omega arith)) refl)

  pub page_written : (rest : List ℕ) → take closing_at (header_bytes f ++ (payload ++ rest)) ++ closing ≡ page_bytes f payload
  unfolding page_bytes
  page_written rest = closed_parts (header_bytes f) payload rest (length-header f) h

  -- another payload in the place of this one
  pub page-splice : (ys : List ℕ) → length ys ≡ payload_size → splice (page_bytes f payload) header_size ys ≡ page_bytes f ys
  unfolding page_bytes
  page-splice ys e = splice_middle (header_bytes f) payload closing ys header_size (length-header f) (h ∙ sym e)

-- ---- a page of a header's 30 bytes with another part
module _ (header : List ℕ) (n : ℕ) (payload : List ℕ) (l : length header ≡ header_size) (h : length payload ≡ payload_size) where
  put_part_length : length (splice header part_at (spell part_width n)) ≡ header_size
  put_part_length = let w = length-spell part_width n (omega arith) in splice-length header part_at (spell part_width n) (omega arith) ∙ l

  pub like_length : length (page_like header n payload) ≡ page_size
  unfolding page_like
  like_length = let w = put_part_length in simp length-append (omega arith)

  pub like_written : (rest : List ℕ) → take closing_at (splice header part_at (spell part_width n) ++ (payload ++ rest)) ++ closing ≡ page_like header n payload
  unfolding page_like
  like_written rest = closed_parts (splice header part_at (spell part_width n)) payload rest put_part_length h

-- ---- the pages of each kind
pub node-length : (sequence file offset position second : ℕ) (key bytes : List ℕ) → length bytes ≡ payload_size → length (node_page sequence file offset position second key bytes) ≡ page_size
unfolding node_page
node-length sequence file offset position second key bytes h =
    page-length (node_frame sequence file offset position second) (enciphered key bytes) (enciphered-length key bytes ∙ h)

-- a node's 224 bytes, deciphered under its key
pub node_back : (sequence file offset position second : ℕ) (key bytes : List ℕ) → length bytes ≡ payload_size
    → enciphered key (payload_of (node_page sequence file offset position second key bytes)) ≡ bytes
unfolding node_page
node_back sequence file offset position second key bytes h =
    rw (payload_back (node_frame sequence file offset position second) (enciphered key bytes) (enciphered-length key bytes ∙ h)) (enciphered_twice key bytes)

-- a node's page, written with its bytes plain and then enciphered in place
pub node_written : (sequence file offset position second : ℕ) (key bytes : List ℕ) → length bytes ≡ payload_size
    → (f : Frame) (page page' : List ℕ) → f ≡ node_frame sequence file offset position second → page ≡ page_bytes f bytes → page' ≡ splice page header_size (enciphered key (payload_of page))
    → page' ≡ node_page sequence file offset position second key bytes
unfolding node_page
node_written sequence file offset position second key bytes h f page page' e p q =
    q ∙ rw (p, payload_back f bytes h, page-splice f bytes h (enciphered key bytes) (enciphered-length key bytes ∙ h), e)

-- ---- payloads shorter than a page
module _ (payload : List ℕ) where
  pub padded-length : length payload ≤ payload_size → length (padded payload) ≡ payload_size
  unfolding padded
  padded-length h = simp (length-append, length-replicate) (omega arith)

  -- nothing comes after a whole payload
  pub padded_whole : length payload ≡ payload_size → padded payload ≡ payload
  unfolding padded
  padded_whole h = rw h (append-nil payload)

  -- what is read back of a padded payload
  pub padded_back : 1 ≤ length payload → take (length_of (length payload)) (padded payload) ≡ payload
  unfolding padded
  padded_back h = rw (ne_eqb (length payload) 0 (λ z. omega arith)) (take_at payload _ (length payload) refl)

  -- the payload copied to the front, the rest filled
  pub padded_written : (x zs ys : List ℕ) → length x ≡ payload_size → length payload ≤ payload_size → zs ≡ payload
      → ys ≡ replicate (length (take (payload_size - length payload) (drop (length payload) (zs ++ drop (length payload - 0) x)))) space
      → put_mid (length payload) (payload_size - length payload) (zs ++ drop (length payload - 0) x) ys ≡ padded payload
  unfolding padded
  padded_written x zs ys l h e f =
      let n : length (take (payload_size - length payload) (drop (length payload) (payload ++ drop (length payload - 0) x))) ≡ payload_size - length payload = simp (length-take, length-drop, length-append) (omega arith) in
      let g : ys ≡ replicate (payload_size - length payload) space = f ∙ rw (e, n) in
      rw e
      (put_next payload (drop (length payload - 0) x) ys (length payload) (payload_size - length payload) refl
      ∙ rw (drop_of_length-le (drop (length payload - 0) x) {i = payload_size - length payload} (simp length-drop (omega arith)), g) (append-nil _))

-- pages with the same second number and the same bytes decipher alike
pub deciphered-same : (key page page' : List ℕ) → second_of (form_of page) ≡ second_of (form_of page') → payload_of page ≡ payload_of page' → deciphered key page ≡ deciphered key page'
unfolding deciphered
deciphered-same key page page' s e = rw (s, e)

-- the first bytes of a page's payload, deciphered alone
pub front_enciphered : (key w page s zs : List ℕ) (n : ℕ) → n ≤ payload_size → zs ≡ counter_mode w s → w ≡ key_expansion key → s ≡ part page header_size n → zs ≡ take n (enciphered key (payload_of page))
unfolding enciphered payload_of part
front_enciphered key w page s zs n h e k f =
    e ∙ rw (k, f, counter_mode-take (key_expansion key) (part page header_size payload_size) n) (ap (counter_mode (key_expansion key)) (sym (part-part page header_size payload_size 0 n (omega arith))))

-- what a page holds under a key, where its second number and its 224 bytes are known
pub deciphered_is : (key bytes page : List ℕ) (second : ℕ) → second_of (form_of page) ≡ second → payload_of page ≡ enciphered key bytes → deciphered key page ≡ take (length_of second) bytes
unfolding deciphered
deciphered_is key bytes page second s e = rw (s, e, enciphered_twice key bytes)

pub cut_off-length : (sequence file offset : ℕ) → length (cut_off_page sequence file offset) ≡ page_size
unfolding cut_off_page
cut_off-length sequence file offset =
    page-length (cut_off_frame sequence file offset) (replicate payload_size space) (length-replicate payload_size space)

pub keys_length : (epoch block i : ℕ) (keys : List ℕ) → length keys ≡ payload_size → length (keys_page epoch block i keys) ≡ page_size
unfolding keys_page
keys_length epoch block i keys h = page-length (keys_frame epoch block i) keys h

pub commit-length : (epoch i covered : ℕ) (payload : List ℕ) → length payload ≡ payload_size → length (commit_page epoch i covered payload) ≡ page_size
unfolding commit_page
commit-length epoch i covered payload h = page-length (commit_frame epoch i covered) payload h

-- the key in a slot of a key page
pub key_back : (epoch block i : ℕ) (keys : List ℕ) (slot : ℕ) → length keys ≡ payload_size → slot < keys_in_page
    → key_in_page (keys_page epoch block i keys) slot ≡ part keys (key_size * slot) key_size
unfolding keys_page key_in_page
key_back epoch block i keys slot h s =
    sym (part-part (page_bytes (keys_frame epoch block i) keys) header_size payload_size (key_size * slot) key_size (omega arith))
    ∙ ap (λ (p : List ℕ). part p (key_size * slot) key_size) (unfold payload_of in payload_back (keys_frame epoch block i) keys h)

-- ---- what a program that is cut leaves
module _ (k : ℕ) (page : List ℕ) (h : length page ≡ page_size) where
  pub cut-length : length (cut_page k page) ≡ page_size
  unfolding cut_page
  cut-length = simp (length-append, length-take, length-replicate) (omega arith)

  pub cut-whole : page_size ≤ k → cut_page k page ≡ page
  unfolding cut_page
  cut-whole l =
      let m : page_size - k ≡ 0 = omega arith in
      rw (take_all k page (omega arith), m) (append-nil page)

  cut-splice : k ≤ page_size → cut_page k page ≡ splice page k (replicate (page_size - k) erased)
  unfolding cut_page splice
  cut-splice l =
      rw (length-replicate, drop_of_length-le (drop k page) {i = page_size - k} (simp length-drop (omega arith)), append-nil)

  -- the bytes before k are the page's, those from k on are erased
  pub cut-before : (a n : ℕ) → a + n ≤ k → a + n ≤ page_size → part (cut_page k page) a n ≡ part page a n
  cut-before a n l m =
      elim (dec_le k page_size) [
        | yes q ↦ rw (cut-splice q) (part-splice-before page k (replicate (page_size - k) erased) (simp length-replicate (omega arith)) a n l)
        | no q ↦ rw (cut-whole (omega arith))
      ]

  pub cut-after : (a n : ℕ) → k ≤ a → a + n ≤ page_size → part (cut_page k page) a n ≡ replicate n erased
  unfolding cut_page
  cut-after a n l m =
      let j : a ≡ k + (a - k) = omega arith in
      rw j
      (part_past (take k page) (replicate (page_size - k) erased) k (a - k) n (simp length-take (omega arith))
      ∙ part-replicate (page_size - k) (a - k) n erased (omega arith))

  -- the rest of a page filled
  pub cut-filled : (zs : List ℕ) → zs ≡ replicate (length (take (page_size - k) (drop k page))) erased → k < page_size → put_mid k (page_size - k) page zs ≡ cut_page k page
  unfolding cut_page
  cut-filled zs e l =
      let m : length (take (page_size - k) (drop k page)) ≡ page_size - k = simp (length-take, length-drop) (omega arith) in
      rw (e, m, drop_of_length-le (drop k page) {i = page_size - k} (simp length-drop (omega arith))) (simp append-nil)
