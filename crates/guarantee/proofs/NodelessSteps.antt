-- Steps that program no N page, so that nothing is enciphered by them: those of mount, cut-off, commit, wipe and format.
use Prim.Native.Nat.{ℕ, zero, suc, ◌-◌, ◌<◌, ◌≤◌}
use native.Mathlib.Omega.{arith}
use mathlib.Core.Path.{◌≡◌, refl, sym, ap, ◌∙◌}
use mathlib.Core.Bool.{Bool, true, false, cond, ◌&&◌}
use mathlib.Core.List.{List, [], ◌∷◌, map}
use lib.Dec.{eqb, leb, ltb}
use lib.ListN.{get_or}
use borrow.Author.Tests.{eqb-true, leb-true, ltb-true}
use Rattle.base.specs.Each.{Each}
use Rattle.base.specs.Fold.{list_from}
use Rattle.base.specs.Part.{part}
use Rattle.base.specs.Search.{which_from}
use Rattle.base.proofs.Choice.{and-true}
use Rattle.base.proofs.Eachs.{each_append}
use Rattle.base.proofs.Parts.{part_at}
use Rattle.page.specs.Frame.{header_size, closing_at}
use Rattle.page.specs.Header.{node_letter, keys_letter, header_bytes, header_of}
use Rattle.page.specs.Key.{key_in_noise}
use Rattle.page.specs.Entry.{parts}
use Rattle.page.specs.Page.{page_bytes, cut_off_page, keys_page, commit_page}
use Rattle.page.specs.declared.Frame.{Frame}
use Rattle.std.specs.Prelude.{Option, Some, None}
use Rattle.page.proofs.HeaderLaws.{header_spelt}
use Rattle.image.specs.Size.{pages_in_block, blocks}
use Rattle.image.specs.Look.{block_at, lowest_empty}
use Rattle.image.specs.Step.{Step, program, erase}
use Rattle.image.specs.Block.{renewed_key, key_block_steps, commit_block_steps, commit_block_page, key_block_page}
use Rattle.image.proofs.CommitBlock.{commit_block_steps_lem}
use Rattle.image.proofs.KeyBlock.{key_block_steps_lem}
use Rattle.image.proofs.Rows.{row_steps}
use Rattle.store.specs.Reply.{is_done}
use Rattle.store.specs.Record.{Record, is_dead}
use Rattle.store.specs.Outcome.{Outcome}
use Rattle.store.specs.Format.{first_epoch, formatted, format_steps}
use Rattle.store.specs.Mount.{is_swept, mounted, mount_steps, mount_of}
use Rattle.store.specs.Write.{keys_block}
use Rattle.store.specs.CutOff.{cut_off_steps, cut_off_of}
use Rattle.store.specs.Commit.{Stage, begin, cleaned, replace_keys, replace_commit, keys_replaced, commit_replaced, dead_erased, commit_stages, commit_of}
use Rattle.store.specs.Wipe.{removed_first, wipe_of}
use Rattle.store.proofs.Outcomes.{mount_outcome, mount-refused, cut_off_outcome, cut_off-refused, commit_outcome, commit-refused, wipe_outcome, wipe-refused}
use Rattle.store.proofs.Verdicts.{done-true}
use Rattle.guarantee.specs.Origin.{plain, cipher, key_byte, payload_origin, frame_origin, byte_origin}

-- ---- which key a page's byte is under: that of the position in its header, as it then is
module _ (now new : ℕ → ℕ) (j p c : ℕ) where
  abbrev UnderKeyOf : Option Frame → Type 0
  UnderKeyOf h = (f : Frame) × (h ≡ Some f) × (f.kind ≡ node_letter) × (p ≡ f.key) × (c ≡ now f.key)

  frame_cipher : (h : Option Frame) → frame_origin now new h j ≡ cipher p c → UnderKeyOf h
  frame_cipher None e = absurd (let z : ◌≡◌ {A = ℕ} 0 1 = cc in omega arith)
  frame_cipher (Some f) e = inside (leb header_size j && ltb j closing_at) e
    where
      kind : (s t : Bool) (q d i : ℕ) → eqb f.kind node_letter ≡ s → cond s (cipher f.key (now f.key)) (cond t (key_byte q d i) plain) ≡ cipher p c
          → UnderKeyOf (Some f)
      kind true t q d i is e = (f, refl, eqb-true _ _ is, cc, cc)
      kind false true q d i is e = absurd (let z : ◌≡◌ {A = ℕ} 0 1 = cc in omega arith)
      kind false false q d i is e = absurd (let z : ◌≡◌ {A = ℕ} 0 1 = cc in omega arith)

      inside : (t : Bool) → cond t (payload_origin now new f (j - header_size)) plain ≡ cipher p c → UnderKeyOf (Some f)
      inside true e = kind (eqb f.kind node_letter) (eqb f.kind keys_letter) _ _ _ refl e
      inside false e = absurd (let z : ◌≡◌ {A = ℕ} 0 1 = cc in omega arith)

  -- and it is a byte of the payload
  frame_payload : (h : Option Frame) → frame_origin now new h j ≡ cipher p c → (header_size ≤ j) × (j < closing_at)
  frame_payload None e = absurd (let z : ◌≡◌ {A = ℕ} 0 1 = cc in omega arith)
  frame_payload (Some f) e = go (leb header_size j && ltb j closing_at) refl e
    where
      go : (t : Bool) → leb header_size j && ltb j closing_at ≡ t → cond t (payload_origin now new f (j - header_size)) plain ≡ cipher p c
          → (header_size ≤ j) × (j < closing_at)
      go true q e = let b = and-true (leb header_size j) (ltb j closing_at) q in (leb-true header_size j b.0, ltb-true j closing_at b.1)
      go false q e = absurd (let z : ◌≡◌ {A = ℕ} 0 1 = cc in omega arith)

  pub byte-payload : (page : List ℕ) → byte_origin now new page j ≡ cipher p c → (header_size ≤ j) × (j < closing_at)
  unfolding byte_origin
  byte-payload page e = frame_payload (header_of (part page 0 header_size)) e

  pub byte-cipher : (page : List ℕ) → byte_origin now new page j ≡ cipher p c
      → (f : Frame) × (header_of (part page 0 header_size) ≡ Some f) × (f.kind ≡ node_letter) × (p ≡ f.key) × (c ≡ now f.key)
  unfolding byte_origin
  byte-cipher page e = frame_cipher (header_of (part page 0 header_size)) e

-- ---- no N page: the first byte is no N
abbrev pub Nodeless : Step → Type 0
Nodeless (program g page) = get_or page 0 0 ≡ node_letter → ⊥
Nodeless (erase b) = Unit {0}

pub nodeless_byte : (now new : ℕ → ℕ) (page : List ℕ) (j p c : ℕ) → (get_or page 0 0 ≡ node_letter → ⊥) → byte_origin now new page j ≡ cipher p c → ⊥
nodeless_byte now new page j p c n e =
    let f = byte-cipher now new j p c page e in
    n (sym (part_at page 0 header_size 0 0 (omega arith)) ∙ (header_spelt (part page 0 header_size) f.0 f.1).kind ∙ f.2)

first_byte : (f : Frame) (payload : List ℕ) → get_or (page_bytes f payload) 0 0 ≡ f.kind
unfolding page_bytes header_bytes
first_byte f payload = refl

page_nodeless : (f : Frame) (payload : List ℕ) → (f.kind ≡ node_letter → ⊥) → get_or (page_bytes f payload) 0 0 ≡ node_letter → ⊥
page_nodeless f payload n e = n (sym (first_byte f payload) ∙ e)

-- ---- rows and erases
row_nodeless : (b : ℕ) (page : ℕ → List ℕ) (n j : ℕ) → ((i : ℕ) → get_or (page i) 0 0 ≡ node_letter → ⊥) → Each Nodeless (row_steps b page n j)
unfolding list_from
row_nodeless b page zero j h = tt
row_nodeless b page (suc n) j h = (h j, row_nodeless b page n (suc j) h)

erases_nodeless : (bs : List ℕ) → Each Nodeless (map erase bs)
erases_nodeless [] = tt
erases_nodeless (b ∷ bs) = (tt, erases_nodeless bs)

erased_nodeless : (n b : ℕ) → Each Nodeless (list_from erase n b)
unfolding list_from
erased_nodeless zero b = tt
erased_nodeless (suc n) b = (tt, erased_nodeless n (suc b))

keys_nodeless : (epoch q b : ℕ) (key : ℕ → List ℕ) → Each Nodeless (key_block_steps epoch q b key)
unfolding keys_page
keys_nodeless epoch q b key =
    rw (key_block_steps_lem epoch q b key) (row_nodeless b (key_block_page epoch q key) pages_in_block 0 (λ i. page_nodeless _ _ (λ z. omega arith)))

commit_block_nodeless : (epoch covered b : ℕ) (map letters : List ℕ) → Each Nodeless (commit_block_steps epoch covered b map letters)
unfolding commit_page
commit_block_nodeless epoch covered b map letters =
    rw (commit_block_steps_lem epoch covered map letters b)
    (row_nodeless b (commit_block_page epoch covered map letters) parts 0 (λ i. page_nodeless _ _ (λ z. omega arith)))

-- ---- stages
replace_keys_nodeless : (img : List ℕ) (r : Record) (noise : List ℕ) (q : ℕ) → Each Nodeless (replace_keys img r noise q)
unfolding replace_keys
replace_keys_nodeless img r noise q =
    let old = keys_block r.numbers q in
    let key = renewed_key (block_at img old) r.letters noise in
    each_append Nodeless (key_block_steps r.numbers.epoch q (lowest_empty img) key) (erase old ∷ [])
    (keys_nodeless r.numbers.epoch q (lowest_empty img) key) (tt, tt)

replace_commit_nodeless : (img : List ℕ) (r : Record) → Each Nodeless (replace_commit img r)
unfolding replace_commit
replace_commit_nodeless img r =
    let n = r.numbers in
    each_append Nodeless (commit_block_steps n.epoch (n.sequence - 1) (lowest_empty img) r.map r.letters) (erase n.commit ∷ [])
    (commit_block_nodeless n.epoch (n.sequence - 1) (lowest_empty img) r.map r.letters) (tt, tt)

keys_stage : (noise : List ℕ) (q : ℕ) (s : Stage) → Each Nodeless s.steps → Each Nodeless (keys_replaced noise q s).steps
unfolding keys_replaced
keys_stage noise q s h = each_append Nodeless s.steps (replace_keys s.image s.after noise q) h (replace_keys_nodeless s.image s.after noise q)

commit_stage : (s : Stage) → Each Nodeless s.steps → Each Nodeless (commit_replaced s).steps
unfolding commit_replaced
commit_stage s h = each_append Nodeless s.steps (replace_commit s.image s.after) h (replace_commit_nodeless s.image s.after)

dead_stage : (s : Stage) → Each Nodeless s.steps → Each Nodeless (dead_erased s).steps
unfolding dead_erased
dead_stage s h =
    let dead = which_from (is_dead s.image s.after) (blocks s.image) 0 in
    each_append Nodeless s.steps (map erase dead) h (erases_nodeless dead)

stages_nodeless : (noise : List ℕ) (s : Stage) → Each Nodeless s.steps → Each Nodeless (commit_stages noise s).steps
unfolding commit_stages
stages_nodeless noise s h = dead_stage _ (commit_stage _ (keys_stage noise 1 _ (keys_stage noise 0 s h)))

-- ---- the calls
by_reply : (o : Outcome) → (is_done o.reply ≡ true → Each Nodeless o.steps) → (is_done o.reply ≡ false → o.steps ≡ []) → Each Nodeless o.steps
by_reply o f g = go (is_done o.reply) refl
  where
    go : (t : Bool) → is_done o.reply ≡ t → Each Nodeless o.steps
    go true q = f q
    go false q = rw (g q) tt

pub mount_nodeless : (img map letters scratch : List ℕ) → Each Nodeless (mount_of img map letters scratch).steps
unfolding mount_steps
mount_nodeless img map letters scratch =
    by_reply (mount_of img map letters scratch)
    (λ q. rw (ap (λ (o : Outcome). o.steps) (mount_outcome img map letters scratch (done-true _ q)))
    (erases_nodeless (which_from (is_swept img (mounted img)) (blocks img) 0)))
    (λ q. ap (λ (o : Outcome). o.steps) (mount-refused img map letters scratch q))

pub cut_off_nodeless : (img : List ℕ) (r : Record) (file offset : ℕ) → Each Nodeless (cut_off_of img r file offset).steps
unfolding cut_off_steps cut_off_page
cut_off_nodeless img r file offset =
    by_reply (cut_off_of img r file offset)
    (λ q. rw (ap (λ (o : Outcome). o.steps) (cut_off_outcome img r file offset (done-true _ q))) (page_nodeless _ _ (λ z. omega arith), tt))
    (λ q. ap (λ (o : Outcome). o.steps) (cut_off-refused img r file offset q))

pub commit_nodeless : (img : List ℕ) (r : Record) (noise : List ℕ) → Each Nodeless (commit_of img r noise).steps
commit_nodeless img r noise =
    by_reply (commit_of img r noise)
    (λ q. rw (ap (λ (o : Outcome). o.steps) (commit_outcome img r noise (done-true _ q))) (stages_nodeless noise (begin img (cleaned r)) tt))
    (λ q. ap (λ (o : Outcome). o.steps) (commit-refused img r noise q))

first_nodeless : (img : List ℕ) (r : Record) (file offset : ℕ) → Each Nodeless (removed_first img r file offset).steps
unfolding removed_first
first_nodeless img r file offset = commit_stage (begin img _) tt

pub wipe_nodeless : (img : List ℕ) (r : Record) (noise : List ℕ) (file offset : ℕ) → Each Nodeless (wipe_of img r noise file offset).steps
wipe_nodeless img r noise file offset =
    by_reply (wipe_of img r noise file offset)
    (λ q. rw (ap (λ (o : Outcome). o.steps) (wipe_outcome img r noise file offset (done-true _ q)))
    (stages_nodeless noise (removed_first img r file offset) (first_nodeless img r file offset)))
    (λ q. ap (λ (o : Outcome). o.steps) (wipe-refused img r noise file offset q))

pub format_nodeless : (img noise : List ℕ) → Each Nodeless (format_steps img noise)
unfolding format_steps
format_nodeless img noise =
    each_append Nodeless (list_from erase (blocks img) 0) _ (erased_nodeless (blocks img) 0)
    (each_append Nodeless (key_block_steps first_epoch 0 0 (key_in_noise noise)) _ (keys_nodeless first_epoch 0 0 (key_in_noise noise))
    (each_append Nodeless (key_block_steps first_epoch 1 1 (key_in_noise noise)) _ (keys_nodeless first_epoch 1 1 (key_in_noise noise))
    (commit_block_nodeless first_epoch 0 2 formatted.map formatted.letters)))
