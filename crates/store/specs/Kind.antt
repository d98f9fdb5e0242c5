-- Document 01, "Page forms": whole key blocks, whole commit blocks, data blocks.
use Rattle.std.specs.Prelude.{ℕ, ◌+◌, ◌*◌, ◌-◌, Bool, false, cond, not, ◌&&◌, ◌||◌, List, eqb}
use Rattle.base.specs.Search.{all_from, any_from}
use Rattle.page.specs.Header.{keys_letter, commit_letter, keys_frame, commit_frame, is_event_letter}
pub use Rattle.page.specs.Header.{same_frame}
pub use Rattle.page.specs.Form.{whole_with}
use Rattle.page.specs.Entry.{parts, valid_payload}
use Rattle.page.specs.Page.{payload_of}
use Rattle.page.specs.declared.Frame.{Frame}
use Rattle.page.specs.declared.Form.{Form}
use Rattle.page.specs.declared.Form.TheVariants.{Empty, Whole, Torn, Spoilt}
use Rattle.image.specs.Size.{pages_in_block}
use Rattle.image.specs.Look.{page_at, page_empty, form_at}
use Rattle.store.specs.declared.Numbers.{Numbers}
use Rattle.store.specs.declared.Kind.{Kind}
use Rattle.store.specs.declared.Kind.TheVariants.{Keys, Commit, Other}

-- page i of block b, as a page of the image
abbrev pub page_in : ℕ → ℕ → ℕ
page_in b i = b * pages_in_block + i

-- a whole key block: every page is whole and the one that its number says, of one key block and epoch
unfoldable pub key_block_whole : List ℕ → ℕ → ℕ → ℕ → Bool
key_block_whole img b q e = all_from (λ i. whole_with (keys_frame e q i) (form_at img (page_in b i))) pages_in_block 0

-- page i of block b is a whole part i of a commit of epoch e that covers sequence s, with a valid payload
abbrev pub part_whole : List ℕ → ℕ → ℕ → ℕ → ℕ → Bool
part_whole img b e s i = whole_with (commit_frame e i s) (form_at img (page_in b i)) && valid_payload i (payload_of (page_at img (page_in b i)))

-- a whole commit block: its parts in order, of one epoch and covered sequence, valid; nothing behind them
unfoldable pub commit_block_whole : List ℕ → ℕ → ℕ → ℕ → Bool
commit_block_whole img b e s =
    all_from (part_whole img b e s) parts 0
    && all_from (λ i. page_empty img (page_in b i)) (pages_in_block - parts) parts

-- the letters that a key block and a commit block begin with
abbrev pub is_block_letter : ℕ → Bool
is_block_letter kind = eqb kind keys_letter || eqb kind commit_letter

-- what the header of a block's page 0 would make of it
abbrev pub kind_by : List ℕ → ℕ → Frame → Kind
kind_by img b f =
    cond (eqb f.kind keys_letter && key_block_whole img b f.unit f.number) (Keys f.unit f.number)
    (cond (eqb f.kind commit_letter && commit_block_whole img b f.number f.second) (Commit f.number f.second) Other)

abbrev pub kind_of_first : List ℕ → ℕ → Form → Kind
kind_of_first img b Empty = Other
kind_of_first img b (Whole f) = kind_by img b f
kind_of_first img b (Torn f) = Other
kind_of_first img b Spoilt = Other

unfoldable pub kind_of : List ℕ → ℕ → Kind
kind_of img b = kind_of_first img b (form_at img (page_in b 0))

-- the epoch of a whole key block q, or of a whole commit block; 0 where block b is none
abbrev pub keys_epoch : ℕ → Kind → ℕ
keys_epoch q (Keys r e) = cond (eqb r q) e 0
keys_epoch q (Commit e s) = 0
keys_epoch q Other = 0

abbrev pub commit_epoch : Kind → ℕ
commit_epoch (Keys r e) = 0
commit_epoch (Commit e s) = e
commit_epoch Other = 0

abbrev pub covered_by : Kind → ℕ
covered_by (Keys r e) = 0
covered_by (Commit e s) = s
covered_by Other = 0

-- ---- data blocks
-- a whole or torn N or D page
abbrev pub headed : Form → Bool
headed Empty = false
headed (Whole f) = is_event_letter f.kind
headed (Torn f) = is_event_letter f.kind
headed Spoilt = false

-- a block that the record, or a mount, has chosen as key block 0, key block 1 or commit
abbrev pub is_chosen : Numbers → ℕ → Bool
is_chosen r b = eqb b r.keys0 || eqb b r.keys1 || eqb b r.commit

-- a whole or torn N or D page stands in block b
abbrev pub has_events : List ℕ → ℕ → Bool
has_events img b = any_from (λ i. headed (form_at img (page_in b i))) pages_in_block 0

-- a data block: it has such a page and is none of the chosen
unfoldable pub is_data : List ℕ → Numbers → ℕ → Bool
is_data img r b = has_events img b && not (is_chosen r b)
