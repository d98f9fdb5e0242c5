-- Small instances of the definitions, by computation alone: headers, entries, places, a block's kind, the deciding event among three pages.
use Prim.Native.Nat.{ℕ, ◌*◌}
use mathlib.Core.Path.{◌≡◌, refl}
use mathlib.Core.List.{List, [], ◌∷◌, ◌++◌}
use lib.ListN.{replicate}
use Rattle.base.specs.Part.{part}
use Rattle.base.specs.Search.{all_from}
use Rattle.base.specs.Fold.{fold_from, list_from}
use Rattle.base.specs.Each.{same, all_are}
use Rattle.page.specs.Column.{columns, spell, value_after, number_in}
use Rattle.page.specs.Plan.{file_plan, count_of, start_of, place_of}
use Rattle.page.specs.Header.{in_range, header_bytes, header_of, node_frame, cut_off_frame}
use Rattle.page.specs.Form.{is_empty, closed, form_of}
use Rattle.page.specs.Entry.{none, entry_bytes, entry_of, entries_from, commit_payload, valid_payload, free_letter}
use Rattle.page.specs.Page.{page_bytes, keys_page, commit_page, cut_off_page, payload_of}
use Rattle.std.specs.Prelude.{Some, None}
use Rattle.page.specs.declared.Entry.TheVariants.{At, Vacant, Misspelt}
use Rattle.image.specs.Look.{page_at, page_empty, form_at}
use Rattle.store.specs.Kind.{key_block_whole, commit_block_whole, kind_of}
use Rattle.store.specs.Mount.{covered_in, entry_in, removes, sets, cuts, decision}
use Rattle.store.specs.declared.Kind.TheVariants.{Keys, Commit}

-- ---- headers, entries, places
pub header_example : header_of (header_bytes (cut_off_frame 12 3 23)) ≡ Some (cut_off_frame 12 3 23)
unfolding header_of header_bytes number_in value_after spell columns same part in_range count_of
header_example = refl

-- file 3 has 24 nodes
pub header_outside : header_of (header_bytes (cut_off_frame 12 3 24)) ≡ None
unfolding header_of header_bytes number_in value_after spell columns same part in_range count_of
header_outside = refl

pub entry_example : entry_of (entry_bytes 50 2) ≡ At 50 2
unfolding entry_of entry_bytes number_in value_after spell columns same part
entry_example = refl

pub entry_vacant : entry_of (entry_bytes none none) ≡ Vacant
unfolding entry_of entry_bytes same
entry_vacant = refl

-- a key position that there is not
pub entry_outside : entry_of (entry_bytes 50 448) ≡ Misspelt
unfolding entry_of entry_bytes number_in value_after spell columns same part
entry_outside = refl

pub place_example : place_of file_plan 13 7 ≡ Some 223
unfolding place_of count_of start_of
place_example = refl

-- ---- a block's kind
join : List (List ℕ) → List ℕ
join [] = []
join (p ∷ ps) = p ++ join ps

-- key block 1 of epoch 9, its keys all zeros
pub key_block_bytes : List ℕ
unfolding join list_from
key_block_bytes = join (list_from (λ i. keys_page 9 1 i (replicate 224 0)) 16 0)

pub keys_example : kind_of key_block_bytes 0 ≡ Keys 1 9
unfolding key_block_bytes kind_of key_block_whole form_at form_of closed page_at all_from keys_page page_bytes header_of header_bytes number_in value_after spell columns same part in_range
keys_example = refl

-- a commit of epoch 4 that covers sequence 6, with no entry
pub commit_bytes : List ℕ
unfolding join list_from
commit_bytes =
    join (list_from (λ i. commit_page 4 i 6 (commit_payload (replicate 448 none) (replicate 448 free_letter) i)) 10 0)
    ++ replicate (6 * 256) 255

pub commit_example : kind_of commit_bytes 0 ≡ Commit 4 6
unfolding commit_bytes kind_of commit_block_whole valid_payload commit_payload entries_from entry_bytes entry_of payload_of page_empty is_empty all_are form_at form_of closed page_at all_from commit_page page_bytes header_of header_bytes number_in value_after spell columns same part in_range
commit_example = refl

-- ---- the deciding event among three pages after that commit: a node of file 0, offset 0, a later one, and a cut-off of file 0 from offset 1 on, later still
pub events : List ℕ
events =
    page_bytes (node_frame 7 0 0 0 0) (replicate 224 0)
    ++ (page_bytes (node_frame 9 0 0 1 40) (replicate 224 0) ++ cut_off_page 10 0 1)

pub decided_by_node : decision (commit_bytes ++ events) 0 0 ≡ record { sequence = 9; page = 17; key = 1 }
unfolding events commit_bytes decision covered_in entry_in sets cuts removes kind_of commit_block_whole valid_payload commit_payload entries_from entry_bytes entry_of payload_of page_empty is_empty all_are form_at form_of closed page_at all_from fold_from commit_page cut_off_page page_bytes header_of header_bytes number_in value_after spell columns same part in_range place_of count_of start_of
decided_by_node = refl

pub decided_by_cut_off : decision (commit_bytes ++ events) 0 1 ≡ record { sequence = 10; page = none; key = none }
unfolding events commit_bytes decision covered_in entry_in sets cuts removes kind_of commit_block_whole valid_payload commit_payload entries_from entry_bytes entry_of payload_of page_empty is_empty all_are form_at form_of closed page_at all_from fold_from commit_page cut_off_page page_bytes header_of header_bytes number_in value_after spell columns same part in_range place_of count_of start_of
decided_by_cut_off = refl

-- file 1 has no event: the commit's entry, none, decides
pub decided-by_entry : decision (commit_bytes ++ events) 0 32 ≡ record { sequence = 0; page = none; key = none }
unfolding events commit_bytes decision covered_in entry_in sets cuts removes kind_of commit_block_whole valid_payload commit_payload entries_from entry_bytes entry_of payload_of page_empty is_empty all_are form_at form_of closed page_at all_from fold_from commit_page cut_off_page page_bytes header_of header_bytes number_in value_after spell columns same part in_range place_of count_of start_of
decided-by_entry = refl
