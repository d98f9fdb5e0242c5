-- Steps in a row (document 01, "Calls and their refusals"): blocks erased in order, and a block programmed page by page from its page 0, a key block from its keys, a commit block from map and letters.
use Rattle.std.specs.Prelude.{ℕ, zero, suc, ◌+◌, ◌*◌, cond, List, [], ◌++◌, get_or, eqb}
use Rattle.base.specs.Part.{part}
use Rattle.base.specs.Fold.{list_from}
use Rattle.page.specs.Frame.{page_size}
use Rattle.page.specs.Key.{key_size, keys_in_page, keys_in_block, key_page, key_slot, key_in_page, key_in_noise}
use Rattle.page.specs.Entry.{used_letter, parts, commit_payload}
use Rattle.page.specs.Page.{keys_page, commit_page}
use Rattle.image.specs.Size.{pages_in_block}
use Rattle.image.specs.Step.{Step, program, erase}

-- the erases of n blocks from b on, in order
unfoldable pub erases_from : ℕ → ℕ → List Step
erases_from n b = list_from erase n b

-- the key of position p in the 4,096 bytes of a key block
unfoldable pub key_in_block : List ℕ → ℕ → List ℕ
key_in_block block p = key_in_page (part block (page_size * key_page p) page_size) (key_slot p)

-- the keys of n positions from p on, in a row
unfoldable pub keys_from : (ℕ → List ℕ) → ℕ → ℕ → List ℕ
keys_from key zero p = []
keys_from key (suc n) p = key p ++ keys_from key n (suc p)

-- commit: used keys in place, all others from noise
unfoldable pub renewed_key : List ℕ → List ℕ → List ℕ → ℕ → List ℕ
renewed_key old letters noise p = cond (eqb (get_or letters p 0) used_letter) (key_in_block old p) (key_in_noise noise p)

-- the same in a slot of a key page of positions from first on, over a row of keys
unfoldable pub kept_key : List ℕ → List ℕ → List ℕ → ℕ → ℕ → List ℕ
kept_key page letters keys first j =
    cond (eqb (get_or letters (first + j) 0) used_letter) (key_in_page page j) (part keys (key_size * j) key_size)

-- page i of key block 0 or 1 of an epoch, from the key of each position
abbrev pub key_block_page : ℕ → ℕ → (ℕ → List ℕ) → ℕ → List ℕ
key_block_page epoch block key i = keys_page epoch block i (keys_from key keys_in_page (keys_in_block * block + keys_in_page * i))

-- the whole key block, into block b
unfoldable pub key_block_steps : ℕ → ℕ → ℕ → (ℕ → List ℕ) → List Step
key_block_steps epoch block b key = list_from (λ i. program (b * pages_in_block + i) (key_block_page epoch block key i)) pages_in_block 0

-- part i of a commit of an epoch and a covered sequence, from map and letters
abbrev pub commit_block_page : ℕ → ℕ → List ℕ → List ℕ → ℕ → List ℕ
commit_block_page epoch covered map letters i = commit_page epoch i covered (commit_payload map letters i)

-- the whole commit, into block b
unfoldable pub commit_block_steps : ℕ → ℕ → ℕ → List ℕ → List ℕ → List Step
commit_block_steps epoch covered b map letters =
    list_from (λ i. program (b * pages_in_block + i) (commit_block_page epoch covered map letters i)) parts 0
