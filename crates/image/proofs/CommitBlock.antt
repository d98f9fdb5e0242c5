-- The pages of a commit block.
use Prim.Native.Nat.{ℕ, ◌+◌, ◌*◌, ◌<◌, ◌≤◌}
use native.Mathlib.Omega.{arith}
use mathlib.Core.Path.{◌≡◌, refl}
use mathlib.Core.List.{List}
use lib.ListN.{length}
use Rattle.base.specs.Each.{Each}
use Rattle.base.proofs.Folds.{length-list_from}
use Rattle.page.specs.Frame.{page_size}
use Rattle.page.specs.Key.{positions}
use Rattle.page.specs.Entry.{parts, commit_payload}
use Rattle.page.specs.Header.{header_bytes, commit_frame}
use Rattle.page.specs.Page.{page_like, commit_page}
use Rattle.page.specs.declared.Frame.{Frame}
use Rattle.page.proofs.Commits.{payload-length}
use Rattle.page.proofs.Pages.{commit-length}
use Rattle.page.proofs.HeaderTests.{page_like_lem}
use Rattle.image.specs.Size.{block_size, pages_in_block}
use Rattle.image.specs.Step.{Inside}
use Rattle.image.specs.Block.{commit_block_steps, commit_block_page}
use Rattle.image.proofs.Rows.{row_steps, row_inside}

-- a page of the block's first header with the part's number
pub commit_like : (epoch i covered : ℕ) (header payload : List ℕ) (f : Frame) → header ≡ header_bytes f → f ≡ commit_frame epoch 0 covered
    → page_like header i payload ≡ commit_page epoch i covered payload
unfolding commit_page
commit_like epoch i covered header payload f h e = rw (h, e) (page_like_lem (commit_frame epoch 0 covered) i payload)

module _ (epoch covered : ℕ) (map letters : List ℕ) where
  pub commit_block_steps_lem : (b : ℕ) → commit_block_steps epoch covered b map letters ≡ row_steps b (commit_block_page epoch covered map letters) parts 0
  unfolding commit_block_steps
  commit_block_steps_lem b = refl

  pub commit_block_count : (b : ℕ) → length (commit_block_steps epoch covered b map letters) ≡ parts
  unfolding commit_block_steps
  commit_block_count b = length-list_from _ parts 0

  pub commit_page-size : length letters ≡ positions → (i : ℕ) → i < pages_in_block → length (commit_block_page epoch covered map letters i) ≡ page_size
  commit_page-size l i h = commit-length epoch i covered (commit_payload map letters i) (payload-length map letters i l)

  pub commit_block_inside : (n b : ℕ) → length letters ≡ positions → b * block_size + block_size ≤ n → Each (Inside n) (commit_block_steps epoch covered b map letters)
  unfolding commit_block_steps
  commit_block_inside n b l f = row_inside b (commit_block_page epoch covered map letters) (commit_page-size l) n parts 0 f (omega arith)
