-- The form of a page of the image: as it was where no step touched the page, after a program up to byte k, and after an erase.
use Prim.Native.Nat.{ℕ, ◌+◌, ◌-◌, ◌*◌, ◌<◌, ◌≤◌}
use native.Mathlib.Omega.{arith}
use mathlib.Core.Path.{◌≡◌, ap, ◌∙◌}
use mathlib.Core.Bool.{true, cond}
use mathlib.Core.List.{List}
use lib.ListN.{length, get_or}
use Rattle.base.specs.Part.{part}
use Rattle.base.proofs.Parts.{part_at}
use Rattle.page.specs.Frame.{header_size, page_size, payload_size, erased}
use Rattle.page.specs.Header.{in_range}
use Rattle.page.specs.Form.{is_empty, form_of}
use Rattle.page.specs.Page.{page_bytes, enciphered, node_page, payload_of, cut_page}
use Rattle.page.specs.declared.Frame.{Frame}
use Rattle.page.specs.declared.Form.TheVariants.{Empty, Whole, Spoilt}
use Rattle.page.proofs.HeaderLaws.{no_kind}
use Rattle.page.proofs.Pages.{page-length, payload_back, node-length, node_back}
use Rattle.page.proofs.FormLaws.{form_from_lem, empty_form, cut_form, form_cut, form_page}
use Rattle.image.specs.Size.{pages_in_block}
use Rattle.image.specs.Look.{page_at, form_at, page_empty}
use Rattle.image.specs.Step.{program, erase, Inside, up_to, whole}
use Rattle.image.proofs.Step.{cleared, cleared-before, page-length as page_at-length, page-program, page-program-up_to, page-erase-up_to}

-- the form goes by the page's bytes
pub form_same : (img img' : List ℕ) (g : ℕ) → page_at img' g ≡ page_at img g → form_at img' g ≡ form_at img g
unfolding form_at
form_same img img' g e = ap form_of e

pub form_of-page : (img : List ℕ) (g : ℕ) (page : List ℕ) → page_at img g ≡ page → form_at img g ≡ form_of page
unfolding form_at
form_of-page img g page e = ap form_of e

-- a page is empty exactly if its form is
pub empty_form_at : (img : List ℕ) (g : ℕ) → page_empty img g ≡ true → form_at img g ≡ Empty
unfolding form_at page_empty
empty_form_at img g e = (empty_form (page_at img g)).1 e

pub form_empty_at : (img : List ℕ) (g : ℕ) → form_at img g ≡ Empty → page_empty img g ≡ true
unfolding form_at page_empty
form_empty_at img g e = (empty_form (page_at img g)).0 e

-- ---- a page of a frame and a payload, programmed whole or up to byte k; node, cut-off, key and commit pages are such pages, unfolded
module _ (g : ℕ) (f : Frame) (payload img : List ℕ) (ranges : in_range f ≡ true) (l : length payload ≡ payload_size) (fits : g * page_size + page_size ≤ length img) where
  pub form_program : form_at (whole (program g (page_bytes f payload)) img) g ≡ Whole f
  form_program =
      form_of-page _ g (page_bytes f payload) (page-program g (page_bytes f payload) img (fits, page-length f payload l)) ∙ form_page f payload ranges l

  pub form_program_up_to : (k : ℕ) → form_at (up_to k (program g (page_bytes f payload)) img) g ≡ cut_form k f
  form_program_up_to k =
      form_of-page _ g (cut_page k (page_bytes f payload)) (page-program-up_to k g (page_bytes f payload) img (fits, page-length f payload l)) ∙ form_cut f payload ranges l k

  -- its payload reads back
  pub payload-program : payload_of (page_at (whole (program g (page_bytes f payload)) img) g) ≡ payload
  payload-program = ap payload_of (page-program g (page_bytes f payload) img (fits, page-length f payload l)) ∙ payload_back f payload l

-- a node's 224 bytes read back under its key
pub node-program : (g sequence file offset position second : ℕ) (key bytes img : List ℕ) → length bytes ≡ payload_size → g * page_size + page_size ≤ length img
    → enciphered key (payload_of (page_at (whole (program g (node_page sequence file offset position second key bytes)) img) g)) ≡ bytes
node-program g sequence file offset position second key bytes img l fits =
    ap (λ (page : List ℕ). enciphered key (payload_of page))
    (page-program g (node_page sequence file offset position second key bytes) img (fits, node-length sequence file offset position second key bytes l))
    ∙ node_back sequence file offset position second key bytes l

-- ---- a page of which at least one byte was erased is empty or spoilt
pub form_cleared : (k : ℕ) (page : List ℕ) → 1 ≤ k → 1 ≤ length page → form_of (cleared k page) ≡ cond (is_empty (cleared k page)) Empty Spoilt
form_cleared k page h l =
    let first : get_or (part (cleared k page) 0 header_size) 0 0 ≡ erased =
    part_at (cleared k page) 0 header_size 0 0 (omega arith) ∙ cleared-before k page 0 0 l h in
    form_from_lem (cleared k page) ∙ rw (no_kind (part (cleared k page) 0 header_size) (rw first))

pub form_erase_up_to : (k b i : ℕ) (img : List ℕ) → Inside (length img) (erase b) → i < pages_in_block → i * page_size < k
    → form_at (up_to k (erase b) img) (b * pages_in_block + i)
    ≡ cond (is_empty (cleared (k - i * page_size) (page_at img (b * pages_in_block + i)))) Empty Spoilt
form_erase_up_to k b i img ins h f =
    let l = page_at-length img (b * pages_in_block + i) (omega arith) in
    form_of-page _ (b * pages_in_block + i) _ (page-erase-up_to k b i img ins h)
    ∙ form_cleared (k - i * page_size) (page_at img (b * pages_in_block + i)) (omega arith) (omega arith)
