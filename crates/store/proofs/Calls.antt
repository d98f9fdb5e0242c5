-- What the code of write, cut-off, read and format needs where a call is taken, and that it leaves what the call's definition says.
use Prim.Native.Nat.{ℕ, ◌+◌, ◌*◌, ◌-◌, ◌<◌, ◌≤◌}
use native.Mathlib.Omega.{arith}
use native.Mathlib.Nat.{sub-zero}
use native.Mathlib.Decide.{dec_lt}
use mathlib.Core.Path.{◌≡◌, sym, ap, fun_ext, ◌∙◌}
use mathlib.Core.Bool.{true, false, cond}
use mathlib.Core.List.{List, [], ◌++◌}
use lib.ListN.{length, get_or, take, drop, replicate, length-replicate, length-take, get_or-replicate, get_or-eq_default}
use borrow.Author.Tests.{ne_eqb}
use Rattle.base.specs.Fold.{list_from}
use Rattle.base.proofs.Parts.{part_length}
use Rattle.page.specs.Frame.{header_size, payload_size, page_size}
use Rattle.page.specs.Plan.{file_plan, places}
use Rattle.page.specs.Key.{positions, key_in_noise}
use Rattle.page.specs.Entry.{none, free_letter, used_letter}
use Rattle.page.specs.Header.{node_letter, length_of}
use Rattle.page.specs.Form.{second_of, form_of}
use Rattle.page.specs.Page.{enciphered, padded, deciphered, node_page, cut_off_page, payload_of}
use Rattle.page.specs.declared.Frame.{Frame}
use Rattle.page.specs.declared.Form.TheVariants.{Whole}
use Rattle.page.proofs.Pages.{enciphered-length}
use Rattle.page.proofs.Plans.{place_at_lem, plan_below}
use Rattle.image.specs.Size.{block_size, blocks}
use Rattle.image.specs.Look.{block_at, form_at}
use Rattle.image.specs.Step.{program, erase, play_all}
use Rattle.image.specs.Power.{device, power_for, act, run}
use Rattle.image.specs.Block.{erases_from, renewed_key, key_block_steps, commit_block_steps}
use Rattle.image.specs.declared.Power.{Power}
use Rattle.image.proofs.Looks.{sized, block_inside}
use Rattle.image.proofs.Runs.{run_one, run-append}
use Rattle.store.specs.Reply.{Reply, Done, verdict, is_done}
use Rattle.store.specs.Record.{Record, record_of, with_numbers, page_of, key_of, live}
use Rattle.store.specs.Outcome.{Outcome, left, left_whole, most_steps}
use Rattle.store.specs.Find.{lowest_free, new_page, found_at}
use Rattle.store.specs.Format.{no_numbers, formatted, format_tests, format_steps, format_of}
use Rattle.store.specs.Write.{place_at, key_held, next_sequence, placed, payload_right, write_tests, taking_of, append_steps, write_of}
use Rattle.store.specs.CutOff.{cut_off_tests, removed, cut_off_steps, cut_off_of}
use Rattle.store.specs.Read.{content_of, filled, read_tests, read_of, read_length}
use Rattle.store.specs.Taken.{Ready, Planned, FormatTaken, WriteTaken, CutOffTaken}
use Rattle.std.specs.Prelude.{Ok, Err}
use Rattle.store.specs.declared.Error.TheVariants.{PowerCut}
use Rattle.store.specs.declared.Error.{Error}
use Rattle.store.proofs.Refusals.{handed_done, handed_refused}
use Rattle.store.proofs.Verdicts.{done-true, format_reply, format_taken_lem, format_done_lem, write-reply, write-right, write_taken_lem, write_done, payload-filling, read-reply, cut_off-reply, cut_off_taken_lem, cut_off-done}
use Rattle.store.proofs.Outcomes.{stepless, leaves, left_stepless, format_outcome, format_refused, write_outcome, write-refused, read_outcome, read_length_lem, read_no_length, read-refused, cut_off_outcome, cut_off-refused}
use Rattle.store.proofs.Counts.{format_count, write_count, cut_off_count}
use Rattle.store.proofs.Finds.{found_is, lowest_free_lem, write-page-is_empty}
use Rattle.store.proofs.Fits.{fits_is, fit_inside, live_named, live-key, live-page}
use Rattle.store.proofs.Cuts.{run-left, taken_few}

-- ---- a record that fits
-- the place of a file and an offset below its count
pub place_below : (file offset : ℕ) → Planned file offset → place_at file offset < places
place_below file offset p = plan_below file offset (place_at file offset) (place_at_lem file_plan file offset p.offset_right)

module _ (img : List ℕ) (r : Record) (ready : Ready img r) where
  -- the chosen key blocks stand in the image
  pub keys_held : (r.numbers.keys0 * block_size + block_size ≤ length img) × (r.numbers.keys1 * block_size + block_size ≤ length img)
  keys_held =
      let i = fit_inside img r (fits_is img r ready.fit) ready.size in
      (block_inside img r.numbers.keys0 i.0, block_inside img r.numbers.keys1 i.1)

  -- and so does the page of a live place
  pub page_held : (x : ℕ) → x < places → live r.map x ≡ true → page_of r.map x * page_size + page_size ≤ length img
  page_held x h l = omega (arith, live-page img r (fits_is img r ready.fit) x h l)

  pub key_below : (x : ℕ) → x < places → live r.map x ≡ true → key_of r.map x < positions
  key_below x h l = live-key img r (fits_is img r ready.fit) x h l

-- ---- write
-- what is known of the key position and the page that a write takes
pub record Writable (img : List ℕ) (p g : ℕ) : Type 0 where
  pub position : p < positions
  pub inside : g * page_size + page_size ≤ length img
  pub number : g < none

module _ (img : List ℕ) (r : Record) (file offset : ℕ) (payload : List ℕ) where
  pub writable : (p g : ℕ) → WriteTaken img r file offset (length payload) (padded payload) → p ≡ found_at (lowest_free r.letters) → g ≡ found_at (new_page img r.numbers) → Writable img p g
  writable p g t e f =
      let i = (write-page-is_empty img r.numbers (found_at (new_page img r.numbers)) (found_is (new_page img r.numbers) t.room)).0 in
      let s = sized img t.ready.size in
      record {
        position = rw e (lowest_free_lem r.letters (found_at (lowest_free r.letters)) (found_is (lowest_free r.letters) t.key_free)).0;
        inside = omega arith;
        number = omega (arith, s.most, s.paged);
      }

  -- what the tests hand on
  pub write-take : (p g a b : ℕ) → taking_of (verdict (write_tests img r file offset payload)) a b ≡ Ok (p, g) → WriteTaken img r file offset (length payload) (padded payload) × (payload_right payload ≡ true) × (p ≡ a) × (g ≡ b)
  write-take p g a b e =
      let t = handed_done (verdict (write_tests img r file offset payload)) (a, b) (p, g) e in
      let q = write-reply img r file offset (payload_right payload) (length payload) (padded payload) ∙ t.0 in
      (write_taken_lem img r file offset (payload_right payload) (length payload) (padded payload) (payload-filling payload) q, write-right img r file offset (payload_right payload) (length payload) (padded payload) q, ap (λ (z : ℕ × ℕ). z.0) t.1, ap (λ (z : ℕ × ℕ). z.1) t.1)

  pub write_refuse : (n k a b : ℕ) (error : Error) → taking_of (verdict (write_tests img r file offset payload)) a b ≡ Err error
      → leaves (Err error) img r [] ≡ left n k (write_of img r file offset payload) img
  write_refuse n k a b error e =
      let s = write-reply img r file offset (payload_right payload) (length payload) (padded payload) ∙ handed_refused (verdict (write_tests img r file offset payload)) (a, b) error e in
      rw (← s) (sym (left_stepless n k img (write-refused img r file offset (payload_right payload) (length payload) (padded payload) (ap is_done s))))

  -- what the work leaves
  pub write-left : (n k p g : ℕ) (key img' : List ℕ) (q : Power) → payload_right payload ≡ true → WriteTaken img r file offset (length payload) (padded payload) → p ≡ found_at (lowest_free r.letters) → g ≡ found_at (new_page img r.numbers)
      → key ≡ key_held img r.numbers p → device q img' ≡ act (program g (node_page r.numbers.sequence file offset p (length payload) key (padded payload))) (device (power_for n k) img)
      → leaves (cond q.on Done (Err PowerCut)) img' (placed r (place_at file offset) g p) [] ≡ left n k (write_of img r file offset payload) img
  unfolding append_steps
  write-left n k p g key img' q right t e f h d =
      let o = write_outcome img r file offset (payload_right payload) (length payload) (padded payload) (write_done img r file offset (payload_right payload) (length payload) (padded payload) right t) in
      let s = run_one (program g (node_page r.numbers.sequence file offset p (length payload) key (padded payload))) (device (power_for n k) img) in
      rw (e, f) (run-left n k img img' q o (rw (← e, ← f, ← h) (d ∙ sym s)))

  pub write-few : length (write_of img r file offset payload).steps ≤ most_steps
  write-few =
      taken_few most_steps (write_of img r file offset payload) (λ e. rw (write_outcome img r file offset (payload_right payload) (length payload) (padded payload) e) (omega (arith, write_count img r file offset (length payload) (padded payload))))
      (λ d. rw (write-refused img r file offset (payload_right payload) (length payload) (padded payload) d))

-- ---- cut-off
-- a call whose tests refuse leaves all as it was
pub refused-left : (n k : ℕ) {o : Outcome} (img : List ℕ) (r : Record) (v : Reply) → v ≡ o.reply → is_done v ≡ false
    → (is_done o.reply ≡ false → o ≡ stepless o.reply r []) → leaves v img r [] ≡ left n k o img
refused-left n k img r v e d s = rw e (sym (left_stepless n k img (s (ap is_done (sym e) ∙ d))))

module _ (img : List ℕ) (r : Record) (file offset : ℕ) where
  pub cut_off_refuse : (n k : ℕ) (v : Reply) → v ≡ verdict (cut_off_tests img r file offset) → is_done v ≡ false → leaves v img r [] ≡ left n k (cut_off_of img r file offset) img
  cut_off_refuse n k v e d = refused-left n k img r v (e ∙ sym (cut_off-reply img r file offset)) d (cut_off-refused img r file offset)

  pub cut_off-take : verdict (cut_off_tests img r file offset) ≡ Done → CutOffTaken img r file offset
  cut_off-take e = cut_off_taken_lem img r file offset (cut_off-reply img r file offset ∙ e)

  pub cut_off_inside : (g : ℕ) → CutOffTaken img r file offset → g ≡ found_at (new_page img r.numbers) → g * page_size + page_size ≤ length img
  cut_off_inside g t f =
      let i = (write-page-is_empty img r.numbers (found_at (new_page img r.numbers)) (found_is (new_page img r.numbers) t.room)).0 in
      omega arith

  -- what the work leaves
  pub cut_off-left : (n k g : ℕ) (img' : List ℕ) (q : Power) {s : Record} → CutOffTaken img r file offset → g ≡ found_at (new_page img r.numbers)
      → device q img' ≡ act (program g (cut_off_page r.numbers.sequence file offset)) (device (power_for n k) img)
      → s ≡ removed r file offset → leaves (cond q.on Done (Err PowerCut)) img' (with_numbers s (next_sequence r.numbers)) [] ≡ left n k (cut_off_of img r file offset) img
  unfolding cut_off_steps
  cut_off-left n k g img' q t f d e =
      let o = cut_off_outcome img r file offset (cut_off-done img r file offset t) in
      let s = run_one (program g (cut_off_page r.numbers.sequence file offset)) (device (power_for n k) img) in
      rw e (run-left n k img img' q o (rw (← f) (d ∙ sym s)))

  pub cut_off-few : length (cut_off_of img r file offset).steps ≤ most_steps
  cut_off-few =
      taken_few most_steps (cut_off_of img r file offset) (λ e. rw (cut_off_outcome img r file offset e) (omega (arith, cut_off_count img r file offset)))
      (λ d. rw (cut_off-refused img r file offset d))

-- ---- read
-- a call without steps leaves the image
whole_stepless : {o : Outcome} {v : Reply} {after : Record} {lent : List ℕ} (img : List ℕ) → o ≡ stepless v after lent → left_whole o img ≡ leaves v img after lent
unfolding left_whole play_all
whole_stepless img e = ap (λ (p : Outcome). left_whole p img) e

module _ (img : List ℕ) (r : Record) (file offset : ℕ) (output : List ℕ) where
  pub read_refuse : (v : Reply) → v ≡ verdict (read_tests img r file offset output) → is_done v ≡ false → leaves v img r output ≡ left_whole (read_of img r file offset output) img
  read_refuse v e d =
      let q = e ∙ sym (read-reply img r file offset output) in
      rw q (sym (whole_stepless img (read-refused img r file offset output (ap is_done (sym q) ∙ d))))

  pub read_left : (v : Reply) (content : List ℕ) → v ≡ verdict (read_tests img r file offset output) → is_done v ≡ true → content ≡ filled (content_of img r (place_at file offset)) output
      → leaves v img r content ≡ left_whole (read_of img r file offset output) img
  read_left v content e d h =
      rw (done-true v d, h) (sym (whole_stepless img (read_outcome img r file offset output (read-reply img r file offset output ∙ sym e ∙ done-true v d))))

  -- the length that is reported
  pub read_reports : (v : Reply) (n : ℕ) → v ≡ verdict (read_tests img r file offset output) → is_done v ≡ true → n ≡ length (content_of img r (place_at file offset)) → n ≡ read_length img r file offset output
  read_reports v n e d h = h ∙ sym (read_length_lem img r file offset output (read-reply img r file offset output ∙ sym e ∙ done-true v d))

  pub read_reports_none : (v : Reply) → v ≡ verdict (read_tests img r file offset output) → is_done v ≡ false → 0 ≡ read_length img r file offset output
  read_reports_none v e d = sym (read_no_length img r file offset output (ap is_done (read-reply img r file offset output ∙ sym e) ∙ d))

-- what is read of a whole node's page, over the first bytes of an output
pub front_read : (key page output zs : List ℕ) (n : ℕ) → length page ≡ page_size → n ≡ length_of (second_of (form_of page)) → n ≤ payload_size → length output ≡ payload_size
    → zs ≡ take (length (take (n - 0) output)) (enciphered key (payload_of page))
    → (zs ++ drop (n - 0) output ≡ filled (deciphered key page) output) × (n ≡ length (deciphered key page))
unfolding deciphered payload_of
front_read key page output zs n l e h o f =
    let k : length (enciphered key (payload_of page)) ≡ payload_size = enciphered-length key (payload_of page) ∙ part_length page header_size payload_size (omega arith) in
    let w : length (take (n - 0) output) ≡ n = simp length-take (omega arith) in
    let c : length (take n (enciphered key (payload_of page))) ≡ n = simp length-take (omega (arith, k)) in
    (rw (← e, c, f, w, sub-zero n), rw (← e) (sym c))

-- the page of a live place is a whole node's
module _ (img : List ℕ) (r : Record) (ready : Ready img r) where
  pub node_held : (x : ℕ) → x < places → live r.map x ≡ true → (f : Frame) × (form_at img (page_of r.map x) ≡ Whole f) × (f.kind ≡ node_letter)
  node_held x h l = let n = live_named img r (fits_is img r ready.fit) x h l in (n.header, n.whole, n.node)

-- ---- format
-- where no letter is u every key comes from the noise
pub all_from-noise : (old letters noise : List ℕ) → ((p : ℕ) → get_or letters p 0 ≡ used_letter → ⊥) → renewed_key old letters noise ≡ key_in_noise noise
unfolding renewed_key
all_from-noise old letters noise h = fun_ext λ p. rw (ne_eqb (get_or letters p 0) used_letter (h p))

none_used : (n p : ℕ) → get_or (replicate n free_letter) p 0 ≡ used_letter → ⊥
none_used n p e =
    elim (dec_lt p n) [
      | yes h ↦ omega (arith, get_or-replicate n p free_letter 0 h)
      | no h ↦ omega (arith, get_or-eq_default (replicate n free_letter) 0 {n = p} (rw length-replicate (omega arith)))
    ]

-- all blocks erased, then the two key blocks, then the commit
pub volume_run : (img noise letters map : List ℕ) (p q₁ q₂ q₃ q₄ : Power) (i₁ i₂ i₃ i₄ : List ℕ) → letters ≡ formatted.letters → map ≡ formatted.map
    → device q₁ i₁ ≡ run (erases_from (blocks img) 0) (device p img)
    → device q₂ i₂ ≡ run (key_block_steps 1 0 0 (renewed_key (block_at i₁ 1) letters noise)) (device q₁ i₁)
    → device q₃ i₃ ≡ run (key_block_steps 1 1 1 (renewed_key (block_at i₂ 0) letters noise)) (device q₂ i₂)
    → device q₄ i₄ ≡ run (commit_block_steps 1 0 2 map letters) (device q₃ i₃)
    → device q₄ i₄ ≡ run (format_steps img noise) (device p img)
unfolding format_steps erases_from
volume_run img noise letters map p q₁ q₂ q₃ q₄ i₁ i₂ i₃ i₄ l m e₁ e₂ e₃ e₄ =
    let fresh : (old : List ℕ) → renewed_key old letters noise ≡ key_in_noise noise = λ old. all_from-noise old letters noise (rw l (none_used positions)) in
    let first = key_block_steps 1 0 0 (key_in_noise noise) in
    let second = key_block_steps 1 1 1 (key_in_noise noise) in
    let last = commit_block_steps 1 0 2 formatted.map formatted.letters in
    let d₂ : device q₂ i₂ ≡ run first (device q₁ i₁) = rw (fresh (block_at i₁ 1)) at e₂ in
    let d₃ : device q₃ i₃ ≡ run second (device q₂ i₂) = rw (fresh (block_at i₂ 0)) at e₃ in
    let d₄ : device q₄ i₄ ≡ run last (device q₃ i₃) = rw (l, m) at e₄ in
    d₄ ∙ ap (run last) (d₃ ∙ ap (run second) (d₂ ∙ ap (run first) e₁))
    ∙ sym (run-append (list_from erase (blocks img) 0) (first ++ (second ++ last)) (device p img) ∙ run-append first (second ++ last) _ ∙ run-append second last _)

module _ (img map letters noise : List ℕ) where
  pub format_refuse : (n k : ℕ) (v : Reply) → v ≡ verdict (format_tests img map letters noise) → is_done v ≡ false
      → leaves v img (record_of map letters no_numbers) [] ≡ left n k (format_of img map letters noise) img
  format_refuse n k v e d =
      let q = e ∙ sym (format_reply img map letters noise) in
      rw q (sym (left_stepless n k img (format_refused img map letters noise (ap is_done (sym q) ∙ d))))

  pub format_left : (n k : ℕ) (img' : List ℕ) (q : Power) → FormatTaken img map letters noise
      → device q img' ≡ run (format_steps img noise) (device (power_for n k) img)
      → leaves (cond q.on Done (Err PowerCut)) img' formatted [] ≡ left n k (format_of img map letters noise) img
  format_left n k img' q t d = run-left n k img img' q (format_outcome img map letters noise (format_done_lem img map letters noise t)) d

  pub format_few : length (format_of img map letters noise).steps ≤ most_steps
  format_few =
      taken_few most_steps (format_of img map letters noise)
      (λ e. rw (format_outcome img map letters noise e) (omega (arith, format_count img noise, (sized img (format_taken_lem img map letters noise e).size).most)))
      (λ d. rw (format_refused img map letters noise d))
