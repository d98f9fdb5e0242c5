-- A mount after a call that finished gives the record that the call left: what a finished call leaves needs no mending. It erases blocks that are
-- empty or that no record reads any more, and keeps every live page; and another mount after it changes no byte.
use Prim.Native.Nat.{ℕ, ◌<◌, ◌≤◌}
use native.Mathlib.Omega.{arith}
use mathlib.Core.Path.{◌≡◌, refl, sym, ap, subst, ◌∙◌}
use mathlib.Core.Logic.{◌⊎◌}
use mathlib.Core.Bool.{Bool, true, false, ◌||◌}
use mathlib.Core.List.{List, [], ◌∷◌, map as each}
use lib.Dec.{T, eqb}
use lib.ListN.{length}
use borrow.Author.Tests.{eqb-true}
use Rattle.base.specs.Search.{which_from}
use Rattle.base.proofs.Choice.{and-true, true-false}
use Rattle.page.specs.Plan.{places}
use Rattle.page.specs.Page.{node_page, cut_off_page}
use Rattle.image.specs.Size.{size_right, blocks}
use Rattle.image.specs.Look.{page_at, block_empty}
use Rattle.image.specs.Step.{erase, AllLegal, whole, play_all}
use Rattle.image.proofs.Plays.{play_all_lem, play_all_nil}
use Rattle.image.proofs.Forms.{form_program}
use Rattle.store.specs.Kind.{headed}
use Rattle.store.specs.Reply.{Done, is_done}
use Rattle.store.specs.Record.{Record, page_of, live}
use Rattle.store.specs.Outcome.{Outcome, left, left_whole}
use Rattle.store.specs.Format.{noise_size, buffers_right, format_numbers}
use Rattle.store.specs.Mount.{is_covered_dead, is_swept, mounted, mount_steps, mount_of}
use Rattle.store.specs.Write.{next_sequence, append_steps}
use Rattle.store.specs.CutOff.{removed, cut_off_steps, cut_off_of}
use Rattle.store.specs.Commit.{Stage, begin, cleaned, commit_stages, commit_of}
use Rattle.store.specs.Wipe.{removed_first, wipe_of}
use Rattle.store.proofs.Legals.{cut_off-legal, mount-legal, commit-legal, wipe-legal}
use Rattle.store.proofs.Outcomes.{gather_outcome, gather-refused, mount_outcome, read_stepless, cut_off_outcome, cut_off-refused, commit_outcome, commit-refused, wipe_outcome, wipe-refused}
use Rattle.store.proofs.Verdicts.{gather_taken_lem, done-true, cut_off_taken_lem, buffers-true}
use Rattle.store.proofs.Remounts.{mount_twice}
use Rattle.guarantee.specs.Call.{Given, second_given, bytes_given, write_given, Call, mount, write, read, cut_off, commit, wipe, gather, Event, outcome_of, is_mount, lent_right}
use Rattle.store.specs.Gather.{live_pages, copy_step, copied, copy_steps, copied_all, gather_of}
use Rattle.store.proofs.Gathers.{Copying, header, payload, copy_is, copy_empty, copy_inside, header_range, payload-length, copying_next, gather_copying}
use Rattle.guarantee.specs.Book.{Book}
use Rattle.guarantee.specs.Origin.{Origin}
use Rattle.guarantee.specs.Machine.{Machine, start, step, outcome_at, Allowed}
use Rattle.guarantee.proofs.Givens.{given-legal, given_outcome, given-refused, given_taken}
use Rattle.guarantee.proofs.Sounds.{Sound, Tight, is_true}
use Rattle.guarantee.proofs.Writes.{ranges as node_ranges_lem, sealed_length}
use Rattle.guarantee.proofs.CutOffCall.{ranges as cut_off_ranges_lem, spaces_length}
use Rattle.guarantee.proofs.FormatCall.{format_empty, format_length, format_taken_lem}
use Rattle.guarantee.proofs.Strays.{Neat, neat_swept, chosen_not, program_neat, mount_neat, Neatly, begin_neatly, commit_neatly, stages_neatly}
use Rattle.guarantee.proofs.Histories.{end_of, Permitted, History, history, next, standing}
use Rattle.guarantee.proofs.Slips.{copy_before_erase}
use Rattle.guarantee.proofs.Loosenings.{mount_still}
use Rattle.store.proofs.Removals.{removed-numbers}
use Rattle.guarantee.proofs.Events.{on_uncut, or-on}

-- ---- call by call
abbrev NeatAfter : List ℕ → Outcome → Type 0
NeatAfter img o = Neat (play_all o.steps img) o.after.numbers

-- a call that is refused leaves all as it was
by_reply : (img : List ℕ) (r : Record) (o : Outcome) → Neat img r.numbers → (o.reply ≡ Done → NeatAfter img o) → (is_done o.reply ≡ false → (o.steps ≡ []) × (o.after ≡ r)) → NeatAfter img o
by_reply img r o neat done refused = go (is_done o.reply) refl
  where
    go : (t : Bool) → is_done o.reply ≡ t → NeatAfter img o
    go true q = done (done-true o.reply q)
    go false q = let f = refused q in rw (f.0, f.1, play_all_nil img) neat

module _ (img : List ℕ) (b : Book) (o : ℕ → Origin) (noise : ℕ → List ℕ) (c : ℕ) (s : Sound img b o noise c c) (tight : Tight img b o) (neat : Neat img (mounted img).numbers) where
  write_neat : (file offset : ℕ) (given : Given) → NeatAfter img (write_given img (mounted img) file offset given)
  unfolding append_steps node_page
  write_neat file offset given =
      by_reply img (mounted img) (write_given img (mounted img) file offset given) neat
      (λ d.
      let e = given_outcome img (mounted img) file offset given d in
      let t = given_taken img (mounted img) file offset given d in
      let legal : AllLegal img (append_steps img (mounted img) file offset (second_given given) (bytes_given given)) = subst (λ (o : Outcome). AllLegal img o.steps) e (given-legal img (mounted img) file offset given) in
      subst (NeatAfter img) (sym e)
      (program_neat img (mounted img).numbers (next_sequence (mounted img).numbers) _ _ legal
      (ap headed (form_program _ _ _ img (node_ranges_lem img b o noise c s tight file offset (second_given given) (bytes_given given) t (λ j. j)) (sealed_length img b o noise c s tight file offset (second_given given) (bytes_given given) t (λ j. j)) legal.0.0.0)) (λ b. refl) neat))
      (λ q. let e = given-refused img (mounted img) file offset given q in (ap (λ (o : Outcome). o.steps) e, ap (λ (o : Outcome). o.after) e))

  cut_off_neat : (file offset : ℕ) → NeatAfter img (cut_off_of img (mounted img) file offset)
  unfolding cut_off_steps cut_off_page
  cut_off_neat file offset =
      by_reply img (mounted img) (cut_off_of img (mounted img) file offset) neat
      (λ d.
      let e = cut_off_outcome img (mounted img) file offset d in
      let t = cut_off_taken_lem img (mounted img) file offset d in
      let legal : AllLegal img (cut_off_steps img (mounted img) file offset) = subst (λ (o : Outcome). AllLegal img o.steps) e (cut_off-legal img (mounted img) file offset) in
      subst (NeatAfter img) (sym e)
      (program_neat img (mounted img).numbers (next_sequence (mounted img).numbers) _ _ legal
      (ap headed (form_program _ _ _ img (cut_off_ranges_lem img b o noise c s tight file offset t (λ j. j)) (spaces_length img b o noise c s tight file offset t (λ j. j)) legal.0.0.0)) (λ b. refl) neat))
      (λ q. let e = cut_off-refused img (mounted img) file offset q in (ap (λ (o : Outcome). o.steps) e, ap (λ (o : Outcome). o.after) e))

-- stages, from an image that was neat
staged_neat : (img : List ℕ) (s : Stage) → Neatly img s → AllLegal img s.steps → Neat (play_all s.steps img) s.after.numbers
staged_neat img s before legal = subst (λ (i : List ℕ). Neat i s.after.numbers) before.0 (before.1 legal)

module _ (img : List ℕ) (r : Record) (noise : List ℕ) (neat : Neat img r.numbers) where
  commit_neat : NeatAfter img (commit_of img r noise)
  commit_neat =
      by_reply img r (commit_of img r noise) neat
      (λ d.
      let e = commit_outcome img r noise d in
      let begun = begin img (cleaned r) in
      subst (NeatAfter img) (sym e)
      (staged_neat img (commit_stages noise begun) (stages_neatly noise img begun (begin_neatly img (cleaned r) neat)) (subst (λ (o : Outcome). AllLegal img o.steps) e (commit-legal img r noise))))
      (λ q. let e = commit-refused img r noise q in (ap (λ (o : Outcome). o.steps) e, ap (λ (o : Outcome). o.after) e))

  pub first_neatly : (file offset : ℕ) → Neatly img (removed_first img r file offset)
  unfolding removed_first
  first_neatly file offset = commit_neatly img (begin img (removed r file offset)) (begin_neatly img (removed r file offset) (rw (removed-numbers r file offset) neat))

  wipe_neat : (file offset : ℕ) → NeatAfter img (wipe_of img r noise file offset)
  wipe_neat file offset =
      by_reply img r (wipe_of img r noise file offset) neat
      (λ d.
      let e = wipe_outcome img r noise file offset d in
      let begun = removed_first img r file offset in
      subst (NeatAfter img) (sym e)
      (staged_neat img (commit_stages noise begun) (stages_neatly noise img begun (first_neatly file offset)) (subst (λ (o : Outcome). AllLegal img o.steps) e (wipe-legal img r noise file offset))))
      (λ q. let e = wipe-refused img r noise file offset q in (ap (λ (o : Outcome). o.steps) e, ap (λ (o : Outcome). o.after) e))

-- a gather: copy after copy
copies_neat : (block : ℕ) (gs img : List ℕ) (r : Record) → Copying block gs img r → Neat img r.numbers → Neat (play_all (copy_steps block gs img r) img) (copied_all block gs img r).numbers
unfolding copy_steps copied_all play_all copied
copies_neat block [] img r c neat = neat
copies_neat block (g ∷ gs) img r c neat = copies_neat block gs _ _ (copying_next block g gs img r c) one
  where
    one : Neat (whole (copy_step block img r g) img) (next_sequence r.numbers)
    one =
        let q = copy_is block g gs img r c in
        let ins = rw q at (copy_inside block g gs img r c) in
        rw q (program_neat img r.numbers (next_sequence r.numbers) _ _ ((ins, (copy_empty block g gs img r c).1), tt)
        (ap headed (form_program _ (header block g gs img r c) (payload block g gs img r c) img (header_range block g gs img r c) (payload-length block g gs img r c) ins.0) ∙ rw c.lives.0.node) (λ b. refl) neat)

gather_neat : (img : List ℕ) (r : Record) (block : ℕ) → Neat img r.numbers → NeatAfter img (gather_of img r block)
gather_neat img r block neat =
    by_reply img r (gather_of img r block) neat
    (λ d. subst (NeatAfter img) (sym (gather_outcome img r block d)) (copies_neat block (live_pages r.map block) img r (gather_copying img r block (gather_taken_lem img r block d)) neat))
    (λ q. let e = gather-refused img r block q in (ap (λ (o : Outcome). o.steps) e, ap (λ (o : Outcome). o.after) e))

-- ---- the machines
abbrev NeatOn : Machine → Type 0
NeatOn m = T m.on → Neat m.image m.store.numbers

module _ (m : Machine) (h : History m) (neat : NeatOn m) where
  mounting_neat : (map letters scratch : List ℕ) → T (lent_right (mount map letters scratch)) → NeatAfter m.image (mount_of m.image map letters scratch)
  mounting_neat map letters scratch lent =
      let e = mount_outcome m.image map letters scratch (copy_before_erase m h map letters scratch lent) in
      subst (NeatAfter m.image) (sym e) (mount_neat m.image (subst (λ (o : Outcome). AllLegal m.image o.steps) e (mount-legal m.image map letters scratch)))

  -- the other calls, after one that finished
  module _ (on : T m.on) where
    good : m.store ≡ mounted m.image
    good = (standing m h).settled.good on

    neat_mounted : Neat m.image (mounted m.image).numbers
    neat_mounted = subst (λ (r : Record). Neat m.image r.numbers) good (neat on)

    other_neat : (call : Call) → is_mount call ≡ false → NeatAfter m.image (outcome_of call m.image m.store)
    other_neat (mount map letters scratch) q = absurd (true-false refl q)
    other_neat (write file offset given) q =
        let s = (standing m h).settled in
        rw good (write_neat m.image m.book m.origin m.noise m.calls s.sound (s.tight on) neat_mounted file offset given)
    other_neat (read file offset output) q = rw (read_stepless m.image m.store file offset output, play_all_nil m.image) (neat on)
    other_neat (cut_off file offset) q =
        let s = (standing m h).settled in
        rw good (cut_off_neat m.image m.book m.origin m.noise m.calls s.sound (s.tight on) neat_mounted file offset)
    other_neat (commit noise) q = commit_neat m.image m.store noise (neat on)
    other_neat (wipe noise file offset) q = wipe_neat m.image m.store noise (neat on) file offset
    other_neat (gather block) q = gather_neat m.image m.store block (neat on)

  call_neat : (call : Call) → T (m.on || is_mount call) → T (lent_right call) → NeatAfter m.image (outcome_of call m.image m.store)
  call_neat (mount map letters scratch) may lent = mounting_neat map letters scratch lent
  call_neat (write file offset given) may lent = other_neat (or-on m.on may) (write file offset given) refl
  call_neat (read file offset output) may lent = other_neat (or-on m.on may) (read file offset output) refl
  call_neat (cut_off file offset) may lent = other_neat (or-on m.on may) (cut_off file offset) refl
  call_neat (commit noise) may lent = other_neat (or-on m.on may) (commit noise) refl
  call_neat (wipe noise file offset) may lent = other_neat (or-on m.on may) (wipe noise file offset) refl
  call_neat (gather block) may lent = other_neat (or-on m.on may) (gather block) refl

  step_neat : (e : Event) → Permitted m e → NeatOn (step m e)
  unfolding step left
  step_neat e may on =
      rw (play_all_lem e.n e.k (outcome_at m e).steps m.image (on_uncut m e on)) (call_neat e.call may.0 may.1)

start_neat : (img map letters noise : List ℕ) → T (size_right img) → T (buffers_right map letters) → length noise ≡ noise_size → NeatOn (start img map letters noise)
unfolding start left_whole
start_neat img map letters noise size lent long on =
    rw (format_taken_lem img map letters noise size lent long) (λ b h c e.
    let right = is_true (size_right img) size in
    let same = format_length img noise right long in
    let d = chosen_not format_numbers b c in
    format_empty img noise right long b (past b d.0 d.1 d.2) (rw same at h))
  where
    past : (b : ℕ) → (b ≡ 0 → ⊥) → (b ≡ 1 → ⊥) → (b ≡ 2 → ⊥) → 3 ≤ b
    past b x y z = omega (arith, x, y, z)

along_neat : (m : Machine) → History m → NeatOn m → (es : List Event) → Allowed m es → NeatOn (end_of m es)
along_neat m h neat [] a = neat
along_neat m h neat (e ∷ es) a = along_neat (step m e) (next m h e (a.0, a.1)) (step_neat m h neat e (a.0, a.1)) es a.2

pub neat_end : (m : Machine) → History m → NeatOn m
neat_end m h =
    subst NeatOn h.here
    (along_neat _ (history h.image h.map h.letters h.noise h.size h.lent h.long [] tt) (start_neat h.image h.map h.letters h.noise h.size h.lent h.long) h.events h.allowed)

-- ---- a mount then
module _ (m : Machine) (h : History m) (on : T m.on) (map letters scratch : List ℕ) (lent : T (lent_right (mount map letters scratch))) where
  accepted : (mount_of m.image map letters scratch).reply ≡ Done
  accepted = copy_before_erase m h map letters scratch lent

  -- gives the record that is there
  pub remount_same_record : (mount_of m.image map letters scratch).after ≡ m.store
  remount_same_record = ap (λ (o : Outcome). o.after) (mount_outcome m.image map letters scratch accepted) ∙ sym ((standing m h).settled.good on)

  -- erases only what is empty, or a data block without a live page all of whose headers the commit covers
  pub remount_steps : (mount_of m.image map letters scratch).steps ≡ each erase (which_from (is_swept m.image m.store) (blocks m.image) 0)
  unfolding mount_steps
  remount_steps = ap (λ (o : Outcome). o.steps) (mount_outcome m.image map letters scratch accepted) ∙ rw (← (standing m h).settled.good on)

  pub remount_erases : (b : ℕ) → b < blocks m.image → is_swept m.image m.store b ≡ true
      → (block_empty m.image b ≡ true) ⊎ (is_covered_dead m.image m.store b ≡ true)
  remount_erases = neat_swept m.image m.store (neat_end m h on)

  abbrev after : List ℕ
  after = (left_whole (mount_of m.image map letters scratch) m.image).image

  -- and keeps every live page
  pub remount_keeps_pages : (x : ℕ) → x < places → live m.store.map x ≡ true
      → page_at after (page_of m.store.map x) ≡ page_at m.image (page_of m.store.map x)
  unfolding left_whole
  remount_keeps_pages =
      let st = (standing m h).settled in
      let steps = mount_steps m.image in
      let whole = play_all_lem (length steps) 0 steps m.image (omega arith) in
      rw (st.good on, mount_outcome m.image map letters scratch accepted, ← whole)
      (mount_still m.image st.sound.mountable (length steps) 0).page-same

  -- another mount after it leaves the same: record, scratch, and the image byte for byte
  pub remount_twice : (map' letters' scratch' : List ℕ) → T (lent_right (mount map' letters' scratch'))
      → left_whole (mount_of after map' letters' scratch') after ≡ left_whole (mount_of m.image map letters scratch) m.image
  remount_twice map' letters' scratch' right =
      let t = and-true (buffers_right map' letters') (eqb (length scratch') places) (is_true _ right) in
      mount_twice m.image map letters scratch accepted map' letters' scratch' (buffers-true map' letters' t.0) (eqb-true _ _ t.1)
