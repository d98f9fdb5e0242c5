-- What is left when the recorder goes to the next contractor: after a commit or wipe that is done and leaves no payload, all blocks are empty but the three
-- chosen, every key is new, no byte is enciphered, and the image is a function of its length, the noise of that call, the two next numbers and three places.
use Prim.Native.Nat.{ℕ, ◌+◌, ◌*◌, ◌-◌, ◌/◌, ◌<◌, ◌≤◌}
use native.Mathlib.Omega.{arith}
use native.Mathlib.Decide.{dec_lt}
use mathlib.Core.Path.{◌≡◌, refl, sym, ap, subst, ◌∙◌}
use mathlib.Core.Logic.{◌⊎◌, inl, inr}
use mathlib.Core.Bool.{Bool, true, false, cond, not, ◌&&◌}
use mathlib.Core.List.{List, [], ◌∷◌, ◌++◌}
use mathlib.Core.Option.{Option, none, some}
use lib.Dec.{T, eqb}
use lib.ListN.{length, get_or, drop, length-replicate, get_or-replicate, drop_of_length-le}
use lib.Seq.{take-nil, ext_get_or}
use borrow.Author.Tests.{eqb-false, le-leb, lt-ltb, le-ltb}
use Rattle.base.specs.Part.{part}
use Rattle.base.specs.Each.{Each, all_are}
use Rattle.base.proofs.Choice.{true-false}
use Rattle.base.proofs.Searches.{any_all_fail}
use Rattle.page.specs.Plan.{file_plan, last_file, places, count_of, start_of}
use Rattle.page.specs.Key.{positions}
use Rattle.page.specs.Entry.{none as vacant, map_size, free_letter, used_letter, deleted_letter}
use Rattle.page.specs.Frame.{page_size, erased}
use Rattle.page.specs.Form.{is_empty}
use Rattle.page.proofs.Plans.{plan_some, plan_file, places_from}
use Rattle.image.specs.Size.{block_size, pages_in_block, blocks, size_right}
use Rattle.image.specs.Look.{page_at, block_at, block_empty}
use Rattle.image.specs.Step.{AllLegal, play_all}
use Rattle.image.proofs.Empties.{empty_block_page}
use Rattle.image.proofs.Looks.{sized}
use Rattle.image.proofs.Plays.{play_all_lem}
use Rattle.store.specs.Kind.{page_in, is_chosen}
use Rattle.store.specs.Record.{Record, with_numbers, live}
use Rattle.store.specs.Outcome.{Outcome, left}
use Rattle.store.specs.Format.{noise_size, buffers_right, formatted}
use Rattle.store.specs.Mount.{removes, mounted}
use Rattle.store.specs.Commit.{Stage, begin, cleaned, keys_replaced, commit_replaced, dead_erased, commit_stages}
use Rattle.store.specs.Wipe.{removed_first}
use Rattle.store.specs.declared.Numbers.{Numbers}
use Rattle.store.specs.Reply.{Done}
use Rattle.store.proofs.Fits.{Fit, fits_is}
use Rattle.store.proofs.Legals.{commit-legal, wipe-legal}
use Rattle.store.proofs.Outcomes.{mounted-full, commit_outcome, wipe_outcome}
use Rattle.guarantee.specs.Call.{Call, mount, write, read, cut_off, commit, wipe, gather, Event, outcome_of, Fate, replied, made_whole}
use Rattle.guarantee.specs.Book.{Book, Holding, is_at_position, held_among, book_removed, book_renewed, book_freed, only_if, removal_done, book_committed, wipe_commit_at, entered}
use Rattle.guarantee.specs.Origin.{cipher, key_byte}
use Rattle.guarantee.specs.Machine.{Machine, start, noise_of, step, Allowed, fate_of, outcome_at, left_at}
use Rattle.guarantee.specs.Statement.{MapHas, AtRest, purges}
use Rattle.guarantee.specs.Handover.{Purge, after_purge, Bare, Handover, handed, NothingLeft, handed_page, handed_image}
use Rattle.guarantee.proofs.Sounds.{Settled}
use Rattle.guarantee.proofs.Alterations.{succeeded}
use Rattle.guarantee.proofs.Histories.{end_of, History, history, end_then, along, at_end, standing}
use Rattle.guarantee.proofs.Forgets.{finished_book}
use Rattle.guarantee.proofs.InOrOut.{committed_files}
use Rattle.guarantee.proofs.Events.{on_uncut}
use Rattle.guarantee.proofs.StagedCall.{Ended}
use Rattle.guarantee.proofs.CommitCall.{commit-ended}
use Rattle.guarantee.proofs.WipeCall.{wipe-ended}
use Rattle.guarantee.proofs.Strays.{Neat, Neatly, begin_neatly, stages_neatly, stages_bare}
use Rattle.guarantee.proofs.Remounts.{first_neatly, neat_end}
use Rattle.guarantee.proofs.TakenCalls.{after_format_taken}
use Rattle.guarantee.proofs.KeysLeft.{used_held, purge-history, purge-on, purge-book, keys_used_or_new, wiped_none}
use Rattle.guarantee.proofs.BareCommits.{bare-page, bare-image}
use Rattle.guarantee.proofs.UncipheredBlocks.{empty_unciphered, chosen_unciphered}

-- ---- the book: no position is d after a commit, or the commit in a wipe, that is done
committed_clean : (c i p : ℕ) (b : Book) → (book_committed c i (replied Done) b).mark p ≡ deleted_letter → ⊥
unfolding book_committed book_freed book_renewed
committed_clean c i p b = go (eqb (b.mark p) deleted_letter) refl
  where
    go : (t : Bool) → eqb (b.mark p) deleted_letter ≡ t → cond t free_letter (b.mark p) ≡ deleted_letter → ⊥
    go true q d = omega arith
    go false q d = eqb-false (b.mark p) deleted_letter q d

purged_clean : (c p : ℕ) (b : Book) (call : Call) → T (purges call) → (entered c call (replied Done) b).mark p ≡ deleted_letter → ⊥
unfolding entered
purged_clean c p b (mount map letters scratch) t = absurd t
purged_clean c p b (write file offset payload) t = absurd t
purged_clean c p b (read file offset output) t = absurd t
purged_clean c p b (cut_off file offset) t = absurd t
purged_clean c p b (commit noise) t = committed_clean c 0 p b
purged_clean c p b (wipe noise file offset) t = committed_clean c wipe_commit_at p (book_removed file offset b)
purged_clean c p b (gather block) t = absurd t

-- without a payload no position is one's
bare_held : (b : Book) → Bare b → (p : ℕ) → held_among (λ x. true) b p ≡ false
unfolding held_among
bare_held b bare p = any_all_fail (λ x. true && is_at_position p (b.content x)) places 0 (λ x a l. rw (bare x (omega arith)))

-- ---- the flash: with nothing live all blocks that are not chosen are empty after a commit or wipe
abbrev BareAfter : List ℕ → Outcome → Type 0
BareAfter img o = ((x : ℕ) → x < places → live o.after.map x ≡ false) → (b : ℕ) → b < blocks (play_all o.steps img) → is_chosen o.after.numbers b ≡ false → block_empty (play_all o.steps img) b ≡ true

stages_empty : (noise img : List ℕ) (s : Stage) → Neatly img s → AllLegal img (commit_stages noise s).steps → ((x : ℕ) → x < places → live s.after.map x ≡ false)
    → (b : ℕ) → b < blocks (play_all (commit_stages noise s).steps img) → is_chosen (commit_stages noise s).after.numbers b ≡ false → block_empty (play_all (commit_stages noise s).steps img) b ≡ true
stages_empty noise img s before legal dead =
    subst (λ (i : List ℕ). (b : ℕ) → b < blocks i → is_chosen (commit_stages noise s).after.numbers b ≡ false → block_empty i b ≡ true) (stages_neatly noise img s before).0
    (stages_bare noise img s before legal dead)

purged_empty : (img : List ℕ) (r : Record) → Neat img r.numbers → (call : Call) → T (purges call) → (outcome_of call img r).reply ≡ Done → BareAfter img (outcome_of call img r)
unfolding commit_stages dead_erased keys_replaced commit_replaced
purged_empty img r neat (mount map letters scratch) t d = absurd t
purged_empty img r neat (write file offset payload) t d = absurd t
purged_empty img r neat (read file offset output) t d = absurd t
purged_empty img r neat (cut_off file offset) t d = absurd t
purged_empty img r neat (commit noise) t d =
    let e = commit_outcome img r noise d in
    subst (BareAfter img) (sym e)
    (stages_empty noise img (begin img (cleaned r)) (begin_neatly img (cleaned r) neat) (subst (λ (o : Outcome). AllLegal img o.steps) e (commit-legal img r noise)))
purged_empty img r neat (wipe noise file offset) t d =
    let e = wipe_outcome img r noise file offset d in
    subst (BareAfter img) (sym e)
    (stages_empty noise img (removed_first img r file offset) (first_neatly img r noise neat file offset) (subst (λ (o : Outcome). AllLegal img o.steps) e (wipe-legal img r noise file offset)))
purged_empty img r neat (gather block) t d = absurd t

-- behind the last block there is nothing
outside_empty : (img : List ℕ) (b : ℕ) → size_right img ≡ true → blocks img ≤ b → block_empty img b ≡ true
unfolding block_empty block_at part is_empty all_are
outside_empty img b size far =
    let z = sized img size in
    let none_left : drop (b * block_size) img ≡ [] = drop_of_length-le img {i = b * block_size} (omega (arith, z.full)) in
    rw none_left (ap (all_are erased) (take-nil block_size))

-- the last stage of the call
purge-ended : (x : Purge) → Ended x.before x.event.call (after_purge x)
purge-ended x = go x.event.call x.purging (succeeded m x.event x.done).1 (on_uncut m x.event (purge-on x))
  where
    m : Machine
    m = x.before

    settled : Settled m
    settled = (standing m x.history).settled

    go : (call : Call) → T (purges call) → (outcome_of call m.image m.store).reply ≡ Done → length (outcome_of call m.image m.store).steps ≤ x.event.n
        → Ended m call (step m (record { call = call; n = x.event.n; k = x.event.k }))
    go (mount map letters scratch) t d far = absurd t
    go (write file offset payload) t d far = absurd t
    go (read file offset output) t d far = absurd t
    go (cut_off file offset) t d far = absurd t
    go (commit noise) t d far = commit-ended m noise settled x.on d x.event.n x.event.k far
    go (wipe noise file offset) t d far = wipe-ended m noise file offset settled x.on d x.event.n x.event.k far
    go (gather block) t d far = absurd t

-- ---- a handover
module _ (x : Handover) where
  abbrev m : Machine
  m = x.purge.before

  abbrev call : Call
  call = x.purge.event.call

  abbrev after : Machine
  after = handed x

  rests : AtRest after
  rests = at_end after (purge-history x.purge) (purge-on x.purge)

  settled : Settled after
  settled = (standing after (purge-history x.purge)).settled

  as_mounted : after.store ≡ mounted after.image
  as_mounted = settled.good (purge-on x.purge)

  -- every key is of this call
  handed-keys : (a p d i : ℕ) → after.origin a ≡ key_byte p d i → d ≡ m.calls
  handed-keys a p d i q = go (keys_used_or_new x.purge a p d i q)
    where
      go : T (eqb d (after.book.bringer p) && held_among (λ x. true) after.book p) ⊎ (d ≡ m.calls) → d ≡ m.calls
      go (inl t) = absurd (unheld (eqb d (after.book.bringer p)) (let z = bare_held after.book x.bare p in rw z at t))
        where
          unheld : (v : Bool) → T (v && false) → ⊥
          unheld true t = t
          unheld false t = t
      go (inr n) = n

  -- the map names nothing, every letter is f
  none_at : (y : ℕ) → y < places → MapHas after.store.map y none
  none_at y below = subst (λ (c : Option Holding). MapHas after.store.map y c) (x.bare y below) (rests.mapped y below)

  none-live : (y : ℕ) → y < places → live after.store.map y ≡ false
  none-live y below = let v = (none_at y below).0 in rw v

  map_clear : after.store.map ≡ formatted.map
  map_clear =
      ext_get_or vacant after.store.map formatted.map (full ∙ sym (length-replicate map_size vacant)) (λ j l. entry j (omega (arith, full)) ∙ sym (get_or-replicate map_size j vacant vacant (omega (arith, full))))
    where
      full : length after.store.map ≡ map_size
      full = rw as_mounted (mounted-full after.image).map_full

      entry : (j : ℕ) → j < map_size → get_or after.store.map j vacant ≡ vacant
      entry j l = elim (dec_lt j places) [
        | yes h ↦ (none_at j h).0
        | no h ↦ let z : places + (j - places) ≡ j = omega arith in subst (λ (i : ℕ). get_or after.store.map i vacant ≡ vacant) z (none_at (j - places) (omega arith)).1
      ]

  letter_free : (p : ℕ) → p < positions → get_or after.store.letters p 0 ≡ free_letter
  letter_free p below = rw as_mounted (go (fit.letter p below))
    where
      fit : Fit after.image (mounted after.image)
      fit = fits_is after.image (mounted after.image) settled.sound.mountable.fit

      marked : (l : ℕ) → get_or (mounted after.image).letters p 0 ≡ l → after.book.mark p ≡ l
      marked l q = sym (settled.sound.marks p below) ∙ q

      go : (get_or (mounted after.image).letters p 0 ≡ free_letter) ⊎ (get_or (mounted after.image).letters p 0 ≡ used_letter) ⊎ (get_or (mounted after.image).letters p 0 ≡ deleted_letter)
          → get_or (mounted after.image).letters p 0 ≡ free_letter
      go (inl f) = f
      go (inr (inl u)) = absurd (true-false (used_held after settled p below (marked used_letter u)) (bare_held after.book x.bare p))
      go (inr (inr d)) = absurd (purged_clean m.calls p m.book call x.purge.purging (ap (λ (b : Book). b.mark p) (sym (purge-book x.purge)) ∙ marked deleted_letter d))

  letters_clear : after.store.letters ≡ formatted.letters
  letters_clear =
      let full : length after.store.letters ≡ positions = rw as_mounted (mounted-full after.image).letters_full in
      ext_get_or 0 after.store.letters formatted.letters (full ∙ sym (length-replicate positions free_letter))
      (λ p l. letter_free p (omega (arith, full)) ∙ sym (get_or-replicate positions p free_letter 0 (omega (arith, full))))

  handed_record : after.store ≡ with_numbers formatted after.store.numbers
  handed_record = ap (λ (t : List ℕ). record { map = t; letters = after.store.letters; numbers = after.store.numbers }) map_clear
      ∙ ap (λ (t : List ℕ). record { map = formatted.map; letters = t; numbers = after.store.numbers }) letters_clear

  -- every block is empty but the two key blocks and the commit block
  handed-blocks : (b : ℕ) → b < blocks after.image → is_chosen after.store.numbers b ≡ false → block_empty after.image b ≡ true
  unfolding step left
  handed-blocks =
      let e = x.purge.event in
      rw (play_all_lem e.n e.k (outcome_at m e).steps m.image (on_uncut m e (purge-on x.purge)))
      (purged_empty m.image m.store (neat_end m x.purge.history x.purge.on) call x.purge.purging (succeeded m e x.purge.done).1 none-live)

  -- no byte is enciphered: none in the chosen blocks, and none in an empty block
  handed-unciphered : (a p d : ℕ) → after.origin a ≡ cipher p d → ⊥
  handed-unciphered a p d z = go (is_chosen after.store.numbers (a / block_size)) refl
    where
      hollow : block_empty after.image (a / block_size) ≡ true → ⊥
      hollow y =
          let here : a / block_size ≡ a / page_size / pages_in_block = omega arith in
          empty_unciphered after (purge-history x.purge) (purge-on x.purge) a p d z (empty_block_page after.image (a / page_size) (rw here at y))

      go : (t : Bool) → is_chosen after.store.numbers (a / block_size) ≡ t → ⊥
      go true q = chosen_unciphered after (purge-history x.purge) (purge-on x.purge) a p d z q
      go false q = elim (dec_lt (a / block_size) (blocks after.image)) [
        | yes l ↦ hollow (handed-blocks (a / block_size) l q)
        | no l ↦ hollow (outside_empty after.image (a / block_size) settled.sound.mountable.size (omega arith))
      ]

  pub handover_empty : NothingLeft (handed x) x.purge.before.calls
  handover_empty = record { elsewhere = handed-blocks; keys = handed-keys; unciphered = handed-unciphered; cleared = handed_record }

  -- the image
  abbrev Paged : List ℕ → List ℕ → Numbers → Type 0
  Paged img noise n = (b i : ℕ) → b < blocks img → i < pages_in_block → page_at img (page_in b i) ≡ handed_page noise n b i

  handed-pages : Paged after.image (noise_of call) after.store.numbers
  unfolding commit_stages dead_erased keys_replaced commit_replaced
  handed-pages =
      let y = purge-ended x.purge in
      let numbers = ap (λ (r : Record). r.numbers) y.store in
      let pages = bare-page m.image y.book m.origin y.noise m.calls m.book.bringer y.begun y.books y.first
      (sym (ap (λ (r : Record). r.letters) y.store) ∙ letters_clear) (sym (ap (λ (r : Record). r.map) y.store) ∙ map_clear)
      (λ b l c. subst (λ (i : List ℕ). block_empty i b ≡ true) y.image (handed-blocks b (subst (λ (i : List ℕ). b < blocks i) (sym y.image) l) (subst (λ (n : Numbers). is_chosen n b ≡ false) (sym numbers) c))) in
      subst (λ (n : Numbers). Paged after.image (noise_of call) n) (sym numbers)
      (subst (λ (a : List ℕ). Paged after.image a (commit_stages (y.noise m.calls) y.begun).after.numbers) y.given
      (subst (λ (i : List ℕ). Paged i (y.noise m.calls) (commit_stages (y.noise m.calls) y.begun).after.numbers) (sym y.image) pages))

  pub handover_image : (handed x).image ≡ handed_image (length (handed x).image) (noise_of x.purge.event.call) (handed x).store.numbers
  handover_image = bare-image after.image (noise_of call) after.store.numbers settled.sound.mountable.size handed-pages

-- two handovers of one length, with the same noise in the last call and the same five numbers, whatever lists led to them: image and record are the same
pub handover_same : (x y : Handover) → length (handed x).image ≡ length (handed y).image → noise_of x.purge.event.call ≡ noise_of y.purge.event.call → (handed x).store.numbers ≡ (handed y).store.numbers
    → ((handed x).image ≡ (handed y).image) × ((handed x).store ≡ (handed y).store)
handover_same x y long noise numbers = (
  handover_image x ∙ rw (long, noise, numbers) (sym (handover_image y)),
  (handover_empty x).cleared ∙ ap (with_numbers formatted) numbers ∙ sym (handover_empty y).cleared,
)

-- ---- how a handover comes about: the record that a commit or wipe leaves, which a device can look at, has no live place
pub no_live_place : (x : Purge) → ((y : ℕ) → y < places → live (after_purge x).store.map y ≡ false) → Handover
no_live_place x dead = record { purge = x; bare = λ y l. unfilled y l ((after_purge x).book.content y) ((at_end (after_purge x) (purge-history x) (purge-on x)).mapped y l) }
  where
    unfilled : (y : ℕ) → y < places → (c : Option Holding) → MapHas (after_purge x).store.map y c → c ≡ none
    unfilled y l none q = refl
    unfilled y l (some h) q = absurd (let t = q.0 in let z = dead y l in rw z at t)

-- ---- and without looking: a list without a write in which each file is wiped whole and done, and which ends with a commit or wipe that is done. What
-- is cut between them, how often it is mounted and what else is called has no part in it
abbrev pub is_write : Call → Bool
is_write (mount map letters scratch) = false
is_write (write file offset payload) = true
is_write (read file offset output) = false
is_write (cut_off file offset) = false
is_write (commit noise) = false
is_write (wipe noise file offset) = false
is_write (gather block) = false

abbrev pub NoWrite : Event → Type 0
NoWrite e = T (not (is_write e.call))

-- some event of a list is a wipe of the whole file, and done
abbrev pub WipedIn : ℕ → Machine → List Event → Type 0
WipedIn file m [] = ⊥
WipedIn file m (e ∷ es) = ((noise : List ℕ) × (e.call ≡ wipe noise file 0) × ((left_at m e).reply ≡ Done)) ⊎ WipedIn file (step m e) es

-- without a write, what is empty stays empty
module _ (x : ℕ) where
  none_stays : (m : Machine) (e : Event) → NoWrite e → m.book.content x ≡ none → (step m e).book.content x ≡ none
  unfolding step entered book_removed
  none_stays m e quiet q = go e.call quiet (fate_of e (outcome_at m e) (left_at m e))
    where
      removed : (file offset : ℕ) (t : Bool) → (only_if t (book_removed file offset) m.book).content x ≡ none
      removed file offset true = gone (removes file offset x)
        where
          gone : (t : Bool) → cond t none (m.book.content x) ≡ none
          gone true = refl
          gone false = q
      removed file offset false = q

      go : (call : Call) → T (not (is_write call)) → (fate : Fate) → (entered m.calls call fate m.book).content x ≡ none
      go (mount map letters scratch) t fate = q
      go (write file offset payload) t fate = absurd t
      go (read file offset output) t fate = q
      go (cut_off file offset) t fate = removed file offset (made_whole fate 0)
      go (commit noise) t fate = ap (λ (f : ℕ → Option Holding). f x) (committed_files m.calls 0 fate m.book) ∙ q
      go (wipe noise file offset) t fate = ap (λ (f : ℕ → Option Holding). f x) (committed_files m.calls wipe_commit_at fate _) ∙ removed file offset (made_whole fate removal_done)
      go (gather block) t fate = q

  none_along : (m : Machine) (es : List Event) → Each NoWrite es → m.book.content x ≡ none → (end_of m es).book.content x ≡ none
  none_along m [] quiet q = q
  none_along m (e ∷ es) quiet q = none_along (step m e) es quiet.1 (none_stays m e quiet.0 q)

  wiped_in : (file : ℕ) → removes file 0 x ≡ true → (m : Machine) (es : List Event) → Each NoWrite es → WipedIn file m es → (end_of m es).book.content x ≡ none
  wiped_in file r m [] quiet w = absurd w
  wiped_in file r m (e ∷ es) quiet (inl w) = none_along (step m e) es quiet.1 (wiped_none m e w.0 file 0 w.1 w.2 x r)
  wiped_in file r m (e ∷ es) quiet (inr w) = wiped_in file r (step m e) es quiet.1 w

-- every place is of some file
in_a_file : (x : ℕ) → x < places → (file : ℕ) × (file ≤ last_file) × (removes file 0 x ≡ true)
unfolding removes
in_a_file x l =
    let s = plan_some x l in
    let r = places_from file_plan s.0 0 s.1 x s.2 (omega arith) in
    (s.0, plan_file s.0 s.1 x s.2, rw (le-leb (start_of file_plan s.0 + 0) x r.0, lt-ltb x (start_of file_plan s.0 + count_of file_plan s.0) r.1))

module _ (m : Machine) (h : History m) (es : List Event) (allowed : Allowed m es) (on : T (end_of m es).on) (last : Event) (purging : T (purges last.call)) (done : (left_at (end_of m es) last).reply ≡ Done) where
  pub all_wiped : Each NoWrite (es ++ (last ∷ [])) → ((file : ℕ) → file ≤ last_file → WipedIn file m (es ++ (last ∷ []))) → Handover
  all_wiped quiet wiped =
      record {
        purge = record { before = end_of m es; history = along m h es allowed; on = on; event = last; purging = purging; done = done };
        bare = λ x l. let f = in_a_file x l in subst (λ (n : Machine). n.book.content x ≡ none) (end_then m es last) (wiped_in x f.0 f.2 m (es ++ (last ∷ [])) quiet (wiped f.0 f.1));
      }

-- ---- and there are handovers: after any format, a commit with power enough
pub format_handed : (img map letters noise : List ℕ) → T (size_right img) → T (buffers_right map letters) → length noise ≡ noise_size → (next : List ℕ) → length next ≡ noise_size → Handover
unfolding start left entered
format_handed img map letters noise size lent long next full =
    record {
      purge = record { before = start img map letters noise; history = history img map letters noise size lent long [] tt; on = tt; event = committing; purging = tt; done = done };
      bare = λ x l. ap (λ (b : Book). b.content x) (finished_book (start img map letters noise) committing done)
          ∙ ap (λ (f : ℕ → Option Holding). f x) (committed_files 1 0 (replied Done) (start img map letters noise).book);
    }
  where
    out : Outcome
    out = outcome_of (commit next) (start img map letters noise).image (start img map letters noise).store

    committing : Event
    committing = record { call = commit next; n = length out.steps; k = 0 }

    done : (left_at (start img map letters noise) committing).reply ≡ Done
    done = rw (le-ltb (length out.steps) (length out.steps) (omega arith)) ((after_format_taken img map letters noise size lent long).commits next full)
