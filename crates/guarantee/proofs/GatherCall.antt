-- Gather, as an event: taken or refused, whole or cut in any of its copies. The book stays.
use Prim.Native.Nat.{ℕ, zero, suc, ◌+◌, ◌/◌, ◌≤◌}
use native.Mathlib.Omega.{arith}
use mathlib.Core.Path.{◌≡◌, refl, sym, ap, subst, ◌∙◌}
use mathlib.Core.Bool.{Bool, true, false, cond}
use mathlib.Core.List.{List, [], ◌∷◌}
use lib.Dec.{T}
use lib.ListN.{length}
use Rattle.base.proofs.Choice.{true-false}
use Rattle.image.specs.Size.{block_size, pages_in_block}
use Rattle.image.specs.Look.{page_at, form_at}
use Rattle.image.specs.Step.{Step, program, whole, up_to, play}
use Rattle.image.proofs.Forms.{form_same}
use Rattle.store.specs.Reply.{Done, is_done}
use Rattle.store.specs.Kind.{is_data}
use Rattle.store.specs.Record.{Record}
use Rattle.store.specs.Outcome.{Outcome, left}
use Rattle.store.specs.Find.{is_open, new_page_but, found_at}
use Rattle.store.specs.Mount.{mounted}
use Rattle.store.specs.Gather.{live_pages, copy_of, copy_step, copied, copy_steps, copied_all, gather_of}
use Rattle.store.specs.declared.Numbers.{Numbers}
use Rattle.std.specs.Prelude.{Some}
use Rattle.store.proofs.Outcomes.{gather_outcome, gather-refused}
use Rattle.store.proofs.Verdicts.{gather_taken_lem, done-true}
use Rattle.store.proofs.Views.{covered_now}
use Rattle.store.proofs.Gathers.{Copying, page-same, sequence_next, copying_next, gather_copying, gather-emptied}
use Rattle.guarantee.specs.Call.{Call, gather, Event, Fate, replied}
use Rattle.guarantee.specs.Book.{Book, entered}
use Rattle.guarantee.specs.Origin.{Origin, bringer_in, byte_origin, trace_up_to, trace}
use Rattle.guarantee.specs.Unsettled.{unsettled_after}
use Rattle.guarantee.specs.Machine.{Machine, outcome_at, left_at, fate_of, step}
use Rattle.guarantee.specs.Statement.{copy_for, copies_for}
use Rattle.guarantee.proofs.Sounds.{SomeEmpty, Sound, Tight, Settled}
use Rattle.guarantee.proofs.Steps.{sound_later}
use Rattle.guarantee.proofs.Events.{later_noise, calls_next, on_uncut, call_settled}
use Rattle.guarantee.proofs.GatherPages.{step_cut, step_sound, step_tight, step_record, step-some, step_covered}

-- ---- the copies in a row, at each cut and at their end
module _ (block : ℕ) (b : Book) (noise : ℕ → List ℕ) (t : ℕ) (new : ℕ → ℕ) where
  abbrev of : List ℕ → ℕ → Origin
  of = byte_origin b.bringer new

  -- what stands after n steps and k bytes
  pub record Through (gs img : List ℕ) (r : Record) (o : ℕ → Origin) (n k : ℕ) : Type 0 where
    pub sound : Sound (play n k (copy_steps block gs img r) img) b (trace of n k (copy_steps block gs img r) o) noise t t
    pub tight : length (copy_steps block gs img r) ≤ n → Tight (play n k (copy_steps block gs img r) img) b (trace of n k (copy_steps block gs img r) o)
    pub good : length (copy_steps block gs img r) ≤ n → copied_all block gs img r ≡ mounted (play n k (copy_steps block gs img r) img)
    pub some : length (copy_steps block gs img r) ≤ n → SomeEmpty (play n k (copy_steps block gs img r) img)
    pub covered : length (copy_steps block gs img r) ≤ n → covered_now (play n k (copy_steps block gs img r) img) ≡ covered_now img
    pub pages : length (copy_steps block gs img r) ≤ n → (h : ℕ) → h / pages_in_block ≡ block → page_at (play n k (copy_steps block gs img r) img) h ≡ page_at img h

  pub copies_through : (gs img : List ℕ) (r : Record) (o : ℕ → Origin) → Sound img b o noise t t → Tight img b o → r ≡ mounted img → SomeEmpty img
      → Copying block gs img r
      → (n k : ℕ) → Through gs img r o n k
  unfolding copy_steps copied_all play trace
  copies_through [] img r o s tight good room c n k =
      record {
        sound = s;
        tight = λ l. tight;
        good = λ l. good;
        some = λ l. room;
        covered = λ l. refl;
        pages = λ l h e. refl;
      }
  copies_through (g ∷ gs) img r o s tight good room c zero k =
      record {
        sound = subst (λ (r : Record). Sound (up_to k (copy_step block img r g) img) b (trace_up_to of k (copy_step block img r g) o) noise t t) (sym good)
            (step_cut block g gs img b o noise t s tight (subst (Copying block (g ∷ gs) img) good c) new k);
        tight = λ l. absurd (omega arith);
        good = λ l. absurd (omega arith);
        some = λ l. absurd (omega arith);
        covered = λ l. absurd (omega arith);
        pages = λ l. absurd (omega arith);
      }
  copies_through (g ∷ gs) img r o s tight good room c (suc n) k =
      let c' = subst (Copying block (g ∷ gs) img) good c in
      let rest = copies_through gs (whole (copy_step block img r g) img) (copied block img r g) (trace_up_to of block_size (copy_step block img r g) o)
      (subst (λ (r : Record). Sound (whole (copy_step block img r g) img) b (trace_up_to of block_size (copy_step block img r g) o) noise t t) (sym good)
      (step_sound block g gs img b o noise t s tight c' new))
      (subst (λ (r : Record). Tight (whole (copy_step block img r g) img) b (trace_up_to of block_size (copy_step block img r g) o)) (sym good)
      (step_tight block g gs img b o noise t s tight c' new))
      (subst (λ (r : Record). copied block img r g ≡ mounted (whole (copy_step block img r g) img)) (sym good)
      (step_record block g gs img b o noise t s tight c' new))
      (subst (λ (r : Record). SomeEmpty (whole (copy_step block img r g) img)) (sym good) (step-some block g gs img b o noise t s tight c' new room))
      (copying_next block g gs img r c) n k in
      record {
        sound = rest.sound;
        tight = λ l. rest.tight (omega arith);
        good = λ l. rest.good (omega arith);
        some = λ l. rest.some (omega arith);
        covered = λ l. rest.covered (omega arith)
            ∙ subst (λ (r : Record). covered_now (whole (copy_step block img r g) img) ≡ covered_now img) (sym good)
            (step_covered block g gs img b o noise t s tight c' new);
        pages = λ l h e. rest.pages (omega arith) h e ∙ page-same block g gs img r c h e;
      }

-- a row of copies erases nothing
pub copies_unsettled : (block : ℕ) (gs img : List ℕ) (r : Record) (n : ℕ) (u : ℕ → Bool) → unsettled_after n (copy_steps block gs img r) u ≡ u
unfolding copy_steps copy_step unsettled_after
copies_unsettled block [] img r n u = refl
copies_unsettled block (g ∷ gs) img r zero u = refl
copies_unsettled block (g ∷ gs) img r (suc n) u = copies_unsettled block gs (whole (copy_step block img r g) img) (copied block img r g) n u

-- ---- the event
gather_unnoted : (c block : ℕ) (fate : Fate) (b : Book) → entered c (gather block) fate b ≡ b
unfolding entered
gather_unnoted c block fate b = refl

module _ (m : Machine) (block : ℕ) (s : Settled m) (on : T m.on) where
  abbrev call : Call
  call = gather block

  abbrev out : Outcome
  out = gather_of m.image m.store block

  module _ (done : out.reply ≡ Done) (n k : ℕ) where
    abbrev e : Event
    e = record { call = call; n = n; k = k }

    abbrev gs : List ℕ
    gs = live_pages m.store.map block

    is : (out.steps ≡ copy_steps block gs m.image m.store) × (out.after ≡ copied_all block gs m.image m.store)
    is = let w = gather_outcome m.image m.store block done in (ap (λ (o : Outcome). o.steps) w, ap (λ (o : Outcome). o.after) w)

    through : Through block m.book m.noise m.calls (bringer_in m.calls call m.book) gs m.image m.store m.origin n k
    through =
        copies_through block m.book m.noise m.calls (bringer_in m.calls call m.book) gs m.image m.store m.origin s.sound
        (s.tight on) (s.good on) (s.some_empty on)
        (gather_copying m.image m.store block (gather_taken_lem m.image m.store block done)) n k

    image_is : (step m e).image ≡ play n k (copy_steps block gs m.image m.store) m.image
    unfolding step left
    image_is = rw is.0

    book_is : (step m e).book ≡ m.book
    unfolding step left
    book_is = gather_unnoted m.calls block (fate_of e (outcome_at m e) (left_at m e)) m.book

    origin_is : (step m e).origin ≡ trace (byte_origin m.book.bringer (bringer_in m.calls call m.book)) n k (copy_steps block gs m.image m.store) m.origin
    unfolding step left
    origin_is = rw is.0

    store_is : (step m e).store ≡ copied_all block gs m.image m.store
    unfolding step left
    store_is = is.1

    uncut : T (step m e).on → length (copy_steps block gs m.image m.store) ≤ n
    uncut h = subst (λ (ss : List Step). length ss ≤ n) is.0 (on_uncut m e h)

    -- no block is erased
    unsettled-same : (step m e).unsettled ≡ m.unsettled
    unfolding step
    unsettled-same = rw is.0 (copies_unsettled block gs m.image m.store n m.unsettled)

    taken_settled : Settled (step m e)
    taken_settled =
        record {
          sound = rw (image_is, book_is, origin_is, calls_next m e)
              (sound_later _ _ _ m.noise (step m e).noise m.calls (m.calls + 1) m.calls (m.calls + 1) (omega arith) (omega arith)
              (later_noise m e) through.sound);
          good = λ h. store_is ∙ through.good (uncut h) ∙ ap mounted (sym image_is);
          tight = λ h. rw (image_is, book_is, origin_is) (through.tight (uncut h));
          some_empty = λ h. rw image_is (through.some (uncut h));
          unsettled_idle = λ d q. absurd (true-false (subst (λ (u : ℕ → Bool). u d ≡ true) unsettled-same q) (s.all_settled on d));
          all_settled = λ h. rw unsettled-same (s.all_settled on);
        }

    -- finished, it leaves the commit, and the pages of its block
    pub gather_covered : length out.steps ≤ n → covered_now (step m e).image ≡ covered_now m.image
    gather_covered l = ap covered_now image_is ∙ through.covered (subst (λ (ss : List Step). length ss ≤ n) is.0 l)

    pub gather-pages : length out.steps ≤ n → (h : ℕ) → h / pages_in_block ≡ block → page_at (step m e).image h ≡ page_at m.image h
    gather-pages l h q = ap (λ (i : List ℕ). page_at i h) image_is ∙ through.pages (subst (λ (ss : List Step). length ss ≤ n) is.0 l) h q

  pub gather_settled : (n k : ℕ) → Settled (step m (record { call = call; n = n; k = k }))
  gather_settled = call_settled m call s on (gather-refused m.image m.store block)
      (λ q. gather_unnoted m.calls block (replied out.reply) m.book) taken_settled

-- ---- what it programs: the live pages with new sequences
-- the search goes by the chosen blocks alone
numbers_agree : (block : ℕ) (img : List ℕ) (n n' : Numbers) → n.keys0 ≡ n'.keys0 → n.keys1 ≡ n'.keys1 → n.commit ≡ n'.commit
    → new_page_but (Some block) img n ≡ new_page_but (Some block) img n'
unfolding new_page_but is_open is_data
numbers_agree block img n n' a b c = rw (a, b, c)

module _ (m : Machine) (block : ℕ) (s : Settled m) (on : T m.on) where
  -- what the copies so far have left as it was
  record Same (gs img : List ℕ) (r : Record) : Type 0 where
    copying : Copying block gs img r
    pages : (h : ℕ) → h / pages_in_block ≡ block → page_at img h ≡ page_at m.image h
    keys0 : r.numbers.keys0 ≡ m.store.numbers.keys0
    keys1 : r.numbers.keys1 ≡ m.store.numbers.keys1
    commit : r.numbers.commit ≡ m.store.numbers.commit

  module _ (g : ℕ) (gs img : List ℕ) (r : Record) (w : Same (g ∷ gs) img r) where
    one_is : copy_step block img r g ≡ program (found_at (new_page_but (Some block) img m.store.numbers)) (copy_for m.image g r.numbers.sequence)
    unfolding copy_step copy_of
    one_is =
        let p = w.pages g w.copying.lives.0.in_block in
        let f : form_at img g ≡ form_at m.image g = form_same m.image img g p in
        let a = numbers_agree block img r.numbers m.store.numbers w.keys0 w.keys1 w.commit in
        rw (a, p, f)

    next_is : Same gs (whole (copy_step block img r g) img) (copied block img r g)
    unfolding copied
    next_is =
        record {
          copying = copying_next block g gs img r w.copying;
          pages = λ h e. page-same block g gs img r w.copying h e ∙ w.pages h e;
          keys0 = w.keys0;
          keys1 = w.keys1;
          commit = w.commit;
        }

  first : (d there : Step) (gs img : List ℕ) (n : ℕ) → d ≡ there → (ds : List Step) → ds ≡ copies_for m block gs (whole d img) n
      → d ∷ ds ≡ there ∷ copies_for m block gs (whole there img) n
  first d there gs img n e ds q = rw (q, e)

  copies_are : (gs img : List ℕ) (r : Record) → Same gs img r → copy_steps block gs img r ≡ copies_for m block gs img r.numbers.sequence
  unfolding copy_steps
  copies_are [] img r w = refl
  copies_are (g ∷ gs) img r w =
      let rest = copies_are gs (whole (copy_step block img r g) img) (copied block img r g) (next_is g gs img r w) in
      first (copy_step block img r g) _ gs img (r.numbers.sequence + 1) (one_is g gs img r w)
      (copy_steps block gs (whole (copy_step block img r g) img) (copied block img r g))
      (rest ∙ ap (copies_for m block gs (whole (copy_step block img r g) img)) (sequence_next block g gs img r w.copying))

  pub gather-programs : (gather_of m.image m.store block).steps
      ≡ cond (is_done (gather_of m.image m.store block).reply) (copies_for m block (live_pages m.store.map block) m.image
      m.store.numbers.sequence) []
  gather-programs = go (is_done (gather_of m.image m.store block).reply) refl
    where
      go : (t : Bool) → is_done (gather_of m.image m.store block).reply ≡ t
          → (gather_of m.image m.store block).steps ≡ cond t (copies_for m block (live_pages m.store.map block) m.image m.store.numbers.sequence) []
      go true q =
          let done = done-true (gather_of m.image m.store block).reply q in
          let c = gather_copying m.image m.store block (gather_taken_lem m.image m.store block done) in
          ap (λ (o : Outcome). o.steps) (gather_outcome m.image m.store block done)
          ∙ copies_are (live_pages m.store.map block) m.image m.store
          (record { copying = c; pages = λ h e. refl; keys0 = refl; keys1 = refl; commit = refl })
      go false q = ap (λ (o : Outcome). o.steps) (gather-refused m.image m.store block q)

  pub gather_empties : (gather_of m.image m.store block).reply ≡ Done → live_pages (gather_of m.image m.store block).after.map block ≡ []
  gather_empties done =
      subst (λ (o : Outcome). live_pages o.after.map block ≡ []) (sym (gather_outcome m.image m.store block done))
      (gather-emptied m.image m.store block (gather_taken_lem m.image m.store block done))
